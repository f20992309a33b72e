-- Which images of an updating file are untorn by its disk's past. A write is read as what it is there for, not by each of its bytes: a block that is spelled inside a value is known to nobody.
use Rattle.std.specs.Prelude.{◌≡◌, ◌⊎◌, ℕ, zero, suc, ◌+◌, ◌-◌, List, [], ◌∷◌, length, drop, Option, Some, None, if◌then◌else◌, ◌==◌}
use Rattle.tk_disk.specs.Past.{Write, Past}
use Rattle.tk_block.specs.Sizes.{cell_size, link_offset, body_offset}
use Rattle.tk_block.specs.Text.{head_at, base_of}
use Rattle.tk_block.specs.Blocks.{body_at}
use Rattle.tk_block.specs.declared.block.Body.{Body}
use Rattle.tk_block.specs.declared.head.StaticHead.{StaticHead}
use Rattle.tk_append.specs.Untorn.{AnyWrite}
use Rattle.tk_update.specs.Restored.{Seen, seen_in}

abbrev pub body_alone : Option Body → (place : ℕ) → Write → Option Body
body_alone (Some b) q w = if w.at == q + body_offset then Some b else None
body_alone None q w = if w.at == q + link_offset then body_at (drop cell_size w.bytes) q else None

abbrev pub body_behind : Option ℕ → (place : ℕ) → Write → Option Body
body_behind (Some e) q w = if w.at == q then body_at (drop body_offset w.bytes) q else None
body_behind None q w = body_alone (body_at w.bytes (w.at - body_offset)) q w

-- the body that a write gives the block at a place: the one behind a head that the write begins with; else one that it begins with; else one behind a link
abbrev pub body_written : (place : ℕ) → Write → Option Body
body_written q w = body_behind (head_at w.bytes w.at) q w

-- the write begins with this head, at a block's place
abbrev pub BeginsWithHead : (place extent : ℕ) → Write → Type 0
BeginsWithHead q e w = (w.at ≡ q) × (head_at w.bytes q ≡ Some e)

abbrev pub AnySeen : (Seen → Type 0) → List Seen → Type 0
AnySeen P [] = ⊥
AnySeen P (s ∷ ss) = P s ⊎ AnySeen P ss

abbrev pub AllSeen : (Seen → Type 0) → List Seen → Type 0
AllSeen P [] = Unit {0}
AllSeen P (s ∷ ss) = P s × AllSeen P ss

-- a block of this extent was seen at the place
abbrev pub StoodAt : StaticHead → Past → (place extent : ℕ) → Type 0
StoodAt h p q e = AnySeen (λ s. (s.place ≡ q) × (s.extent ≡ e)) (seen_in h p.fixed)

-- it stood there at the last hard synchronisation, or was written there since
abbrev pub IsKnownHead : StaticHead → Past → (place extent : ℕ) → Type 0
IsKnownHead h p q e = StoodAt h p q e ⊎ AnyWrite (BeginsWithHead q e) p.writes

abbrev pub IsKnownBody : StaticHead → Past → (place : ℕ) → Body → Type 0
IsKnownBody h p q b = AnySeen (λ s. (s.place ≡ q) × (s.body ≡ Some b)) (seen_in h p.fixed) ⊎ AnyWrite (λ w. body_written q w ≡ Some b) p.writes

-- at each place to which the heads lead, a head or a body whose check matches stood there or was written there since
abbrev pub UntornFrom : (most : ℕ) → StaticHead → Past → (place : ℕ) → (c : List ℕ) → Type 0
UntornFrom zero h p q c = Unit {0}
UntornFrom (suc n) h p q c =
    ((e : ℕ) → head_at (drop q c) q ≡ Some e → IsKnownHead h p q e × UntornFrom n h p (q + e) c)
    × ((b : Body) → body_at (drop (q + body_offset) c) q ≡ Some b → IsKnownBody h p q b)

-- of the static header nothing is asked, since no write touches it
abbrev pub IsUntornBy : StaticHead → Past → List ℕ → Type 0
IsUntornBy h p c = UntornFrom (length c) h p (base_of h.p) c
