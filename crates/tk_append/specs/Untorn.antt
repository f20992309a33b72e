-- Which images are untorn by what stood at the last hard synchronisation and what was written since.
use Rattle.std.specs.Prelude.{◌≡◌, ◌⊎◌, ℕ, zero, suc, ◌+◌, ◌-◌, ◌≤◌, true, Bool, List, [], ◌∷◌, length, drop, Option, Some, None, ◌==◌}
use Rattle.std.specs.List.{list_any}
use Rattle.tk_disk.specs.Crash.{PastOnly}
use Rattle.tk_disk.specs.Past.{Write, Past}
use Rattle.tk_block.specs.Sizes.{body_offset}
use Rattle.tk_block.specs.Text.{head_at, static_at, base_of}
use Rattle.tk_block.specs.Blocks.{body_at}
use Rattle.tk_block.specs.declared.block.Body.{Body}
use Rattle.tk_block.specs.declared.head.StaticHead.{StaticHead}

abbrev pub place_on : Option ℕ → (place : ℕ) → (ℕ → List ℕ) → List ℕ
place_on None place go = []
place_on (Some e) place go = place ∷ go e

-- the places of the blocks that are walked over by their heads
abbrev pub places_on : (most place : ℕ) → (f : List ℕ) → List ℕ
places_on zero place f = []
places_on (suc n) place f = place_on (head_at (drop place f) place) place (λ e. places_on n (place + e) f)

-- a block stood at the place at the last hard synchronisation
abbrev pub stood_at : StaticHead → Past → (place : ℕ) → Bool
stood_at h p q = list_any (λ (k : ℕ). k == q) (places_on (length p.fixed) (base_of h.p) p.fixed)

-- the write has this head, or this body, at a block's place
abbrev pub WritesHead : (place extent : ℕ) → Write → Type 0
WritesHead q e w = (w.at ≤ q) × (head_at (drop (q - w.at) w.bytes) q ≡ Some e)

abbrev pub WritesBody : (place : ℕ) → Body → Write → Type 0
WritesBody q b w = (w.at ≤ q + body_offset) × (body_at (drop (q + body_offset - w.at) w.bytes) q ≡ Some b)

abbrev pub WritesHeader : StaticHead → Write → Type 0
WritesHeader k w = (w.at ≡ 0) × (static_at w.bytes ≡ Some k)

abbrev pub AnyWrite : (Write → Type 0) → List Write → Type 0
AnyWrite P [] = ⊥
AnyWrite P (w ∷ ws) = P w ⊎ AnyWrite P ws

abbrev pub AllWrites : (Write → Type 0) → List Write → Type 0
AllWrites P [] = Unit {0}
AllWrites P (w ∷ ws) = P w × AllWrites P ws

-- it stood there at the last hard synchronisation, or was written there since
abbrev pub IsKnownHead : StaticHead → Past → (place extent : ℕ) → Type 0
IsKnownHead h p q e = ((stood_at h p q ≡ true) × (head_at (drop q p.fixed) q ≡ Some e)) ⊎ AnyWrite (WritesHead q e) p.writes

abbrev pub IsKnownBody : StaticHead → Past → (place : ℕ) → Body → Type 0
IsKnownBody h p q b = ((stood_at h p q ≡ true) × (body_at (drop (q + body_offset) p.fixed) q ≡ Some b)) ⊎ AnyWrite (WritesBody q b) p.writes

abbrev pub IsKnownHeader : Past → StaticHead → Type 0
IsKnownHeader p k = (static_at p.fixed ≡ Some k) ⊎ AnyWrite (WritesHeader k) p.writes

-- at each place to which the heads lead, a head or a body whose check matches stood there or was written there since
abbrev pub UntornFrom : (most : ℕ) → StaticHead → Past → (place : ℕ) → (c : List ℕ) → Type 0
UntornFrom zero h p q c = Unit {0}
UntornFrom (suc n) h p q c =
    ((e : ℕ) → head_at (drop q c) q ≡ Some e → IsKnownHead h p q e × UntornFrom n h p (q + e) c)
    × ((b : Body) → body_at (drop (q + body_offset) c) q ≡ Some b → IsKnownBody h p q b)

-- a static header whose check matches is one that stood or was written
abbrev pub HasKnownHeader : Past → (c : List ℕ) → Type 0
HasKnownHeader p c = (k : StaticHead) → static_at c ≡ Some k → IsKnownHeader p k

-- no other header became known
abbrev pub NoNewHeader : (before p : Past) → Type 0
NoNewHeader before p = (k : StaticHead) → IsKnownHeader p k → IsKnownHeader before k

-- neither now nor at any moment of a call that was made
pub record WritesNoHeader {D : Type 0} (past_of : D → Past) (moment : D → ℕ) (left_with : D → ℕ → Past × List ℕ → Type 0) (old new : D) : Type 0 where
  pub now : NoNewHeader (past_of old) (past_of new)
  pub each : PastOnly moment left_with old new (NoNewHeader (past_of old))

pub record IsUntornBy (h : StaticHead) (p : Past) (c : List ℕ) : Type 0 where
  pub header : HasKnownHeader p c
  pub blocks : UntornFrom (length c) h p (base_of h.p) c
