-- What a crash may leave by a disk's past, and which pasts are fair for the changes since the last hard synchronisation.
use Rattle.std.specs.Prelude.{◌≡◌, ◌⊎◌, ℕ, ◌+◌, ◌<◌, ◌≤◌, Bool, true, false, List, [], ◌∷◌, length, slice_index, Some, ◌&&◌, ◌||◌}
use Rattle.tk_model.specs.Orders.{same_bytes}
use Rattle.tk_model.specs.declared.record.Change.{Change}
use Rattle.tk_model.specs.declared.record.Change.TheVariants as changes
use Rattle.tk_disk.specs.Past.{Write, Past}
use Rattle.tk_block.specs.Sizes.{static_size, head_size, body_offset}
use Rattle.tk_block.specs.Text.{static_at, base_of}
use Rattle.tk_block.specs.Blocks.{room_of}
use Rattle.tk_block.specs.declared.block.Body.{Body}
use Rattle.tk_block.specs.declared.head.StaticHead.{StaticHead}
use Rattle.tk_append.specs.Untorn.{AllWrites}
use Rattle.tk_update.specs.Blocks.{KeysAreOnce}
use Rattle.tk_update.specs.Restored.{Seen, seen_in, blocks_in}
use Rattle.tk_update.specs.Untorn.{AllSeen, body_written}

-- the write has no byte from a place up to another
abbrev pub Spares : (from to : ℕ) → Write → Type 0
Spares from to w = (w.at + length w.bytes ≤ from) ⊎ (to ≤ w.at)

-- what a crash may leave: no shorter than the least length, and below it and outside the writes the bytes of then
pub record IsLeftBy (p : Past) (c : List ℕ) : Type 0 where
  pub long : p.least ≤ length c
  pub same : (i : ℕ) → i < p.least → AllWrites (Spares i (i + 1)) p.writes → slice_index c i ≡ slice_index p.fixed i

-- some change puts this value at the key
abbrev pub was_put : (key value : List ℕ) → List Change → Bool
was_put k v [] = false
was_put k v (changes.Put new ∷ cs) = (same_bytes k new.key && same_bytes v new.value) || was_put k v cs
was_put k v (changes.Drop j ∷ cs) = was_put k v cs
was_put k v (changes.Clear ∷ cs) = was_put k v cs

-- some change is the key's; a clear changes each key that was there
abbrev pub was_changed : (there : Bool) → (key : List ℕ) → List Change → Bool
was_changed t k [] = false
was_changed t k (changes.Put new ∷ cs) = same_bytes k new.key || was_changed t k cs
was_changed t k (changes.Drop j ∷ cs) = same_bytes k j || was_changed t k cs
was_changed t k (changes.Clear ∷ cs) = t || was_changed t k cs

abbrev pub has_clear : List Change → Bool
has_clear [] = false
has_clear (changes.Clear ∷ cs) = true
has_clear (changes.Put new ∷ cs) = has_clear cs
has_clear (changes.Drop j ∷ cs) = has_clear cs

-- the write leaves the block's head alone, and its body where the key is unchanged
pub record SparesBlock (since : List Change) (w : Write) (s : Seen) : Type 0 where
  pub head : Spares s.place (s.place + head_size) w
  pub says : (b : Body) → s.body ≡ Some b → b.kind ≡ 1 → was_changed true b.key since ≡ false → Spares (s.place + body_offset) (s.place + room_of b) w

-- each set body that the write gives a block is a put of these changes
abbrev pub WritesPuts : StaticHead → List Change → Write → Type 0
WritesPuts h since w = (q : ℕ) (b : Body) → base_of h.p ≤ q → body_written q w ≡ Some b → b.kind ≡ 1 → was_put b.key b.value since ≡ true

-- the header stands and no write or cut touches it; no key stood twice; set bodies are puts of these changes; and without a clear nothing was cut, and heads and unchanged bodies were spared
pub record IsFairPast (h : StaticHead) (since : List Change) (p : Past) : Type 0 where
  pub header : static_at p.fixed ≡ Some h
  pub long : static_size ≤ p.least
  pub behind : AllWrites (λ w. static_size ≤ w.at) p.writes
  pub once : KeysAreOnce (blocks_in h p.fixed)
  pub puts : AllWrites (WritesPuts h since) p.writes
  pub length_kept : has_clear since ≡ false → p.least ≡ length p.fixed
  pub spared : has_clear since ≡ false → AllWrites (λ w. AllSeen (SparesBlock since w) (seen_in h p.fixed)) p.writes
