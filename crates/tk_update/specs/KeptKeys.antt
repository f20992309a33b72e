-- What a crash keeps of an updating file, key by key.
use Rattle.std.specs.Prelude.{◌≡◌, ◌⊎◌, ℕ, ◌≤◌, true, false, List, length, take, drop, flat_map, Some}
use Rattle.std.specs.Option.{is_some}
use Rattle.tk_model.specs.declared.record.Group.{Group}
use Rattle.tk_model.specs.declared.record.Change.{Change}
use Rattle.tk_disk.specs.Past.{Past}
use Rattle.tk_block.specs.Text.{base_of}
use Rattle.tk_block.specs.Layout.{Placed}
use Rattle.tk_block.specs.declared.head.StaticHead.{StaticHead}
use Rattle.tk_update.specs.Blocks.{block_of, value_in, replay_blocks}
use Rattle.tk_update.specs.Restored.{blocks_in, restored_value}
use Rattle.tk_update.specs.Untorn.{IsUntornBy}
use Rattle.tk_update.specs.FairPast.{IsLeftBy, was_put, was_changed, IsFairPast}

-- a key that is unchanged since these blocks stood is as it was; any other is absent, or has a value that it had then or was put since
pub record KeepsKeys (before : List Placed) (since : List Change) (c : List ℕ) : Type 0 where
  pub unchanged : (k : List ℕ) → was_changed (is_some (block_of k before)) k since ≡ false → restored_value c k ≡ value_in (block_of k before)
  pub changed : (k v : List ℕ) → restored_value c k ≡ Some v → (value_in (block_of k before) ≡ Some v) ⊎ (was_put k v since ≡ true)

abbrev pub changes_in : List Group → List Change
changes_in groups = flat_map (λ (g : Group). g.changes) groups

-- keys are kept since a moment at which the first groups stood, at least n of them
pub record KeysAfter (h : StaticHead) (first : List Placed) (groups : List Group) (n : ℕ) (c : List ℕ) : Type 0 where
  pub count : ℕ
  pub least : n ≤ count
  pub most : count ≤ length groups
  pub keys : KeepsKeys (replay_blocks (base_of h.p) (take count groups) first) (changes_in (drop count groups)) c

-- what stood at the last hard synchronisation is the blocks after the first groups, at least n of them, and the writes since are those of the others
pub record IsPastOf (h : StaticHead) (first : List Placed) (groups : List Group) (n : ℕ) (p : Past) (c : List ℕ) : Type 0 where
  pub count : ℕ
  pub least : n ≤ count
  pub most : count ≤ length groups
  pub stood : blocks_in h p.fixed ≡ replay_blocks (base_of h.p) (take count groups) first
  pub fair : IsFairPast h (changes_in (drop count groups)) p
  pub left : IsLeftBy p c

-- of each past and untorn image that may be left since t
pub record KeysAreSafe {D : Type 0} (left_with : D → ℕ → Past × List ℕ → Type 0) (h : StaticHead) (disk : D) (t : ℕ) (first : List Placed) (groups : List Group) (n : ℕ) : Type 0 where
  pub each : (p : Past) (c : List ℕ) → left_with disk t (p, c) → IsUntornBy h p c → KeysAfter h first groups n c
