-- Records in memory, with changes that are made and can be undone.
use Rattle.std.specs.Prelude.{◌≡◌, ℕ, List, [], length, Bool, false, if◌then◌else◌}
use Rattle.tk_model.specs.declared.record.Pair.{Pair}
use Rattle.tk_model.specs.declared.record.Change.{Change}
use Rattle.tk_mem.specs.Undo.{undone, text_size}

pub record TinyView : Type 0 where
  -- the records
  pub pairs : List Pair
  -- the same with the changes that can be undone
  pub table : List Pair
  -- all records are to go
  pub clears : Bool

-- the records with the changes that are prepared
abbrev pub next_of : TinyView → List Pair
next_of v = if v.clears then [] else v.table

-- no changes are prepared
abbrev pub settled : List Pair → TinyView
settled m = record { pairs = m; table = m; clears = false }

-- the count and the size are those of the records
pub record IsCounted (undo : List Change) (table : List Pair) (count size : ℕ) : Type 0 where
  pub count_is : count ≡ length (undone undo table)
  pub size_is : size ≡ text_size (undone undo table)
