-- Changes that undo others, and the length of the text of records.
use Rattle.std.specs.Prelude.{ℕ, ◌+◌, List, [], ◌∷◌, Option, Some, None}
use Rattle.tk_model.specs.RecordText.{record_size}
use Rattle.tk_model.specs.Records.{after_one}
use Rattle.tk_model.specs.declared.record.Order.TheVariants.{Hash}
use Rattle.tk_model.specs.declared.record.Pair.{Pair}
use Rattle.tk_model.specs.declared.record.Change.{Change}
use Rattle.tk_model.specs.declared.record.Change.TheVariants as changes

-- the key that a change reaches
abbrev pub key_of : Change → List ℕ
key_of (changes.Put p) = p.key
key_of (changes.Drop k) = k
key_of changes.Clear = []

-- what brings a key back to what it had
abbrev pub undo_of : (key : List ℕ) → (was : Option (List ℕ)) → Change
undo_of key None = changes.Drop key
undo_of key (Some value) = changes.Put (record { key = key; value = value })

-- the records as they were before all that these undo: the last one first
abbrev pub undone : List Change → List Pair → List Pair
undone [] m = m
undone (u ∷ us) m = after_one Hash u (undone us m)

-- the bytes of the texts of records
abbrev pub records_size : List Pair → ℕ
records_size [] = 0
records_size (p ∷ ps) = record_size p + records_size ps

-- the length of the flat text of records
abbrev pub text_size : List Pair → ℕ
text_size m = 8 + records_size m

-- the bytes of the text of a key's record, where it has one
abbrev pub size_of : (key : List ℕ) → (value : Option (List ℕ)) → ℕ
size_of key None = 0
size_of key (Some value) = record_size (record { key = key; value = value })
