-- Sets and removes whose keys and values stand in one buffer.
use Rattle.std.specs.Prelude.{◌≡◌, ℕ, ◌+◌, ◌≤◌, Bool, true, false, List, [], ◌∷◌, length, take, drop, map}
use Rattle.tk_model.specs.Hashes.{mix_of}
use Rattle.tk_model.specs.declared.record.Pair.{Pair}
use Rattle.tk_model.specs.declared.record.Change.{Change}
use Rattle.tk_model.specs.declared.record.Change.TheVariants.{Put, Drop}
use Rattle.tk_block.specs.Blocks.{IsSmall}
use Rattle.tk_restore.specs.declared.changes.Entry.{Entry}

-- the record of a key is set, or is removed
abbrev pub change_by : (sets : Bool) → (key value : List ℕ) → Change
change_by true key value = Put (record { key = key; value = value })
change_by false key value = Drop key

abbrev pub key_in : (bytes : List ℕ) → Entry → List ℕ
key_in bytes e = take e.key_length (drop e.start bytes)

abbrev pub value_in : (bytes : List ℕ) → Entry → List ℕ
value_in bytes e = take e.value_length (drop (e.start + e.key_length) bytes)

abbrev pub change_at : (bytes : List ℕ) → Entry → Change
change_at bytes e = change_by e.sets (key_in bytes e) (value_in bytes e)

-- the changes of entries
abbrev pub changes_in : (bytes : List ℕ) → List Entry → List Change
changes_in bytes es = map (change_at bytes) es

-- it stands in the buffer, is within the limits of a block, and has its key's hash
pub record IsEntry (bytes : List ℕ) (e : Entry) : Type 0 where
  pub within : e.start + e.key_length + e.value_length ≤ length bytes
  pub small : IsSmall (key_in bytes e) (value_in bytes e)
  pub hashed : e.hash ≡ mix_of (key_in bytes e)

abbrev pub AllEntries : (bytes : List ℕ) → List Entry → Type 0
AllEntries bytes [] = Unit {0}
AllEntries bytes (e ∷ es) = IsEntry bytes e × AllEntries bytes es

-- the records that complete groups leave, and the changes of a group that is begun
pub record LiveAndBegun : Type 0 where
  pub live : List Pair
  pub begun : List Change
