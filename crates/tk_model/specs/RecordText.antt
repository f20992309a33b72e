-- The text of a record, which stands in flat text, in pages and in skip files.
use Rattle.std.specs.Prelude.{◌≡◌, ℕ, ◌+◌, ◌<◌, ◌≤◌, ◌^◌, ◌&&◌, nat_le, List, [], ◌∷◌, ◌++◌, length, take, drop, slice_index, Option, Some, None, if◌then◌else◌}
use Rattle.std.specs.Int.{w16, w32, to_be_bytes, from_be_bytes}
use Rattle.tk_model.specs.declared.record.Pair.{Pair}
use Rattle.tk_model.specs.declared.text.RecordHere.{RecordHere}

abbrev pub pair_with : (key value : List ℕ) → Pair
pair_with key value = record { key = key; value = value }

-- a record whose lengths have a text
pub record FitsRecord (pair : Pair) : Type 0 where
  pub key : length pair.key ≤ 65535
  pub value : length pair.value < 2 ^ 32

-- the lengths of key and value
unfoldable pub lengths_text : Pair → List ℕ
lengths_text pair = to_be_bytes w16 (length pair.key) ++ to_be_bytes w32 (length pair.value)

-- the lengths of key and value, the key, and the value
unfoldable pub record_text : Pair → List ℕ
record_text pair = lengths_text pair ++ (pair.key ++ pair.value)

abbrev pub record_size : Pair → ℕ
record_size pair = 6 + (length pair.key + length pair.value)

abbrev pub key_length : List ℕ → ℕ
key_length text = from_be_bytes w16 (slice_index text 0 ∷ slice_index text 1 ∷ [])

abbrev pub value_length : List ℕ → ℕ
value_length text = from_be_bytes w32 (slice_index text 2 ∷ slice_index text 3 ∷ slice_index text 4 ∷ slice_index text 5 ∷ [])

-- the record that the lengths at the front give
abbrev pub fields_in : List ℕ → Pair
fields_in text = record {
  key = take (key_length text) (drop 6 text);
  value = take (value_length text) (drop (6 + key_length text) text);
}

-- the record at the front
unfoldable pub record_at : List ℕ → Option Pair
record_at text =
    if nat_le 6 (length text) && nat_le (6 + (key_length text + value_length text)) (length text)
    then Some (fields_in text)
    else None

-- the text begins with this record, and the rest follows
pub record BeginsWith (text : List ℕ) (pair : Pair) (rest : List ℕ) : Type 0 where
  pub fits : FitsRecord pair
  pub spelled : text ≡ record_text pair ++ rest

-- the record of a front, without what is behind it
abbrev pub pair_here : RecordHere → Pair
pair_here here = record { key = here.key.now; value = here.value.now }

-- the old bytes, and some more
abbrev pub Extends : (old new : List ℕ) → Type 0
Extends old new = (more : List ℕ) × (new ≡ old ++ more)
