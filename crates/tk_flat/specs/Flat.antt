-- Flat text: a word, then the records one after another.
use Rattle.std.specs.Prelude.{◌≡◌, ◌≢◌, ℕ, ◌≤◌, List, [], ◌∷◌, ◌++◌, length, All}
use Rattle.std.specs.List.{flat_map}
use Rattle.tk_model.specs.declared.record.Pair.{Pair}
use Rattle.tk_model.specs.RecordText.{record_text, BeginsWith}

-- `TKPFLAT` and LF
abbrev pub flat_word : List ℕ
flat_word = 0x54 ∷ 0x4b ∷ 0x50 ∷ 0x46 ∷ 0x4c ∷ 0x41 ∷ 0x54 ∷ 0x0a ∷ []

-- a record that a flat text can hold
pub record IsFlat (pair : Pair) : Type 0 where
  pub key_fits : length pair.key ≤ 65535
  pub value_fits : length pair.value ≤ 33554431

unfoldable pub flat_text : List Pair → List ℕ
flat_text pairs = flat_word ++ flat_map record_text pairs

-- the text of these records
pub record IsFlatText (text : List ℕ) (pairs : List Pair) : Type 0 where
  pub fit : All IsFlat pairs
  pub spelled : text ≡ flat_text pairs

-- the text begins with no record that a flat text can hold
abbrev pub BeginsWithNone : List ℕ → Type 0
BeginsWithNone text = (pair : Pair) (rest : List ℕ) → IsFlat pair → BeginsWith text pair rest → ⊥

-- records stand before this place, and bytes that begin with no record from there on
pub record BreaksAfter (text : List ℕ) (place : ℕ) (pairs : List Pair) (rest : List ℕ) : Type 0 where
  pub fit : All IsFlat pairs
  pub spelled : text ≡ flat_text pairs ++ rest
  pub here : place ≡ length (flat_text pairs)
  pub more : rest ≢ []
  pub none : BeginsWithNone rest

-- The place of the first record outside the grammar: 0 for a text that doesn't begin with the word.
pub data IsFault : List ℕ → ℕ → Type 0 where
  no_word : (text : List ℕ) → ((rest : List ℕ) → text ≢ flat_word ++ rest) → IsFault text 0
  no_record : (text : List ℕ) (place : ℕ) (pairs : List Pair) (rest : List ℕ) → BreaksAfter text place pairs rest → IsFault text place
