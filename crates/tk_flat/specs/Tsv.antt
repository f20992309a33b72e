-- Lines of fields: a record is key, TAB, value.
use Rattle.std.specs.Prelude.{◌≡◌, ℕ, ◌+◌, ◌≤◌, ◌-◌, Bool, ◌||◌, ◌==◌, nat_lt, if◌then◌else◌, List, [], ◌∷◌, ◌++◌, length, map, position, Option, None, Some, is_none}
use Rattle.std.specs.Option.{option_map}
use Rattle.std.specs.List.{flat_map, slice_split, onto_first}
use Rattle.tk_model.specs.declared.record.Pair.{Pair}
use Rattle.tk_flat.specs.Escapes.{escaped, unescaped}

abbrev pub is_tab : ℕ → Bool
is_tab b = b == 0x09

abbrev pub is_lf : ℕ → Bool
is_lf b = b == 0x0a

-- the lines of a text, whose last may lack its LF
abbrev pub lines_of : List ℕ → List (List ℕ)
lines_of [] = []
lines_of (b ∷ bs) = if is_lf b then [] ∷ lines_of bs else onto_first b (lines_of bs)

-- the parts of a line between its TABs
abbrev pub fields_of : List ℕ → List (List ℕ)
fields_of line = slice_split is_tab line

abbrev pub pair_from : Option (List ℕ) → Option (List ℕ) → Option Pair
pair_from None value = None
pair_from (Some key) None = None
pair_from (Some key) (Some value) = Some (record { key = key; value = value })

abbrev pub pair_of : List (List ℕ) → Option Pair
pair_of [] = None
pair_of (key ∷ []) = None
pair_of (key ∷ value ∷ []) = pair_from (unescaped key) (unescaped value)
pair_of (key ∷ value ∷ more ∷ fields) = None

-- the record of a line, where it is one
unfoldable pub pair_in : List ℕ → Option Pair
pair_in line = pair_of (fields_of line)

-- each line is one of these records
abbrev pub IsTsv : List ℕ → List Pair → Type 0
IsTsv text pairs = map pair_in (lines_of text) ≡ map Some pairs

-- the first line that is no record, counted from 1
pub record IsFirstBadLine (text : List ℕ) (line : ℕ) : Type 0 where
  pub counted : 1 ≤ line
  pub first : position (λ l. is_none (pair_in l)) (lines_of text) ≡ Some (line - 1)

-- the key or the value is longer than a call stores
abbrev pub is_past_limits : Pair → Bool
is_past_limits pair = nat_lt 65535 (length pair.key) || nat_lt 16777215 (length pair.value)

-- the line of the first such record, counted from 1
abbrev pub first_past_limits : List Pair → Option ℕ
first_past_limits pairs = option_map (λ i. i + 1) (position is_past_limits pairs)

-- a record as a line without its LF
abbrev pub line_body : Pair → List ℕ
line_body pair = escaped pair.key ++ (0x09 ∷ escaped pair.value)

abbrev pub line_text : Pair → List ℕ
line_text pair = line_body pair ++ (0x0a ∷ [])

unfoldable pub tsv_text : List Pair → List ℕ
tsv_text pairs = flat_map line_text pairs

-- a record whose line is read as this record
abbrev pub IsReadBack : Pair → Type 0
IsReadBack pair = pair_in (line_body pair) ≡ Some pair
