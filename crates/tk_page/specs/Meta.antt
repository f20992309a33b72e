-- The text of page 0, which tells where a tree's root is.
use Rattle.std.specs.Prelude.{ℕ, ◌<◌, ◌^◌, ◌==◌, ◌&&◌, List, [], ◌∷◌, ◌++◌, length, slice_index, Option, Some, None, if◌then◌else◌}
use Rattle.std.specs.Int.{w64, to_be_bytes, from_be_bytes}
use Rattle.std.specs.Str.{bytes_eq}
use Rattle.tk_page.specs.declared.meta.Meta.{Meta}

-- root, height, next page number, count of records
unfoldable pub meta_text : Meta → List ℕ
meta_text m = to_be_bytes w64 m.root ++ (m.height ∷ (to_be_bytes w64 m.next ++ to_be_bytes w64 m.count))

pub record FitsMeta (m : Meta) : Type 0 where
  pub root : m.root < 2 ^ 64
  pub next : m.next < 2 ^ 64
  pub count : m.count < 2 ^ 64

-- the number of the eight bytes at these places
abbrev pub number_at : (a b c d e f g h : ℕ) → List ℕ → ℕ
number_at a b c d e f g h text =
    from_be_bytes w64 (
    slice_index text a
    ∷ slice_index text b
    ∷ slice_index text c
    ∷ slice_index text d
    ∷ slice_index text e
    ∷ slice_index text f
    ∷ slice_index text g
    ∷ slice_index text h
    ∷ []
    )

abbrev pub meta_fields : List ℕ → Meta
meta_fields text = record {
  root = number_at 0 1 2 3 4 5 6 7 text;
  height = slice_index text 8;
  next = number_at 9 10 11 12 13 14 15 16 text;
  count = number_at 17 18 19 20 21 22 23 24 text;
}

-- what these bytes spell
unfoldable pub meta_in : List ℕ → Option Meta
meta_in text = if (length text == 25) && bytes_eq text (meta_text (meta_fields text)) then Some (meta_fields text) else None
