-- The text of a skip file: a header, and sorted records with links to records further behind.
use Rattle.std.specs.Prelude.{ℕ, zero, suc, ◌+◌, ◌*◌, ◌-◌, ◌%◌, ◌^◌, ◌==◌, nat_le, List, [], ◌∷◌, ◌++◌, length, slice_index, if◌then◌else◌}
use Rattle.std.specs.Int.{w32, w64, to_be_bytes}
use Rattle.tk_model.specs.Hashes.{fnv32_of}
use Rattle.tk_model.specs.RecordText.{record_text, record_size}
use Rattle.tk_model.specs.declared.record.Pair.{Pair}
use Rattle.tk_block.specs.Text.{checked}
use Rattle.tk_append.specs.Pieces.{words_text}

-- where the records begin
abbrev pub header_size : ℕ
header_size = 32

-- `TKPSKIP` and LF
abbrev pub skip_word : List ℕ
skip_word = 0x54 ∷ 0x4b ∷ 0x50 ∷ 0x53 ∷ 0x4b ∷ 0x49 ∷ 0x50 ∷ 0x0a ∷ []

-- the first number of levels from this one on, of so many, whose power of four is at least the count
abbrev pub levels_from : (most levels count : ℕ) → ℕ
levels_from zero levels count = levels
levels_from (suc n) levels count = if nat_le count (4 ^ levels) then levels else levels_from n (levels + 1) count

-- the least number of levels whose power of four is at least the count, which is below 2^64
unfoldable pub levels_of : (count : ℕ) → ℕ
levels_of count = levels_from 32 0 count

-- the word, version 1, unit 4, the levels, a zero byte, the count of records, the generation
unfoldable pub header_front : (count generation : ℕ) → List ℕ
header_front count generation =
    skip_word ++ 1 ∷ 4 ∷ levels_of count ∷ 0 ∷ to_be_bytes w64 count ++ to_be_bytes w64 generation

unfoldable pub header_text : (count generation : ℕ) → List ℕ
header_text count generation = header_front count generation ++ to_be_bytes w32 (fnv32_of (header_front count generation))

-- how many powers of four from this level on, of so many, divide i, up to the first that doesn't
abbrev pub height_from : (most level i : ℕ) → ℕ
height_from zero level i = 0
height_from (suc n) level i = if i % 4 ^ level == 0 then suc (height_from n (level + 1) i) else 0

-- how many links record i has: one for each power from 4^1 to 4^(levels - 1) that divides i
abbrev pub height : (levels i : ℕ) → ℕ
height levels i = height_from (levels - 1) 1 i

-- the bytes of record i: its links, its text and its check
abbrev pub size_of : (levels i : ℕ) → Pair → ℕ
size_of levels i p = 8 * height levels i + (record_size p + 4)

-- where records stand that begin at a place with record i
abbrev pub places_from : (levels i place : ℕ) → List Pair → List ℕ
places_from levels i place [] = []
places_from levels i place (p ∷ ps) = place ∷ places_from levels (i + 1) (place + size_of levels i p) ps

-- where they end
abbrev pub end_from : (levels i place : ℕ) → List Pair → ℕ
end_from levels i place [] = place
end_from levels i place (p ∷ ps) = end_from levels (i + 1) (place + size_of levels i p) ps

-- so many links of record i, from this level on: the place of record i + 4^level, or 0 where there is none
abbrev pub links_from : (most level : ℕ) → (places : List ℕ) → (i : ℕ) → List ℕ
links_from zero level places i = []
links_from (suc n) level places i = slice_index places (i + 4 ^ level) ∷ links_from n (level + 1) places i

abbrev pub links_of : (levels : ℕ) → (places : List ℕ) → (i : ℕ) → List ℕ
links_of levels places i = links_from (height levels i) 1 places i

-- record i at a place: its links, its text, and the check of both and of the place
abbrev pub linked_text : (levels : ℕ) → (places : List ℕ) → (i : ℕ) → Pair → (place : ℕ) → List ℕ
linked_text levels places i p place = checked (words_text (links_of levels places i) ++ record_text p) place

-- records that begin at a place with record i
abbrev pub texts_from : (levels : ℕ) → (places : List ℕ) → (i place : ℕ) → List Pair → List ℕ
texts_from levels places i place [] = []
texts_from levels places i place (p ∷ ps) = linked_text levels places i p place ++ texts_from levels places (i + 1) (place + size_of levels i p) ps

-- all records
abbrev pub records_text : List Pair → List ℕ
records_text pairs =
    texts_from (levels_of (length pairs)) (places_from (levels_of (length pairs)) 0 header_size pairs) 0 header_size pairs

-- the file of a generation and of records, in the order of their keys' bytes
unfoldable pub skip_text : (generation : ℕ) → List Pair → List ℕ
skip_text generation pairs = header_text (length pairs) generation ++ records_text pairs

-- its length
abbrev pub skip_size : List Pair → ℕ
skip_size pairs = end_from (levels_of (length pairs)) 0 header_size pairs
