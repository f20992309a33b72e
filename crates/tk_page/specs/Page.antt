-- The text of a leaf and of an inner page.
use Rattle.std.specs.Prelude.{◌≡◌, ℕ, zero, suc, ◌+◌, ◌<◌, ◌≤◌, ◌^◌, ◌==◌, ◌&&◌, nat_le, Bool, true, List, [], ◌∷◌, ◌++◌, length, take, drop, slice_index, All, Option, Some, None, if◌then◌else◌}
use Rattle.std.specs.List.{flat_map}
use Rattle.std.specs.Option.{option_map}
use Rattle.std.specs.Int.{w16, w32, w64, to_be_bytes, from_be_bytes}
use Rattle.tk_model.specs.RecordText.{FitsRecord, record_text, record_at, record_size}
use Rattle.tk_model.specs.declared.record.Pair.{Pair}
use Rattle.tk_page.specs.declared.page.Child.{Child}
use Rattle.tk_page.specs.declared.page.Page.{Page}
use Rattle.tk_page.specs.declared.page.Page.TheVariants.{Leaf, Inner}

-- ---- what is written

-- page number, length of the key
unfoldable pub link_text : Child → List ℕ
link_text c = to_be_bytes w64 c.page ++ to_be_bytes w16 (length c.key)

-- page number, length of the key, key
unfoldable pub child_text : Child → List ℕ
child_text c = link_text c ++ c.key

-- the kind of a page, and how many records or children it has
unfoldable pub front_text : (kind count : ℕ) → List ℕ
front_text kind count = kind ∷ to_be_bytes w32 count

unfoldable pub leaf_text : List Pair → List ℕ
leaf_text pairs = front_text 1 (length pairs) ++ flat_map record_text pairs

unfoldable pub inner_text : List Child → List ℕ
inner_text children = front_text 2 (length children) ++ flat_map child_text children

abbrev pub page_text : Page → List ℕ
page_text (Leaf pairs) = leaf_text pairs
page_text (Inner children) = inner_text children

-- ---- what has a text

pub record FitsChild (c : Child) : Type 0 where
  pub page : c.page < 2 ^ 64
  pub key : length c.key ≤ 65535

abbrev pub IsFirstKeyEmpty : List Child → Type 0
IsFirstKeyEmpty [] = Unit {0}
IsFirstKeyEmpty (c ∷ cs) = c.key ≡ []

-- count, lengths and page numbers within their widths, and the first child's key empty
abbrev pub FitsPage : Page → Type 0
FitsPage (Leaf pairs) = (length pairs < 2 ^ 32) × All FitsRecord pairs
FitsPage (Inner children) = (length children < 2 ^ 32) × All FitsChild children × IsFirstKeyEmpty children

-- ---- what is read

abbrev pub link_number : List ℕ → ℕ
link_number text =
    from_be_bytes w64 (
    slice_index text 0
    ∷ slice_index text 1
    ∷ slice_index text 2
    ∷ slice_index text 3
    ∷ slice_index text 4
    ∷ slice_index text 5
    ∷ slice_index text 6
    ∷ slice_index text 7
    ∷ []
    )

abbrev pub link_length : List ℕ → ℕ
link_length text = from_be_bytes w16 (slice_index text 8 ∷ slice_index text 9 ∷ [])

abbrev pub child_size : Child → ℕ
child_size c = 10 + length c.key

abbrev pub link_in : List ℕ → Child
link_in text = record { page = link_number text; key = take (link_length text) (drop 10 text) }

-- the child at the front
unfoldable pub child_at : List ℕ → Option Child
child_at text =
    if nat_le 10 (length text) && nat_le (10 + link_length text) (length text)
    then Some (link_in text)
    else None

abbrev pub followed_by : {A : Type 0} → Option A → (A → Option (List A)) → Option (List A)
followed_by None more = None
followed_by (Some x) more = option_map (λ xs. x ∷ xs) (more x)

module _ {A : Type 0} (at : List ℕ → Option A) (size : A → ℕ) where
  -- so many items, and no byte behind them
  unfoldable pub items_in : (count : ℕ) → List ℕ → Option (List A)
  items_in zero [] = Some []
  items_in zero (b ∷ bs) = None
  items_in (suc n) text = followed_by (at text) (λ x. items_in n (drop (size x) text))

abbrev pub is_first_key_empty : List Child → Bool
is_first_key_empty [] = true
is_first_key_empty (c ∷ cs) = length c.key == 0

abbrev pub leaf_of : Option (List Pair) → Option Page
leaf_of None = None
leaf_of (Some ps) = Some (Leaf ps)

abbrev pub inner_of : Option (List Child) → Option Page
inner_of None = None
inner_of (Some cs) = if is_first_key_empty cs then Some (Inner cs) else None

abbrev pub count_in : List ℕ → ℕ
count_in text = from_be_bytes w32 (slice_index text 1 ∷ slice_index text 2 ∷ slice_index text 3 ∷ slice_index text 4 ∷ [])

-- the page that these bytes spell
unfoldable pub page_in : List ℕ → Option Page
page_in text =
    if nat_le 5 (length text)
    then (if slice_index text 0 == 1 then leaf_of (items_in record_at record_size (count_in text) (drop 5 text))
    else (if slice_index text 0 == 2 then inner_of (items_in child_at child_size (count_in text) (drop 5 text)) else None))
    else None
