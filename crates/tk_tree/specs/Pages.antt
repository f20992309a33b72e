-- The pages of a tree in their file.
use Rattle.std.specs.Prelude.{◌≡◌, ℕ, zero, suc, ◌+◌, ◌<◌, ◌≤◌, ◌^◌, false, List, [], ◌∷◌, length, map, Some, None, ◌==◌, if◌then◌else◌}
use Rattle.std.specs.Int.{w64, to_be_bytes}
use Rattle.tk_model.specs.Orders.{same_bytes}
use Rattle.tk_model.specs.Records.{find, AllHeld}
use Rattle.tk_model.specs.declared.record.Order.{Order}
use Rattle.tk_model.specs.declared.record.Pair.{Pair}
use Rattle.tk_page.specs.declared.page.Child.{Child}
use Rattle.tk_page.specs.declared.page.Page.{Page as Spelled}
use Rattle.tk_page.specs.declared.page.Page.TheVariants as pages
use Rattle.tk_page.specs.Page.{page_text, FitsPage}
use Rattle.tk_page.specs.Meta.{meta_text}
use Rattle.tk_tree.specs.Tree.{KeyedChild, Tree, over, records_of, number_of, numbers_of}
use Rattle.tk_tree.specs.Formed.{IsWithin}

-- a page's number as the key of its record
unfoldable pub number_key : ℕ → List ℕ
number_key n = to_be_bytes w64 n

abbrev pub child_of : (n : ℕ) → KeyedChild (Tree n) → Child
child_of n k = record { page = number_of n k.tree; key = k.key }

-- what a tree's root page holds
abbrev pub page_of : (n : ℕ) → Tree n → Spelled
page_of zero t = pages.Leaf t.pairs
page_of (suc n) t = pages.Inner (record { page = number_of n t.first; key = [] } ∷ map (child_of n) t.rest)

abbrev pub stored : (number : ℕ) → Spelled → Pair
stored number page = record { key = number_key number; value = page_text page }

-- the records of all pages
abbrev pub pages_of : (n : ℕ) → Tree n → List Pair
pages_of zero t = stored t.number (page_of 0 t) ∷ []
pages_of (suc n) t = stored t.number (page_of (suc n) t) ∷ over (pages_of n) t.first t.rest

-- a tree with its next page number
pub record TreeState : Type 0 where
  pub levels : ℕ
  pub top : Tree levels
  pub next : ℕ

-- the first page's record
abbrev pub meta_of : TreeState → Pair
meta_of s = record { key = number_key 0; value = meta_text (record { root = number_of s.levels s.top; height = s.levels + 1; next = s.next; count = length (records_of s.levels s.top) }) }

abbrev pub all_pages : TreeState → List Pair
all_pages s = meta_of s ∷ pages_of s.levels s.top

-- the file has just the pages of the tree
abbrev pub IsStored : (file : List Pair) → TreeState → Type 0
IsStored file s = (key : List ℕ) → find key file ≡ find key (all_pages s)

module _ {T : Type 0} where
  abbrev pub EachChild : (T → Type 0) → T → List (KeyedChild T) → Type 0
  EachChild P t [] = P t
  EachChild P t (k ∷ ks) = P t × EachChild P k.tree ks

-- each page has a text, and its number fits
abbrev pub FitsTree : (n : ℕ) → Tree n → Type 0
FitsTree zero t = (t.number < 2 ^ 64) × FitsPage (page_of 0 t)
FitsTree (suc n) t = (t.number < 2 ^ 64) × FitsPage (page_of (suc n) t) × EachChild (FitsTree n) t.first t.rest

-- each page of the tree stands in the file
abbrev pub LiesIn : (file : List Pair) → (n : ℕ) → Tree n → Type 0
LiesIn file zero t = find (number_key t.number) file ≡ Some (page_text (page_of 0 t))
LiesIn file (suc n) t = (find (number_key t.number) file ≡ Some (page_text (page_of (suc n) t))) × EachChild (LiesIn file n) t.first t.rest

-- how often a number stands in a list
abbrev pub copies : ℕ → List ℕ → ℕ
copies m [] = 0
copies m (n ∷ ns) = (if m == n then 1 else 0) + copies m ns

-- each number stands once, and is one that was given out before
pub record AreGiven (next : ℕ) (ns : List ℕ) : Type 0 where
  pub apart : (m : ℕ) → copies m ns ≤ 1
  pub numbers : (m : ℕ) → 1 ≤ copies m ns → (1 ≤ m) × (m < next)

-- the key is that of none of these pages
abbrev pub IsOther : List ℕ → List ℕ → Type 0
IsOther k [] = Unit {0}
IsOther k (n ∷ ns) = (same_bytes k (number_key n) ≡ false) × IsOther k ns

-- a tree as a file may hold it
pub record Formed (o : Order) (s : TreeState) : Type 0 where
  -- levels, bounds, order and sizes
  pub within : IsWithin o s.levels None None s.top
  -- there is one path to each page, and none to the first page
  pub given : AreGiven s.next (numbers_of s.levels s.top)
  pub fits : FitsTree s.levels s.top
  pub next : s.next < 2 ^ 64
  pub height : s.levels + 1 < 2 ^ 8
  pub count : length (records_of s.levels s.top) < 2 ^ 64
  pub held : AllHeld (records_of s.levels s.top)
