-- The tree that a page file holds.
use Rattle.std.specs.Prelude.{ℕ, zero, suc, List, [], ◌∷◌, Option, Some, None}
use Rattle.std.specs.Option.{option_map}
use Rattle.tk_model.specs.Records.{find}
use Rattle.tk_model.specs.declared.record.Pair.{Pair}
use Rattle.tk_page.specs.declared.page.Child.{Child}
use Rattle.tk_page.specs.declared.page.Page.{Page as Spelled}
use Rattle.tk_page.specs.declared.page.Page.TheVariants as pages
use Rattle.tk_page.specs.declared.meta.Meta.{Meta}
use Rattle.tk_page.specs.Page.{page_in}
use Rattle.tk_page.specs.Meta.{meta_in}
use Rattle.tk_tree.specs.Tree.{Leaf, KeyedChild, Inner, Tree, records_of}
use Rattle.tk_tree.specs.Pages.{number_key, TreeState}

abbrev pub and_then : {A B : Type 0} → Option A → (A → Option B) → Option B
and_then None f = None
and_then (Some x) f = f x

abbrev pub page_here : (file : List Pair) → (number : ℕ) → Option Spelled
page_here file number = and_then (find (number_key number) file) page_in

abbrev pub leaf_here : (number : ℕ) → Spelled → Option Leaf
leaf_here number (pages.Leaf ps) = Some (record { number = number; pairs = ps })
leaf_here number (pages.Inner cs) = None

module _ {T : Type 0} where
  abbrev pub children_here : (ℕ → Option T) → List Child → Option (List (KeyedChild T))
  children_here f [] = Some []
  children_here f (c ∷ cs) = and_then (f c.page) (λ t. option_map (λ ks. record { key = c.key; tree = t } ∷ ks) (children_here f cs))

  abbrev pub inner_here : (ℕ → Option T) → (number : ℕ) → Spelled → Option (Inner T)
  inner_here f number (pages.Leaf ps) = None
  inner_here f number (pages.Inner []) = None
  inner_here f number (pages.Inner (c ∷ cs)) = and_then (f c.page) (λ t. option_map (λ ks. record { number = number; first = t; rest = ks }) (children_here f cs))

-- the tree of so many levels under a page
abbrev pub tree_in : (file : List Pair) → (n : ℕ) → (number : ℕ) → Option (Tree n)
tree_in file zero number = and_then (page_here file number) (leaf_here number)
tree_in file (suc n) number = and_then (page_here file number) (inner_here (tree_in file n) number)

abbrev pub state_under : (file : List Pair) → (height : ℕ) → Meta → Option TreeState
state_under file zero m = None
state_under file (suc n) m = option_map (λ t. record { levels = n; top = t; next = m.next }) (tree_in file n m.root)

-- the tree of the file
abbrev pub state_in : List Pair → Option TreeState
state_in file = and_then (and_then (find (number_key 0) file) meta_in) (λ m. state_under file m.height m)

abbrev pub records_under : Option TreeState → List Pair
records_under None = []
records_under (Some s) = records_of s.levels s.top

-- the records of the file's tree
abbrev pub records_in : List Pair → List Pair
records_in file = records_under (state_in file)
