-- The pages that a removal or a clear doesn't write stay as they are.
use Rattle.std.proofs.Common.{◌≡◌, ◌≢◌, ℕ, zero, suc, ◌+◌, Bool, true, false, if◌then◌else◌, List, [], ◌∷◌, ◌++◌, length, map, Option, Some, None, IfSome, refl, sym, ap, ◌∙◌, arith}
use Rattle.std.specs.Prelude.{◌==◌, is_some}
use Rattle.std.proofs.lemmas.List.{append-nil}
use Rattle.std.proofs.lemmas.Bool.Decides.{nat_tests}
use Rattle.std.specs.List.{flat_map}
use Rattle.std.specs.Ordering.{is_le}
use Rattle.tk_model.specs.Orders.{key_cmp, same_bytes}
use Rattle.tk_model.specs.Records.{find, without}
use Rattle.tk_model.specs.declared.record.Order.{Order}
use Rattle.tk_model.specs.declared.record.Pair.{Pair}
use Rattle.tk_page.specs.declared.page.Child.{Child}
use Rattle.tk_page.specs.declared.page.Page.TheVariants as pages
use Rattle.tk_tree.specs.Tree.{Leaf, KeyedChild, Inner, Tree, over, number_of, numbers_of}
use Rattle.tk_tree.specs.Pages.{number_key, child_of, page_of, stored, pages_of, IsOther}
use Rattle.tk_tree.specs.Put.{TreeAfter}
use Rattle.tk_tree.specs.Drop.{PageLeft, leaf_left, child_left, thin, inner_left, drop_in, give_way, last_leaf, settled, drop_tree, clear_tree}
use Rattle.tk_tree.proofs.Parts.{chosen}
use Rattle.tk_tree.proofs.PutPages.{first_of, find_append, other_both, skip}

-- the pages of what is left
abbrev pub pages_left : (n : ℕ) → Option (Tree n) → List Pair
pages_left n None = []
pages_left n (Some t) = pages_of n t

abbrev of_children : (n : ℕ) → List (KeyedChild (Tree n)) → List Pair
of_children n ks = flat_map (λ k. pages_of n k.tree) ks

child_pages : (n : ℕ) (key : List ℕ) (left : Option (Tree n)) (ks : List (KeyedChild (Tree n))) → of_children n (child_left key left ks) ≡ pages_left n left ++ of_children n ks
child_pages n key None ks = refl
child_pages n key (Some t) ks = refl

eq_so : (m n : ℕ) → (m == n) ≡ true → m ≡ n
eq_so m n h = grind (arith, nat_tests)

ne_so : (m n : ℕ) → (m == n) ≡ false → m ≢ n
ne_so m n h = grind (arith, nat_tests)

module _ (k : List ℕ) where
  module _ (n : ℕ) (o : Order) (key : List ℕ) (g : Tree n → PageLeft (Tree n)) (keeps : (u : Tree n) → IsOther k (g u).wrote → find k (pages_left n (g u).tree) ≡ find k (pages_of n u)) where
    thin_by : (b : Bool) (first : List ℕ) (t : Tree n) (j : KeyedChild (Tree n)) (ks : List (KeyedChild (Tree n)))
        → (IsOther k (thin o key g j.key j.tree ks).wrote → find k (of_children n (thin o key g j.key j.tree ks).children) ≡ find k (over (pages_of n) j.tree ks))
        → let c = if b then (let l = thin o key g j.key j.tree ks in record l { children = record { key = first; tree = t } ∷ l.children }) else (let l = g t in record { children = child_left first l.tree (j ∷ ks); wrote = l.wrote }) in
        IsOther k c.wrote → find k (of_children n c.children) ≡ find k (over (pages_of n) t (j ∷ ks))
    thin_by true first t j ks deeper other =
        find_append k (pages_of n t) (of_children n (thin o key g j.key j.tree ks).children) ∙ ap (λ x. first_of (find k (pages_of n t)) x) (deeper other) ∙ sym (find_append k (pages_of n t) (over (pages_of n) j.tree ks))
    thin_by false first t j ks deeper other =
        ap (find k) (child_pages n first (g t).tree (j ∷ ks)) ∙ find_append k (pages_left n (g t).tree) (over (pages_of n) j.tree ks)
        ∙ ap (λ x. first_of x (find k (over (pages_of n) j.tree ks))) (keeps t other) ∙ sym (find_append k (pages_of n t) (over (pages_of n) j.tree ks))

    thin_keeps : (first : List ℕ) (t : Tree n) (ks : List (KeyedChild (Tree n))) → IsOther k (thin o key g first t ks).wrote → find k (of_children n (thin o key g first t ks).children) ≡ find k (over (pages_of n) t ks)
    thin_keeps first t [] other = ap (find k) (child_pages n first (g t).tree []) ∙ find_append k (pages_left n (g t).tree) [] ∙ ap (λ x. first_of x None) (keeps t other) ∙ sym (find_append k (pages_of n t) [])
    thin_keeps first t (j ∷ ks) other = thin_by (is_le (key_cmp o j.key key)) first t j ks (thin_keeps j.key j.tree ks) other

module _ (n : ℕ) (o : Order) (key : List ℕ) (g : Tree n → PageLeft (Tree n)) (numbered : (u : Tree n) → IfSome (g u).tree (λ v. number_of n v ≡ number_of n u)) where
  -- where no child was taken out, the links stay
  abbrev SameLinks : (first : List ℕ) (t : Tree n) (ks : List (KeyedChild (Tree n))) → List (KeyedChild (Tree n)) → Type 0
  SameLinks first t ks children = length children ≡ length ks + 1 → map (child_of n) children ≡ record { page = number_of n t; key = first } ∷ map (child_of n) ks

  left_links : (first : List ℕ) (t : Tree n) (left : Option (Tree n)) (ks : List (KeyedChild (Tree n))) → IfSome left (λ v. number_of n v ≡ number_of n t) → SameLinks first t ks (child_left first left ks)
  left_links first t None ks is long = absurd (omega (arith, long))
  left_links first t (Some v) ks is long = ap (λ m. record { page = m; key = first } ∷ map (child_of n) ks) is

  links_by : (b : Bool) (first : List ℕ) (t : Tree n) (j : KeyedChild (Tree n)) (ks : List (KeyedChild (Tree n))) → SameLinks j.key j.tree ks (thin o key g j.key j.tree ks).children
      → SameLinks first t (j ∷ ks) (if b then (let l = thin o key g j.key j.tree ks in record l { children = record { key = first; tree = t } ∷ l.children }) else (let l = g t in record { children = child_left first l.tree (j ∷ ks); wrote = l.wrote })).children
  links_by true first t j ks deeper long = ap (λ l. record { page = number_of n t; key = first } ∷ l) (deeper (omega (arith, long)))
  links_by false first t j ks deeper long = left_links first t (g t).tree (j ∷ ks) (numbered t) long

  same_links : (first : List ℕ) (t : Tree n) (ks : List (KeyedChild (Tree n))) → SameLinks first t ks (thin o key g first t ks).children
  same_links first t [] = left_links first t (g t).tree [] (numbered t)
  same_links first t (j ∷ ks) = links_by (is_le (key_cmp o j.key key)) first t j ks (same_links j.key j.tree ks)

leaf_number : (number : ℕ) (ps : List Pair) → IfSome (leaf_left number ps) (λ (v : Leaf). v.number ≡ number)
leaf_number number [] = tt
leaf_number number (p ∷ ps) = refl

inner_number : {T : Type 0} (number : ℕ) (ks : List (KeyedChild T)) → IfSome (inner_left number ks) (λ (v : Inner T). v.number ≡ number)
inner_number number [] = tt
inner_number number (k ∷ ks) = refl

drop_number : (o : Order) (key : List ℕ) (n : ℕ) (t : Tree n) → IfSome (drop_in o key n t).tree (λ v. number_of n v ≡ number_of n t)
drop_number o key zero t =
    chosen (λ (x : PageLeft Leaf). IfSome x.tree (λ v. v.number ≡ t.number)) (is_some (find key t.pairs)) (record { tree = leaf_left t.number (without key t.pairs); wrote = t.number ∷ [] }) (record { tree = Some t; wrote = [] })
    (λ there. leaf_number t.number (without key t.pairs)) (λ absent. refl)
drop_number o key (suc n) t = inner_number t.number (thin o key (drop_in o key n) [] t.first t.rest).children

leaf_skips : (k : List ℕ) (number : ℕ) (ps qs : List Pair) → same_bytes k (number_key number) ≡ false → find k (pages_left 0 (leaf_left number ps)) ≡ find k (pages_of 0 (record { number = number; pairs = qs }))
leaf_skips k number [] qs other = sym (skip k number (pages.Leaf qs) [] other)
leaf_skips k number (p ∷ ps) qs other = skip k number (pages.Leaf (p ∷ ps)) [] other ∙ sym (skip k number (pages.Leaf qs) [] other)

inner_skips : (k : List ℕ) (n : ℕ) (number : ℕ) (ks : List (KeyedChild (Tree n))) → same_bytes k (number_key number) ≡ false → find k (pages_left (suc n) (inner_left number ks)) ≡ find k (of_children n ks)
inner_skips k n number [] other = refl
inner_skips k n number (j ∷ ks) other = skip k number (page_of (suc n) (record { number = number; first = j.tree; rest = ks })) (over (pages_of n) j.tree ks) other

-- the links of a page, whose first key is gone
empty_first : (c : Child) (cs : List Child) (page : ℕ) (ds : List Child) → c ∷ cs ≡ record { page = page; key = [] } ∷ ds → record { page = c.page; key = [] } ∷ cs ≡ record { page = page; key = [] } ∷ ds
empty_first c cs page ds is = let head : c ≡ record { page = page; key = [] } = cc in let tail : cs ≡ ds = cc in ap (λ (x : Child). record { page = x.page; key = [] } ∷ cs) head ∙ ap (λ l. record { page = page; key = [] } ∷ l) tail

-- an inner page whose links stayed
inner_same : (k : List ℕ) (n : ℕ) (t : Tree (suc n)) (ks : List (KeyedChild (Tree n))) → map (child_of n) ks ≡ record { page = number_of n t.first; key = [] } ∷ map (child_of n) t.rest → find k (of_children n ks) ≡ find k (over (pages_of n) t.first t.rest)
    → find k (pages_left (suc n) (inner_left t.number ks)) ≡ find k (pages_of (suc n) t)
inner_same k n t [] links same = absurd (cc)
inner_same k n t (j ∷ ks) links same =
    ap (λ cs. find k (stored t.number (pages.Inner cs) ∷ of_children n (j ∷ ks))) (empty_first (child_of n j) (map (child_of n) ks) (number_of n t.first) (map (child_of n) t.rest) links)
    ∙ ap (λ x. if same_bytes k (number_key t.number) then Some (stored t.number (page_of (suc n) t)).value else x) same

-- a page that a removal doesn't write stays as it is
pub drop_keeps : (k : List ℕ) (o : Order) (key : List ℕ) (n : ℕ) (t : Tree n) → IsOther k (drop_in o key n t).wrote → find k (pages_left n (drop_in o key n t).tree) ≡ find k (pages_of n t)
drop_keeps k o key zero t other =
    chosen (λ (x : PageLeft Leaf). IsOther k x.wrote → find k (pages_left 0 x.tree) ≡ find k (pages_of 0 t)) (is_some (find key t.pairs)) (record { tree = leaf_left t.number (without key t.pairs); wrote = t.number ∷ [] }) (record { tree = Some t; wrote = [] })
    (λ there others. leaf_skips k t.number (without key t.pairs) t.pairs others.0) (λ absent others. refl) other
drop_keeps k o key (suc n) t other =
    let l = thin o key (drop_in o key n) [] t.first t.rest in
    let below : IsOther k l.wrote → find k (of_children n l.children) ≡ find k (over (pages_of n) t.first t.rest) = thin_keeps k n o key (drop_in o key n) (λ u h. drop_keeps k o key n u h) [] t.first t.rest in
    chosen (λ (w : List ℕ). IsOther k w → find k (pages_left (suc n) (inner_left t.number l.children)) ≡ find k (pages_of (suc n) t)) (length l.children == length t.rest + 1) l.wrote (l.wrote ++ t.number ∷ [])
    (λ same others. inner_same k n t l.children (same_links n o key (drop_in o key n) (λ u. drop_number o key n u) [] t.first t.rest (eq_so (length l.children) (length t.rest + 1) same)) (below others))
    (λ fewer others.
    let both = other_both k l.wrote (t.number ∷ []) others in
    inner_skips k n t.number l.children both.1.0 ∙ below both.0 ∙ sym (skip k t.number (page_of (suc n) t) (over (pages_of n) t.first t.rest) both.1.0))
    other

-- ---- the root

one_child : (k : List ℕ) (n : ℕ) (t : Tree n) (ks : List (KeyedChild (Tree n))) → length ks ≡ 0 → find k (pages_of n t) ≡ find k (over (pages_of n) t ks)
one_child k n t [] none = ap (find k) (sym (append-nil (pages_of n t)))
one_child k n t (j ∷ ks) none = absurd (omega (arith, none))

give_keeps : (k : List ℕ) (n : ℕ) (t : Tree n) (next : ℕ) (wrote : List ℕ) → IsOther k (give_way n t next wrote).wrote
    → IsOther k wrote × (find k (pages_of (give_way n t next wrote).levels (give_way n t next wrote).top) ≡ find k (pages_of n t))
give_keeps k zero t next wrote other = (other, refl)
give_keeps k (suc n) t next wrote other =
    chosen (λ (x : TreeAfter). IsOther k x.wrote → IsOther k wrote × (find k (pages_of x.levels x.top) ≡ find k (pages_of (suc n) t))) (length t.rest == 0) (give_way n t.first next (wrote ++ t.number ∷ [])) (record { levels = suc n; top = t; next = next; wrote = wrote })
    (λ one others.
    let deeper = give_keeps k n t.first next (wrote ++ t.number ∷ []) others in
    let both = other_both k wrote (t.number ∷ []) deeper.0 in
    (both.0, deeper.1 ∙ one_child k n t.first t.rest (eq_so (length t.rest) 0 one) ∙ sym (skip k t.number (page_of (suc n) t) (over (pages_of n) t.first t.rest) both.1.0)))
    (λ more others. (others, refl)) other

nothing_other : (k : List ℕ) (ns : List ℕ) → length ns ≡ 0 → IsOther k ns
nothing_other k [] none = tt
nothing_other k (n ∷ ns) none = absurd (omega (arith, none))

-- nothing is left
abbrev Gone : (n : ℕ) → Option (Tree n) → Type 0
Gone n None = Unit {0}
Gone n (Some t) = ⊥

no_children : (n : ℕ) (number : ℕ) (ks : List (KeyedChild (Tree n))) → Gone (suc n) (inner_left number ks) → ks ≡ []
no_children n number [] gone = refl
no_children n number (j ∷ ks) gone = absurd gone

gone_so : (n : ℕ) (first : List ℕ) (left : Option (Tree n)) → child_left first left [] ≡ [] → Gone n left
gone_so n first None none = tt
gone_so n first (Some t) none = absurd (cc)

kept_one : (n : ℕ) (first : List ℕ) (left : Option (Tree n)) (j : KeyedChild (Tree n)) (ks : List (KeyedChild (Tree n))) → child_left first left (j ∷ ks) ≡ [] → ⊥
kept_one n first None j ks none = cc
kept_one n first (Some t) j ks none = cc

none_by : (n : ℕ) (o : Order) (key : List ℕ) (g : Tree n → PageLeft (Tree n)) (b : Bool) (first : List ℕ) (t : Tree n) (j : KeyedChild (Tree n)) (ks : List (KeyedChild (Tree n)))
    → (if b then (let l = thin o key g j.key j.tree ks in record l { children = record { key = first; tree = t } ∷ l.children }) else (let l = g t in record { children = child_left first l.tree (j ∷ ks); wrote = l.wrote })).children ≡ [] → ⊥
none_by n o key g true first t j ks none = cc
none_by n o key g false first t j ks none = kept_one n first (g t).tree j ks none

-- where no child is left there was one
last_child : (k : List ℕ) (o : Order) (key : List ℕ) (n : ℕ) (t : Tree n) (ks : List (KeyedChild (Tree n))) → (thin o key (drop_in o key n) [] t ks).children ≡ [] → IsOther k (thin o key (drop_in o key n) [] t ks).wrote
    → (Gone n (drop_in o key n t).tree → IsOther k (drop_in o key n t).wrote → same_bytes k (number_key (last_leaf n t)) ≡ false) → same_bytes k (number_key (last_leaf n t)) ≡ false
last_child k o key n t [] none other deeper = deeper (gone_so n [] (drop_in o key n t).tree none) other
last_child k o key n t (j ∷ ks) none other deeper = absurd (none_by n o key (drop_in o key n) (is_le (key_cmp o j.key key)) [] t j ks none)

last_wrote : (k : List ℕ) (o : Order) (key : List ℕ) (n : ℕ) (t : Tree n) → Gone n (drop_in o key n t).tree → IsOther k (drop_in o key n t).wrote → same_bytes k (number_key (last_leaf n t)) ≡ false
last_wrote k o key zero t gone other =
    chosen (λ (x : PageLeft Leaf). Gone 0 x.tree → IsOther k x.wrote → same_bytes k (number_key t.number) ≡ false) (is_some (find key t.pairs)) (record { tree = leaf_left t.number (without key t.pairs); wrote = t.number ∷ [] }) (record { tree = Some t; wrote = [] })
    (λ there g others. others.0) (λ absent g others. absurd g) gone other
last_wrote k o key (suc n) t gone other =
    let l = thin o key (drop_in o key n) [] t.first t.rest in
    let none : l.children ≡ [] = no_children n t.number l.children gone in
    let others : IsOther k l.wrote = chosen (λ (w : List ℕ). IsOther k w → IsOther k l.wrote) (length l.children == length t.rest + 1) l.wrote (l.wrote ++ t.number ∷ []) (λ _ h. h) (λ _ h. (other_both k l.wrote (t.number ∷ []) h).0) other in
    last_child k o key n t.first t.rest none others (λ gone_first other_first. last_wrote k o key n t.first gone_first other_first)

settle_keeps : (k : List ℕ) (n : ℕ) (before : Tree n) (next : ℕ) (left : Option (Tree n)) (wrote : List ℕ) → (Gone n left → IsOther k wrote → same_bytes k (number_key (last_leaf n before)) ≡ false)
    → (IsOther k wrote → find k (pages_left n left) ≡ find k (pages_of n before)) → IsOther k (settled n before next (record { tree = left; wrote = wrote })).wrote
    → find k (pages_of (settled n before next (record { tree = left; wrote = wrote })).levels (settled n before next (record { tree = left; wrote = wrote })).top) ≡ find k (pages_of n before)
settle_keeps k n before next None wrote last keeps other = skip k (last_leaf n before) (pages.Leaf []) [] (last tt other) ∙ keeps other
settle_keeps k n before next (Some t) wrote last keeps other =
    chosen (λ (x : TreeAfter). IsOther k x.wrote → find k (pages_of x.levels x.top) ≡ find k (pages_of n before)) (length wrote == 0) (record { levels = n; top = t; next = next; wrote = [] }) (give_way n t next wrote)
    (λ none others. keeps (nothing_other k wrote (eq_so (length wrote) 0 none)))
    (λ some others. let g = give_keeps k n t next wrote others in g.1 ∙ keeps g.0) other

-- a page that a removal from a tree doesn't write stays as it is
pub drop_tree_keeps : (k : List ℕ) (o : Order) (key : List ℕ) (n : ℕ) (t : Tree n) (next : ℕ) → IsOther k (drop_tree o key n t next).wrote
    → find k (pages_of (drop_tree o key n t next).levels (drop_tree o key n t next).top) ≡ find k (pages_of n t)
drop_tree_keeps k o key n t next other =
    settle_keeps k n t next (drop_in o key n t).tree (drop_in o key n t).wrote (last_wrote k o key n t) (drop_keeps k o key n t) other

-- all pages are written by a clear
children_cleared : (k : List ℕ) (n : ℕ) → ((u : Tree n) → IsOther k (numbers_of n u) → find k (pages_of n u) ≡ None) → (t : Tree n) (ks : List (KeyedChild (Tree n))) → IsOther k (over (numbers_of n) t ks) → find k (over (pages_of n) t ks) ≡ None
children_cleared k n each t [] other =
    find_append k (pages_of n t) [] ∙ ap (λ x. first_of x None) (each t (other_both k (numbers_of n t) [] other).0)
children_cleared k n each t (j ∷ ks) other =
    let both = other_both k (numbers_of n t) (over (numbers_of n) j.tree ks) other in
    find_append k (pages_of n t) (over (pages_of n) j.tree ks) ∙ ap (λ x. first_of x (find k (over (pages_of n) j.tree ks))) (each t both.0) ∙ children_cleared k n each j.tree ks both.1

all_cleared : (k : List ℕ) (n : ℕ) (t : Tree n) → IsOther k (numbers_of n t) → find k (pages_of n t) ≡ None
all_cleared k zero t other = skip k t.number (page_of 0 t) [] other.0
all_cleared k (suc n) t other =
    skip k t.number (page_of (suc n) t) (over (pages_of n) t.first t.rest) other.0 ∙ children_cleared k n (λ u h. all_cleared k n u h) t.first t.rest other.1

root_other : (k : List ℕ) (n : ℕ) (t : Tree n) → IsOther k (numbers_of n t) → same_bytes k (number_key (number_of n t)) ≡ false
root_other k zero t other = other.0
root_other k (suc n) t other = other.0

pub clear_tree_keeps : (k : List ℕ) (n : ℕ) (t : Tree n) (next : ℕ) → IsOther k (clear_tree n t next).wrote → find k (pages_of (clear_tree n t next).levels (clear_tree n t next).top) ≡ find k (pages_of n t)
clear_tree_keeps k n t next other = skip k (number_of n t) (pages.Leaf []) [] (root_other k n t other) ∙ sym (all_cleared k n t other)
