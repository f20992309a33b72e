-- A look-up along one path finds what all records have.
use Rattle.std.proofs.Common.{◌≡◌, ℕ, zero, suc, Bool, true, false, if◌then◌else◌, List, [], ◌∷◌, ◌++◌, Option, Some, refl, ap, ◌∙◌}
use Rattle.std.proofs.lemmas.List.{append-nil}
use Rattle.std.specs.Ordering.{is_le}
use Rattle.tk_model.specs.Orders.{key_cmp}
use Rattle.tk_model.specs.Records.{find}
use Rattle.tk_model.specs.declared.record.Order.{Order}
use Rattle.tk_model.specs.declared.record.Pair.{Pair}
use Rattle.tk_tree.specs.Tree.{KeyedChild, Tree, over, records_of}
use Rattle.tk_tree.specs.Formed.{AllBetween, ChildrenWithin, IsWithin}
use Rattle.tk_tree.specs.Lookup.{child_for, leaf_for}
use Rattle.tk_tree.proofs.Keys.{before_key, behind_key, not_le, lower, higher, between_append, find_behind, find_before}

module _ {T : Type 0} (o : Order) (f : T → List Pair) (P : (low high : Option (List ℕ)) → T → Type 0) (known : (low high : Option (List ℕ)) (t : T) → P low high t → AllBetween o low high (f t)) where
  -- the records of children lie within the bounds of all
  pub children_between : (low high : Option (List ℕ)) (t : T) (ks : List (KeyedChild T)) → ChildrenWithin o P low high t ks → AllBetween o low high (over f t ks)
  children_between low high t [] children = between_append o low high (f t) [] (known low high t children) tt
  children_between low high t (k ∷ ks) children =
      between_append o low high (f t) (over f k.tree ks)
      (higher o low k.key high (f t) children.0.under (known low (Some k.key) t children.1))
      (lower o low k.key high (over f k.tree ks) children.0.from (children_between (Some k.key) high k.tree ks children.2))

  find_by : (b : Bool) (key : List ℕ) (low high : Option (List ℕ)) (t : T) (k : KeyedChild T) (ks : List (KeyedChild T)) → is_le (key_cmp o k.key key) ≡ b → ChildrenWithin o P low high t (k ∷ ks)
      → find key (over f k.tree ks) ≡ find key (f (child_for o key k.tree ks))
      → find key (f t ++ over f k.tree ks) ≡ find key (f (if b then child_for o key k.tree ks else t))
  find_by true key low high t k ks is children deeper = find_before o key (f t) (over f k.tree ks) (before_key o low k.key key (f t) (known low (Some k.key) t children.1) is) ∙ deeper
  find_by false key low high t k ks is children deeper =
      find_behind o key (f t) (over f k.tree ks) (behind_key o k.key key high (over f k.tree ks) (children_between (Some k.key) high k.tree ks children.2) (not_le o k.key key is))

  -- the key's child decides
  pub find_in_children : (key : List ℕ) (low high : Option (List ℕ)) (t : T) (ks : List (KeyedChild T)) → ChildrenWithin o P low high t ks → find key (over f t ks) ≡ find key (f (child_for o key t ks))
  find_in_children key low high t [] children = ap (find key) (append-nil (f t))
  find_in_children key low high t (k ∷ ks) children =
      find_by (is_le (key_cmp o k.key key)) key low high t k ks refl children (find_in_children key (Some k.key) high k.tree ks children.2)

  child_by : (b : Bool) (key : List ℕ) (low high : Option (List ℕ)) (t : T) (k : KeyedChild T) (ks : List (KeyedChild T)) → ChildrenWithin o P low high t (k ∷ ks)
      → ((a : Option (List ℕ)) × (c : Option (List ℕ)) × P a c (child_for o key k.tree ks))
      → (a : Option (List ℕ)) × (c : Option (List ℕ)) × P a c (if b then child_for o key k.tree ks else t)
  child_by true key low high t k ks children deeper = deeper
  child_by false key low high t k ks children deeper = (low, Some k.key, children.1)

  pub child_within : (key : List ℕ) (low high : Option (List ℕ)) (t : T) (ks : List (KeyedChild T)) → ChildrenWithin o P low high t ks
      → (a : Option (List ℕ)) × (c : Option (List ℕ)) × P a c (child_for o key t ks)
  child_within key low high t [] children = (low, high, children)
  child_within key low high t (k ∷ ks) children = child_by (is_le (key_cmp o k.key key)) key low high t k ks children (child_within key (Some k.key) high k.tree ks children.2)

-- the records of a tree lie within its bounds
pub records_between : (o : Order) (n : ℕ) (low high : Option (List ℕ)) (t : Tree n) → IsWithin o n low high t → AllBetween o low high (records_of n t)
records_between o zero low high t is = is.1
records_between o (suc n) low high t is = children_between o (records_of n) (IsWithin o n) (λ a b u h. records_between o n a b u h) low high t.first t.rest is.2

-- the leaf that a look-up comes to has what all records have at the key
pub leaf_decides : (o : Order) (key : List ℕ) (n : ℕ) (low high : Option (List ℕ)) (t : Tree n) → IsWithin o n low high t → find key (records_of n t) ≡ find key (leaf_for o key n t).pairs
leaf_decides o key zero low high t is = refl
leaf_decides o key (suc n) low high t is =
    let child = child_within o (records_of n) (IsWithin o n) (λ a b u h. records_between o n a b u h) key low high t.first t.rest is.2 in
    find_in_children o (records_of n) (IsWithin o n) (λ a b u h. records_between o n a b u h) key low high t.first t.rest is.2
    ∙ leaf_decides o key n child.0 child.1 (child_for o key t.first t.rest) child.2
