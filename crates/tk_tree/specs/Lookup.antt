-- Look-ups along one path.
use Rattle.std.specs.Prelude.{ℕ, zero, suc, List, [], ◌∷◌, if◌then◌else◌}
use Rattle.std.specs.Ordering.{is_le}
use Rattle.tk_model.specs.Orders.{key_cmp}
use Rattle.tk_model.specs.declared.record.Order.{Order}
use Rattle.tk_tree.specs.Tree.{Leaf, KeyedChild, Tree}

-- the last child whose key is at or before this one
abbrev pub child_for : {T : Type 0} → Order → List ℕ → T → List (KeyedChild T) → T
child_for o key t [] = t
child_for o key t (k ∷ ks) = if is_le (key_cmp o k.key key) then child_for o key k.tree ks else t

-- the leaf that has the key, if any has
abbrev pub leaf_for : Order → List ℕ → (n : ℕ) → Tree n → Leaf
leaf_for o key zero t = t
leaf_for o key (suc n) t = leaf_for o key n (child_for o key t.first t.rest)

-- the numbers of the pages from the top to that leaf
abbrev pub path_for : Order → List ℕ → (n : ℕ) → Tree n → List ℕ
path_for o key zero t = t.number ∷ []
path_for o key (suc n) t = t.number ∷ path_for o key n (child_for o key t.first t.rest)

-- the numbers of the inner pages on that way
abbrev pub inners_for : Order → List ℕ → (n : ℕ) → Tree n → List ℕ
inners_for o key zero t = []
inners_for o key (suc n) t = t.number ∷ inners_for o key n (child_for o key t.first t.rest)
