-- No page number comes by a removal or a clear.
use Rattle.std.proofs.Common.{◌≡◌, ℕ, zero, suc, ◌+◌, ◌≤◌, List, [], ◌∷◌, ◌++◌, length, Option, Some, None, refl, arith}
use Rattle.std.specs.Prelude.{◌==◌, is_some}
use Rattle.std.specs.List.{flat_map}
use Rattle.std.specs.Ordering.{is_le}
use Rattle.tk_model.specs.Orders.{key_cmp}
use Rattle.tk_model.specs.Records.{find, without}
use Rattle.tk_model.specs.declared.record.Order.{Order}
use Rattle.tk_model.specs.declared.record.Pair.{Pair}
use Rattle.tk_tree.specs.Tree.{Leaf, KeyedChild, Tree, over, number_of, numbers_of}
use Rattle.tk_tree.specs.Pages.{copies, AreGiven}
use Rattle.tk_tree.specs.Put.{TreeAfter}
use Rattle.tk_tree.specs.Drop.{PageLeft, leaf_left, child_left, thin, inner_left, drop_in, give_way, last_leaf, settled, drop_tree, clear_tree}
use Rattle.tk_tree.proofs.Parts.{chosen}
use Rattle.tk_tree.proofs.Lying.{copies_append}

abbrev numbers_left : (n : ℕ) → Option (Tree n) → List ℕ
numbers_left n None = []
numbers_left n (Some t) = numbers_of n t

abbrev of_children : (n : ℕ) → List (KeyedChild (Tree n)) → List ℕ
of_children n ks = flat_map (λ k. numbers_of n k.tree) ks

module _ (m : ℕ) where
  child_copies : (n : ℕ) (key : List ℕ) (left : Option (Tree n)) (ks : List (KeyedChild (Tree n))) → copies m (of_children n (child_left key left ks)) ≡ copies m (numbers_left n left) + copies m (of_children n ks)
  child_copies n key None ks = omega arith
  child_copies n key (Some t) ks = copies_append m (numbers_of n t) (of_children n ks)

  thin_copies : (n : ℕ) (o : Order) (key : List ℕ) (g : Tree n → PageLeft (Tree n)) → ((u : Tree n) → copies m (numbers_left n (g u).tree) ≤ copies m (numbers_of n u)) → (first : List ℕ) (t : Tree n) (ks : List (KeyedChild (Tree n)))
      → copies m (of_children n (thin o key g first t ks).children) ≤ copies m (over (numbers_of n) t ks)
  thin_copies n o key g fewer first t [] = omega (arith, child_copies n first (g t).tree [], fewer t, copies_append m (numbers_of n t) [])
  thin_copies n o key g fewer first t (j ∷ ks) =
      chosen (λ x. copies m (of_children n x.children) ≤ copies m (over (numbers_of n) t (j ∷ ks))) (is_le (key_cmp o j.key key))
      (let l = thin o key g j.key j.tree ks in record l { children = record { key = first; tree = t } ∷ l.children }) (let l = g t in record { children = child_left first l.tree (j ∷ ks); wrote = l.wrote })
      (λ right. omega (arith, thin_copies n o key g fewer j.key j.tree ks, copies_append m (numbers_of n t) (of_children n (thin o key g j.key j.tree ks).children), copies_append m (numbers_of n t) (over (numbers_of n) j.tree ks)))
      (λ here. omega (arith, child_copies n first (g t).tree (j ∷ ks), fewer t, copies_append m (numbers_of n t) (over (numbers_of n) j.tree ks)))

  leaf_copies : (number : ℕ) (ps : List Pair) → copies m (numbers_left 0 (leaf_left number ps)) ≤ copies m (number ∷ [])
  leaf_copies number [] = omega arith
  leaf_copies number (p ∷ ps) = omega arith

  inner_copies : (n number : ℕ) (ks : List (KeyedChild (Tree n))) → copies m (numbers_left (suc n) (inner_left number ks)) ≤ copies m (number ∷ of_children n ks)
  inner_copies n number [] = omega arith
  inner_copies n number (j ∷ ks) = omega arith

  pub drop_copies : (o : Order) (key : List ℕ) (n : ℕ) (t : Tree n) → copies m (numbers_left n (drop_in o key n t).tree) ≤ copies m (numbers_of n t)
  drop_copies o key zero t =
      chosen (λ (x : PageLeft Leaf). copies m (numbers_left 0 x.tree) ≤ copies m (t.number ∷ [])) (is_some (find key t.pairs)) (record { tree = leaf_left t.number (without key t.pairs); wrote = t.number ∷ [] }) (record { tree = Some t; wrote = [] })
      (λ there. leaf_copies t.number (without key t.pairs)) (λ absent. omega arith)
  drop_copies o key (suc n) t =
      omega (arith, inner_copies n t.number (thin o key (drop_in o key n) [] t.first t.rest).children, thin_copies n o key (drop_in o key n) (λ u. drop_copies o key n u) [] t.first t.rest)

  give_copies : (n : ℕ) (t : Tree n) (next : ℕ) (wrote : List ℕ) → copies m (numbers_of (give_way n t next wrote).levels (give_way n t next wrote).top) ≤ copies m (numbers_of n t)
  give_copies zero t next wrote = omega arith
  give_copies (suc n) t next wrote =
      chosen (λ (x : TreeAfter). copies m (numbers_of x.levels x.top) ≤ copies m (numbers_of (suc n) t)) (length t.rest == 0) (give_way n t.first next (wrote ++ t.number ∷ [])) (record { levels = suc n; top = t; next = next; wrote = wrote })
      (λ one. omega (arith, give_copies n t.first next (wrote ++ t.number ∷ []), copies_append m (numbers_of n t.first) (of_children n t.rest))) (λ more. omega arith)

  last_copies : (n : ℕ) (t : Tree n) → copies m (last_leaf n t ∷ []) ≤ copies m (numbers_of n t)
  last_copies zero t = omega arith
  last_copies (suc n) t = omega (arith, last_copies n t.first, copies_append m (numbers_of n t.first) (of_children n t.rest))

  settle_copies : (n : ℕ) (before : Tree n) (next : ℕ) (left : Option (Tree n)) (wrote : List ℕ) → copies m (numbers_left n left) ≤ copies m (numbers_of n before)
      → copies m (numbers_of (settled n before next (record { tree = left; wrote = wrote })).levels (settled n before next (record { tree = left; wrote = wrote })).top) ≤ copies m (numbers_of n before)
  settle_copies n before next None wrote fewer = last_copies n before
  settle_copies n before next (Some t) wrote fewer =
      chosen (λ (x : TreeAfter). copies m (numbers_of x.levels x.top) ≤ copies m (numbers_of n before)) (length wrote == 0) (record { levels = n; top = t; next = next; wrote = [] }) (give_way n t next wrote)
      (λ same. fewer) (λ dropped. omega (arith, fewer, give_copies n t next wrote))

  pub drop_tree_copies : (o : Order) (key : List ℕ) (n : ℕ) (t : Tree n) (next : ℕ) → copies m (numbers_of (drop_tree o key n t next).levels (drop_tree o key n t next).top) ≤ copies m (numbers_of n t)
  drop_tree_copies o key n t next = settle_copies n t next (drop_in o key n t).tree (drop_in o key n t).wrote (drop_copies o key n t)

  root_copies : (n : ℕ) (t : Tree n) → copies m (number_of n t ∷ []) ≤ copies m (numbers_of n t)
  root_copies zero t = omega arith
  root_copies (suc n) t = omega arith

-- numbers of which no more stand there
pub fewer_given : (next : ℕ) (ns ms : List ℕ) → ((m : ℕ) → copies m ms ≤ copies m ns) → AreGiven next ns → AreGiven next ms
fewer_given next ns ms fewer is = record {
  apart = λ m. omega (arith, fewer m, is.apart m);
  numbers = λ m has. is.numbers m (omega (arith, has, fewer m));
}

pub clear_given : (n : ℕ) (t : Tree n) (next : ℕ) → AreGiven next (numbers_of n t) → AreGiven next (numbers_of (clear_tree n t next).levels (clear_tree n t next).top)
clear_given n t next is = fewer_given next (numbers_of n t) (number_of n t ∷ []) (λ m. root_copies m n t) is

pub drop_given : (o : Order) (key : List ℕ) (n : ℕ) (t : Tree n) (next : ℕ) → AreGiven next (numbers_of n t) → AreGiven next (numbers_of (drop_tree o key n t next).levels (drop_tree o key n t next).top)
drop_given o key n t next is = fewer_given next (numbers_of n t) (numbers_of (drop_tree o key n t next).levels (drop_tree o key n t next).top) (λ m. drop_tree_copies m o key n t next) is

give_next : (n : ℕ) (t : Tree n) (next : ℕ) (wrote : List ℕ) → (give_way n t next wrote).next ≡ next
give_next zero t next wrote = refl
give_next (suc n) t next wrote =
    chosen (λ (x : TreeAfter). x.next ≡ next) (length t.rest == 0) (give_way n t.first next (wrote ++ t.number ∷ [])) (record { levels = suc n; top = t; next = next; wrote = wrote })
    (λ one. give_next n t.first next (wrote ++ t.number ∷ [])) (λ more. refl)

settle_next : (n : ℕ) (before : Tree n) (next : ℕ) (left : Option (Tree n)) (wrote : List ℕ) → (settled n before next (record { tree = left; wrote = wrote })).next ≡ next
settle_next n before next None wrote = refl
settle_next n before next (Some t) wrote =
    chosen (λ (x : TreeAfter). x.next ≡ next) (length wrote == 0) (record { levels = n; top = t; next = next; wrote = [] }) (give_way n t next wrote)
    (λ same. refl) (λ dropped. give_next n t next wrote)

-- a removal gives out no number
pub drop_next : (o : Order) (key : List ℕ) (n : ℕ) (t : Tree n) (next : ℕ) → (drop_tree o key n t next).next ≡ next
drop_next o key n t next = settle_next n t next (drop_in o key n t).tree (drop_in o key n t).wrote
