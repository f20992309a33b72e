-- How a record is dropped, and how pages that are left empty are taken out.
use Rattle.std.specs.Prelude.{ℕ, zero, suc, ◌+◌, List, [], ◌∷◌, ◌++◌, length, Option, Some, None, is_some, if◌then◌else◌, ◌==◌}
use Rattle.std.specs.Ordering.{is_le}
use Rattle.tk_model.specs.Orders.{key_cmp}
use Rattle.tk_model.specs.Records.{find, without}
use Rattle.tk_model.specs.declared.record.Order.{Order}
use Rattle.tk_model.specs.declared.record.Pair.{Pair}
use Rattle.tk_tree.specs.Tree.{Leaf, KeyedChild, Inner, Tree, number_of, numbers_of}
use Rattle.tk_tree.specs.Put.{TreeAfter}

-- what is left of a page, none where it is taken out, and the pages that were written
pub record PageLeft (T : Type 0) : Type 0 where
  pub tree : Option T
  pub wrote : List ℕ

-- the same of children
pub record ChildrenLeft (T : Type 0) : Type 0 where
  pub children : List (KeyedChild T)
  pub wrote : List ℕ

abbrev pub leaf_left : (number : ℕ) → List Pair → Option Leaf
leaf_left number [] = None
leaf_left number (p ∷ ps) = Some (record { number = number; pairs = p ∷ ps })

module _ {T : Type 0} where
  abbrev pub child_left : List ℕ → Option T → List (KeyedChild T) → List (KeyedChild T)
  child_left key None ks = ks
  child_left key (Some t) ks = record { key = key; tree = t } ∷ ks

  -- the child for the key becomes what is left of it
  abbrev pub thin : Order → List ℕ → (T → PageLeft T) → (first : List ℕ) → T → List (KeyedChild T) → ChildrenLeft T
  thin o key f first t [] = let l = f t in record { children = child_left first l.tree []; wrote = l.wrote }
  thin o key f first t (k ∷ ks) =
      if is_le (key_cmp o k.key key)
      then (let l = thin o key f k.key k.tree ks in record l { children = record { key = first; tree = t } ∷ l.children })
      else (let l = f t in record { children = child_left first l.tree (k ∷ ks); wrote = l.wrote })

  -- an inner page with these children: the first one's key is gone
  abbrev pub inner_left : (number : ℕ) → List (KeyedChild T) → Option (Inner T)
  inner_left number [] = None
  inner_left number (k ∷ ks) = Some (record { number = number; first = k.tree; rest = ks })

  -- where no child was taken out the page isn't written
  abbrev pub lowered : (number : ℕ) → (before : List (KeyedChild T)) → ChildrenLeft T → PageLeft (Inner T)
  lowered number before l = record { tree = inner_left number l.children; wrote = if length l.children == length before + 1 then l.wrote else l.wrote ++ number ∷ [] }

abbrev pub drop_in : Order → List ℕ → (n : ℕ) → Tree n → PageLeft (Tree n)
drop_in o key zero t =
    if is_some (find key t.pairs) then record { tree = leaf_left t.number (without key t.pairs); wrote = t.number ∷ [] } else record { tree = Some t; wrote = [] }
drop_in o key (suc n) t = lowered t.number t.rest (thin o key (drop_in o key n) [] t.first t.rest)

-- a root with one child gives way to it
abbrev pub give_way : (n : ℕ) → Tree n → (next : ℕ) → (wrote : List ℕ) → TreeAfter
give_way zero t next wrote = record { levels = zero; top = t; next = next; wrote = wrote }
give_way (suc n) t next wrote = if length t.rest == 0 then give_way n t.first next (wrote ++ t.number ∷ []) else record { levels = suc n; top = t; next = next; wrote = wrote }

-- the leaf along the first children
abbrev pub last_leaf : (n : ℕ) → Tree n → ℕ
last_leaf zero t = t.number
last_leaf (suc n) t = last_leaf n t.first

abbrev pub only_leaf : (number next : ℕ) → (wrote : List ℕ) → TreeAfter
only_leaf number next wrote = record { levels = zero; top = record { number = number; pairs = [] }; next = next; wrote = wrote }

-- the last leaf stays, and a removal that found nothing changes nothing
abbrev pub settled : (n : ℕ) → (before : Tree n) → (next : ℕ) → PageLeft (Tree n) → TreeAfter
settled n before next l = elim l.tree [
  | None ↦ only_leaf (last_leaf n before) next l.wrote
  | Some t ↦ (if length l.wrote == 0 then record { levels = n; top = t; next = next; wrote = [] } else give_way n t next l.wrote)
]

abbrev pub drop_tree : Order → List ℕ → (n : ℕ) → Tree n → (next : ℕ) → TreeAfter
drop_tree o key n t next = settled n t next (drop_in o key n t)

abbrev pub clear_tree : (n : ℕ) → Tree n → (next : ℕ) → TreeAfter
clear_tree n t next = only_leaf (number_of n t) next (numbers_of n t)
