-- Which trees are valid.
use Rattle.std.specs.Prelude.{◌≡◌, ℕ, zero, suc, ◌+◌, ◌≤◌, true, List, [], ◌∷◌, length, Option, Some, None, sum_by}
use Rattle.std.specs.Ordering.{is_le}
use Rattle.std.specs.declared.cmp.Ordering.TheVariants.{Less}
use Rattle.tk_model.specs.Orders.{key_cmp}
use Rattle.tk_model.specs.Records.{Rising}
use Rattle.tk_model.specs.declared.record.Order.{Order}
use Rattle.tk_model.specs.declared.record.Pair.{Pair}
use Rattle.tk_tree.specs.Tree.{KeyedChild, Tree, records_of}

-- at or past the low bound
abbrev pub From : Order → Option (List ℕ) → List ℕ → Type 0
From o None k = Unit {0}
From o (Some low) k = is_le (key_cmp o low k) ≡ true

-- before the high bound
abbrev pub Under : Order → Option (List ℕ) → List ℕ → Type 0
Under o None k = Unit {0}
Under o (Some high) k = key_cmp o k high ≡ Less

pub record Between (o : Order) (low high : Option (List ℕ)) (k : List ℕ) : Type 0 where
  pub from : From o low k
  pub under : Under o high k

abbrev pub AllBetween : Order → (low high : Option (List ℕ)) → List Pair → Type 0
AllBetween o low high [] = Unit {0}
AllBetween o low high (p ∷ ps) = Between o low high p.key × AllBetween o low high ps

-- the bytes of a record's text
abbrev pub pair_size : Pair → ℕ
pair_size p = 6 + (length p.key + length p.value)

-- the bytes of a leaf's text
abbrev pub leaf_size : List Pair → ℕ
leaf_size ps = 5 + sum_by pair_size ps

-- a leaf of two records or more has at most 2,048 bytes
abbrev pub FitsLeaf : List Pair → Type 0
FitsLeaf [] = Unit {0}
FitsLeaf (p ∷ []) = Unit {0}
FitsLeaf (p ∷ q ∷ ps) = leaf_size (p ∷ q ∷ ps) ≤ 2048

module _ {T : Type 0} where
  -- the keys of children rise
  abbrev pub AllPast : Order → List ℕ → List (KeyedChild T) → Type 0
  AllPast o key [] = Unit {0}
  AllPast o key (k ∷ ks) = (key_cmp o key k.key ≡ Less) × AllPast o key ks

  abbrev pub KeysRise : Order → List (KeyedChild T) → Type 0
  KeysRise o [] = Unit {0}
  KeysRise o (k ∷ ks) = AllPast o k.key ks × KeysRise o ks

  -- each child holds keys from its own key up to the next child's
  abbrev pub ChildrenWithin : Order → ((low high : Option (List ℕ)) → T → Type 0) → (low high : Option (List ℕ)) → T → List (KeyedChild T) → Type 0
  ChildrenWithin o P low high t [] = P low high t
  ChildrenWithin o P low high t (k ∷ ks) = Between o low high k.key × P low (Some k.key) t × ChildrenWithin o P (Some k.key) high k.tree ks

-- the pages of a tree whose keys lie within bounds
abbrev pub IsWithin : Order → (n : ℕ) → (low high : Option (List ℕ)) → Tree n → Type 0
IsWithin o zero low high t = Rising o t.pairs × AllBetween o low high t.pairs × FitsLeaf t.pairs
IsWithin o (suc n) low high t = (length t.rest ≤ 127) × KeysRise o t.rest × ChildrenWithin o (IsWithin o n) low high t.first t.rest

-- a tree has these records, in order, in pages that are valid
pub record IsTreeOf (o : Order) (m : List Pair) (levels : ℕ) (top : Tree levels) : Type 0 where
  pub records : records_of levels top ≡ m
  pub within : IsWithin o levels None None top
