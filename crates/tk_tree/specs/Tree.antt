-- A tree as plain data, each page with its number.
use Rattle.std.specs.Prelude.{ℕ, zero, suc, List, [], ◌∷◌, ◌++◌}
use Rattle.std.specs.List.{flat_map}
use Rattle.tk_model.specs.declared.record.Pair.{Pair}

pub record Leaf : Type 0 where
  pub number : ℕ
  pub pairs : List Pair

-- a child behind the first, and the least key that it may hold
pub record KeyedChild (T : Type 0) : Type 0 where
  pub key : List ℕ
  pub tree : T

pub record Inner (T : Type 0) : Type 0 where
  pub number : ℕ
  pub first : T
  pub rest : List (KeyedChild T)

-- a tree with so many levels of inner pages above its leaves
abbrev pub Tree : ℕ → Type 0
Tree zero = Leaf
Tree (suc n) = Inner (Tree n)

-- what children have, one after another
abbrev pub over : {T A : Type 0} → (T → List A) → T → List (KeyedChild T) → List A
over f t ks = f t ++ flat_map (λ k. f k.tree) ks

-- the records of the leaves in order
abbrev pub records_of : (n : ℕ) → Tree n → List Pair
records_of zero t = t.pairs
records_of (suc n) t = over (records_of n) t.first t.rest

abbrev pub number_of : (n : ℕ) → Tree n → ℕ
number_of zero t = t.number
number_of (suc n) t = t.number

-- the numbers of all pages
abbrev pub numbers_of : (n : ℕ) → Tree n → List ℕ
numbers_of zero t = t.number ∷ []
numbers_of (suc n) t = t.number ∷ over (numbers_of n) t.first t.rest
