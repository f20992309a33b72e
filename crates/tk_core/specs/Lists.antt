-- Lists of numbers and numbered things, and functions that differ at one place.
use Rattle.std.specs.Prelude.{◌≡◌, ◌==◌, ◌||◌, ltb, ◌+◌, ◌<◌, ℕ, Bool, true, false, List, [], ◌∷◌, cond}
use mathlib.Core.Option.{some}
use lib.ListN.{get_elem?}

-- x stands in the list
abbrev pub has : ℕ → List ℕ → Bool
has x [] = false
has x (y ∷ ys) = (x == y) || has x ys

-- the list without x
abbrev pub without : ℕ → List ℕ → List ℕ
without x [] = []
without x (y ∷ ys) = cond (x == y) (without x ys) (y ∷ without x ys)

-- how often x stands in the list
abbrev pub count : ℕ → List ℕ → ℕ
count x [] = 0
count x (y ∷ ys) = cond (x == y) 1 0 + count x ys

abbrev pub AllBelow : ℕ → List ℕ → Type 0
AllBelow n xs = (x : ℕ) → has x xs ≡ true → x < n

abbrev pub total : {A : Type 0} → (A → ℕ) → List A → ℕ
total f [] = 0
total f (x ∷ xs) = f x + total f xs

-- how many pairs have this number
abbrev pub times : {A : Type 0} → ℕ → List (ℕ × A) → ℕ
times k [] = 0
times k (p ∷ ps) = cond (k == p.0) 1 0 + times k ps

-- each pair stands in the list at its number
abbrev pub InPlace : {A : Type 0} → List A → List (ℕ × A) → Type 0
InPlace xs [] = Unit {0}
InPlace xs (p ∷ ps) = (get_elem? xs p.0 ≡ some p.1) × InPlace xs ps

-- one for a number below n
abbrev pub once_below : ℕ → ℕ → ℕ
once_below k n = cond (ltb k n) 1 0

-- the same but at one place
abbrev pub put : {A : Type 0} → (ℕ → A) → ℕ → A → ℕ → A
put f i a x = cond (x == i) a (f x)
