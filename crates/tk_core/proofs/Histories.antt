-- Histories that are kept as lengths, and calls that are kept as numbers, stay as the history grows.
use Rattle.std.proofs.Common.{◌≡◌, ℕ, zero, suc, ◌<◌, ◌≤◌, List, [], ◌∷◌, ◌++◌, length, reverse, length-append, map, get_or, refl, sym, ap, arith, cond, ltb}
use mathlib.Core.List.{IsPrefix}
use mathlib.Core.Option.{some}
use lib.ListN.{get_elem?}
use Rattle.tk_model.specs.declared.record.Entry.{Entry}
use Rattle.tk_model.specs.declared.record.Entry.TheVariants as entries
use Rattle.tk_core.specs.declared.machine.Row.{Row}
use Rattle.tk_core.specs.Lists.{InPlace}
use Rattle.tk_core.specs.Moves.{longer}
use Rattle.tk_core.specs.Program.{firsts, numbered, caller_of}
use Rattle.tk_core.proofs.Facts.{inside}

firsts_length : (n : ℕ) (log : List Entry) → length (firsts n log) ≡ n
firsts_length zero log = refl
firsts_length (suc n) [] = ap suc (firsts_length n [])
firsts_length (suc n) (e ∷ es) = ap suc (firsts_length n es)

pub firsts_all : (n : ℕ) (log : List Entry) → n ≡ length log → firsts n log ≡ log
firsts_all zero [] e = refl
firsts_all zero (x ∷ xs) e = absurd (omega arith)
firsts_all (suc n) [] e = absurd (omega arith)
firsts_all (suc n) (x ∷ xs) e = ap (λ ys. x ∷ ys) (firsts_all n xs (omega arith))

firsts_longer : (n : ℕ) (log es : List Entry) → n ≤ length log → firsts n (log ++ es) ≡ firsts n log
firsts_longer zero log es h = refl
firsts_longer (suc n) [] es h = absurd (omega arith)
firsts_longer (suc n) (x ∷ xs) es h = ap (λ ys. x ∷ ys) (firsts_longer n xs es (omega arith))

pub longer_firsts : (a b : ℕ) (log : List Entry) → longer (firsts a log) (firsts b log) ≡ cond (ltb a b) (firsts b log) (firsts a log)
longer_firsts a b log = λ t. cond (ltb (firsts_length a log t) (firsts_length b log t)) (firsts b log) (firsts a log)

-- a length whose calls are a prefix is at most the whole
pub within : (n : ℕ) (log : List Entry) → IsPrefix (firsts n log) log → n ≤ length log
within n log p = let a = firsts_length n log in let b = length-append (firsts n log) p.0 in let c = ap length p.1 in omega arith

at_front : {A : Type 0} (xs ys : List A) (n : ℕ) (d : A) → n < length xs → get_or (xs ++ ys) n d ≡ get_or xs n d
at_front [] ys n d h = absurd (omega arith)
at_front (x ∷ xs) ys zero d h = refl
at_front (x ∷ xs) ys (suc n) d h = at_front xs ys n d (omega arith)

pub at_end : {A : Type 0} (xs : List A) (a d : A) (n : ℕ) → n ≡ length xs → get_or (xs ++ a ∷ []) n d ≡ a
at_end [] a d zero e = refl
at_end [] a d (suc n) e = absurd (omega arith)
at_end (x ∷ xs) a d zero e = absurd (omega arith)
at_end (x ∷ xs) a d (suc n) e = at_end xs a d n (omega arith)

pub numbered_longer : (log es : List Entry) (ns : List ℕ) → InPlace log (numbered log ns) → numbered (log ++ es) ns ≡ numbered log ns
numbered_longer log es [] h = refl
numbered_longer log es (n ∷ ns) h = let low = inside log n (get_or log n entries.Clear) h.0 in
    λ t. (n, at_front log es n entries.Clear low t) ∷ numbered_longer log es ns h.1 t

-- what is so of a row's caller for it to stay the same
pub record Fits (log : List Entry) (r : Row) : Type 0 where
  pub seen : r.seen ≤ length log
  pub base : r.base ≤ length log
  pub mine : InPlace log (numbered log (reverse r.mine.items))

pub row_longer : (log es : List Entry) (r : Row) → Fits log r → caller_of (log ++ es) r ≡ caller_of log r
row_longer log es r h = λ t. record (caller_of log r) { seen = firsts_longer r.seen log es h.seen t; base = firsts_longer r.base log es h.base t; mine = numbered_longer log es (reverse r.mine.items) h.mine t }

pub map_alike : {A B : Type 0} (f g : A → B) (xs : List A) → ((j : ℕ) (x : A) → get_elem? xs j ≡ some x → f x ≡ g x) → map f xs ≡ map g xs
map_alike f g [] h = refl
map_alike f g (x ∷ xs) h = λ t. h 0 x refl t ∷ map_alike f g xs (λ j y e. h (suc j) y e) t

pub at_mapped : {A B : Type 0} (f : A → B) (xs : List A) (j : ℕ) (x : A) → get_elem? xs j ≡ some x → get_elem? (map f xs) j ≡ some (f x)
at_mapped f [] j x e = absurd (cc (e))
at_mapped f (y ∷ ys) zero x e = let h : y ≡ x = cc (e) in ap (λ z. some (f z)) h
at_mapped f (y ∷ ys) (suc j) x e = at_mapped f ys j x e

pub elem_at : {A : Type 0} (xs : List A) (i : ℕ) (a : A) → i < length xs → a ≡ get_or xs i a → get_elem? xs i ≡ some a
elem_at [] i a h e = absurd (omega arith)
elem_at (x ∷ xs) zero a h e = ap some (sym e)
elem_at (x ∷ xs) (suc i) a h e = elem_at xs i a (omega arith) e
