-- Facts on counts, marks and lists.
use Rattle.std.proofs.Common.{◌≡◌, ◌≢◌, ℕ, zero, suc, ◌≤◌, cond, List, [], ◌∷◌, ◌++◌, length, map, take, get_or, Option, refl, sym, ap, subst, arith}
use mathlib.Core.List.{IsPrefix}
use mathlib.Core.Option.{some, some-injective, some-ne-none}
use lib.ListN.{get_elem?}
use Rattle.tk_core.proofs.Facts.{by_test}
use Rattle.tk_locks.specs.View.{noted, marked, Under, of_store}

pub noted_under : (floor : ℕ → ℕ) (i : ℕ) (cs : List (ℕ × ℕ)) → Under floor cs → noted i cs ≤ floor i
noted_under floor i [] u = omega arith
noted_under floor i (p ∷ ps) u = by_test i p.0 (λ b. cond b p.1 (noted i ps) ≤ floor i) (λ e. subst (λ (z : ℕ). p.1 ≤ floor z) (sym e) u.0) (λ _. noted_under floor i ps u.1)

pub under_more : (floor floor' : ℕ → ℕ) (cs : List (ℕ × ℕ)) → ((i : ℕ) → floor i ≤ floor' i) → Under floor cs → Under floor' cs
under_more floor floor' [] more u = tt
under_more floor floor' (p ∷ ps) more u = (let h = more p.0 in let k = u.0 in omega arith, under_more floor floor' ps more u.1)

pub noted_head : (i n : ℕ) (cs : List (ℕ × ℕ)) → noted i ((i, n) ∷ cs) ≡ n
noted_head i n cs = by_test i i (λ b. cond b n (noted i cs) ≡ n) (λ _. refl) (λ ne. absurd (ne refl))

pub noted_tail : (i q n : ℕ) (cs : List (ℕ × ℕ)) → q ≢ i → noted q ((i, n) ∷ cs) ≡ noted q cs
noted_tail i q n cs other = by_test q i (λ b. cond b n (noted q cs) ≡ noted q cs) (λ e. absurd (other e)) (λ _. refl)

pub under_append : (floor : ℕ → ℕ) (xs ys : List (ℕ × ℕ)) → Under floor xs → Under floor ys → Under floor (xs ++ ys)
under_append floor [] ys u w = w
under_append floor (x ∷ xs) ys u w = (u.0, under_append floor xs ys u.1 w)

pub map_snoc : {A B : Type 0} (f : A → B) (xs : List A) (a : A) → map f (xs ++ a ∷ []) ≡ map f xs ++ f a ∷ []
map_snoc f [] a = refl
map_snoc f (x ∷ xs) a = ap (λ ys. f x ∷ ys) (map_snoc f xs a)

pub under_store : (floor : ℕ → ℕ) (i n : ℕ) (cs : List (ℕ × ℕ)) → floor i ≤ n → Under floor cs → Under (λ _. n) (of_store i cs)
under_store floor i n [] less u = tt
under_store floor i n (p ∷ ps) less u = by_test i p.0 (λ b. Under (λ _. n) (cond b (p ∷ of_store i ps) (of_store i ps)))
    (λ e. (let h = u.0 in let q = ap floor e in omega arith, under_store floor i n ps less u.1)) (λ _. under_store floor i n ps less u.1)

pub take_next : {A : Type 0} (xs : List A) (i : ℕ) (a : A) → get_elem? xs i ≡ some a → take (suc i) xs ≡ take i xs ++ a ∷ []
take_next [] i a e = absurd (some-ne-none a (sym e))
take_next (x ∷ xs) zero a e = ap (λ y. y ∷ []) (some-injective x a e)
take_next (x ∷ xs) (suc i) a e = ap (λ ys. x ∷ ys) (take_next xs i a e)

pub take_short : {A : Type 0} (xs : List A) (i : ℕ) → length (take i xs) ≤ i
take_short [] zero = omega arith
take_short [] (suc i) = omega arith
take_short (x ∷ xs) zero = omega arith
take_short (x ∷ xs) (suc i) = let h = take_short xs i in omega arith

pub take_whole : {A : Type 0} (xs : List A) (i : ℕ) → length xs ≤ i → take i xs ≡ xs
take_whole [] zero h = refl
take_whole [] (suc i) h = refl
take_whole (x ∷ xs) zero h = absurd (omega arith)
take_whole (x ∷ xs) (suc i) h = ap (λ ys. x ∷ ys) (take_whole xs i (omega arith))

pub prefix_length : {A : Type 0} (xs ys : List A) → IsPrefix xs ys → length xs ≤ length ys
prefix_length [] ys p = omega arith
prefix_length (x ∷ xs) [] p = absurd (cc (p.1))
prefix_length (x ∷ xs) (y ∷ ys) p = let h = prefix_length xs ys (p.0, cc (p.1)) in omega arith

pub marked_head : (i : ℕ) (b : Option ℕ) (ms : List (ℕ × Option ℕ)) → marked i ((i, b) ∷ ms) ≡ b
marked_head i b ms = by_test i i (λ t. cond t b (marked i ms) ≡ b) (λ _. refl) (λ ne. absurd (ne refl))

pub marked_tail : (i q : ℕ) (b : Option ℕ) (ms : List (ℕ × Option ℕ)) → q ≢ i → marked q ((i, b) ∷ ms) ≡ marked q ms
marked_tail i q b ms other = by_test q i (λ t. cond t b (marked q ms) ≡ marked q ms) (λ e. absurd (other e)) (λ _. refl)

pub got : {A : Type 0} (xs : List A) (i : ℕ) (x d : A) → get_elem? xs i ≡ some x → get_or xs i d ≡ x
got [] i x d e = absurd (some-ne-none x (sym e))
got (y ∷ ys) zero x d e = some-injective y x e
got (y ∷ ys) (suc i) x d e = got ys i x d e

pub take_long : {A : Type 0} (xs : List A) (i : ℕ) → i ≤ length xs → length (take i xs) ≡ i
take_long xs zero h = refl
take_long [] (suc i) h = absurd (omega arith)
take_long (x ∷ xs) (suc i) h = ap suc (take_long xs i (omega arith))
