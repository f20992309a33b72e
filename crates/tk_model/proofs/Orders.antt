-- How the loops over keys go on.
use Rattle.std.proofs.Common.{◌≡◌, ℕ, ◌+◌, ◌-◌, ◌*◌, ◌^◌, ◌<◌, ◌≤◌, Bool, true, false, List, [], ◌∷◌, length, drop, get_or, min, ◌⊎◌, inl, inr, length-drop, refl, sym, ap, ◌∙◌, arith, if◌then◌else◌}
use Rattle.std.proofs.Math.ListN.{drop_of_length-le}
use Rattle.std.proofs.Math.Nat.{le-mul_of_pos_right, min-eq_right}
use Rattle.std.proofs.lemmas.Bool.{cases_lt}
use Rattle.std.proofs.lemmas.Bool.Decides.{nat_tests}
use Rattle.std.proofs.lemmas.List.{drop_more}
use Rattle.std.specs.Char.{digit_value, is_digit, to_ascii_lowercase}
use Rattle.std.specs.Ordering.{nat_cmp, ordering_then, is_ne}
use Rattle.std.specs.declared.cmp.Ordering.{Ordering}
use Rattle.std.specs.declared.cmp.Ordering.TheVariants.{Less, Equal, Greater}
use Rattle.tk_model.specs.Orders.{number_from, held, lowered, bytes_cmp}

-- how two keys compare, their capital letters as small ones
abbrev pub lowered_cmp : List ℕ → List ℕ → Ordering
lowered_cmp a b = bytes_cmp (lowered a) (lowered b)

first_so : (o rest : Ordering) → is_ne o ≡ true → ordering_then o rest ≡ o
first_so Less rest e = refl
first_so Equal rest e = absurd (cc)
first_so Greater rest e = refl

rest_so : (o rest : Ordering) → is_ne o ≡ false → ordering_then o rest ≡ rest
rest_so Less rest e = absurd (cc)
rest_so Equal rest e = refl
rest_so Greater rest e = absurd (cc)

pub lowered_step : (a b : List ℕ) (i : ℕ) → i < length a → i < length b
    → lowered_cmp (drop i a) (drop i b)
    ≡ ordering_then (nat_cmp (to_ascii_lowercase (get_or a i 0)) (to_ascii_lowercase (get_or b i 0))) (lowered_cmp (drop (i + 1) a) (drop (i + 1) b))
unfolding bytes_cmp lowered
lowered_step a b i in_a in_b = rw (drop_more a i 0 in_a, drop_more b i 0 in_b) refl

min_below : (n h : ℕ) → n < h → min n h ≡ n
min_below n h below = omega arith

-- the least of a product, its factor held before or not
min_step : (h base digit n : ℕ) → 1 ≤ base → min (min n h * base + digit) h ≡ min (n * base + digit) h
min_step h base digit n some =
    elim (cases_lt n h) [
      | inl below ↦ rw (min_below n h below) refl
      | inr above ↦
          let grown : n ≤ n * base = le-mul_of_pos_right n (omega arith) in
          let held_grown : h ≤ h * base = le-mul_of_pos_right h (omega arith) in
          rw (min-eq_right above) (omega arith)
    ]

held_twice : (n : ℕ) → held (held n) ≡ held n
unfolding held
held_twice n = omega arith

pub held_step : (base digit n : ℕ) → 1 ≤ base → held (held n * base + digit) ≡ held (n * base + digit)
unfolding held
held_step base digit n some = min_step (2 ^ 127 - 1) base digit n some

digits_from : (base n c : ℕ) (cs : List ℕ) (b : Bool)
    → held (number_from base (held (held n * base + digit_value c)) cs) ≡ held (number_from base (held n * base + digit_value c) cs)
    → held (number_from base (held (n * base + digit_value c)) cs) ≡ held (number_from base (n * base + digit_value c) cs)
    → 1 ≤ base
    → held (if b then number_from base (held n * base + digit_value c) cs else held n)
    ≡ held (if b then number_from base (n * base + digit_value c) cs else n)
digits_from base n c cs true with_held plain some =
    sym with_held ∙ ap (λ m. held (number_from base m cs)) (held_step base (digit_value c) n some) ∙ plain
digits_from base n c cs false with_held plain some = held_twice n

pub held_from : (base n : ℕ) (text : List ℕ) → 1 ≤ base → held (number_from base (held n) text) ≡ held (number_from base n text)
held_from base n [] some = held_twice n
held_from base n (c ∷ cs) some =
    digits_from base n c cs (is_digit c base) (held_from base (held n * base + digit_value c) cs some) (held_from base (n * base + digit_value c) cs some) some

pub held_small : (n : ℕ) → n < 2 ^ 127 → held n ≡ n
unfolding held
held_small n small = omega arith

told : (base : ℕ) (c : ℕ) → digit_value c < base → is_digit c base ≡ true
told base c is = grind (arith, nat_tests)

told_not : (base : ℕ) (c : ℕ) → (digit_value c < base → ⊥) → is_digit c base ≡ false
told_not base c is = grind (arith, nat_tests)

pub at_digit : (base n : ℕ) (text : List ℕ) (i : ℕ) → i < length text → digit_value (get_or text i 0) < base
    → number_from base n (drop i text) ≡ number_from base (n * base + digit_value (get_or text i 0)) (drop (i + 1) text)
at_digit base n text i within is = rw (drop_more text i 0 within) (rw (told base (get_or text i 0) is) refl)

pub at_other : (base n : ℕ) (text : List ℕ) (i : ℕ) → i < length text → (digit_value (get_or text i 0) < base → ⊥) → number_from base n (drop i text) ≡ n
at_other base n text i within is = rw (drop_more text i 0 within) (rw (told_not base (get_or text i 0) is) refl)

pub at_end : (base n : ℕ) (text : List ℕ) (i : ℕ) → length text ≤ i → number_from base n (drop i text) ≡ n
at_end base n text i past = rw (drop_of_length-le text past) refl

-- a number held at 2^128 - 1 twice, and then at 2^127 - 1
pub held_digit : (n base digit product sum number : ℕ) → product ≡ min (n * base) (2 ^ 128 - 1) → sum ≡ min (product + digit) (2 ^ 128 - 1)
    → number ≡ min sum (2 ^ 127 - 1) → number ≡ held (n * base + digit)
unfolding held
held_digit n base digit product sum number p s m = omega arith

pub digit_read : (base n number : ℕ) (text : List ℕ) (i : ℕ) → 2 ≤ base → i < length text → digit_value (get_or text i 0) < base
    → number ≡ held (n * base + digit_value (get_or text i 0))
    → held (number_from base number (drop (i + 1) text)) ≡ held (number_from base n (drop i text))
digit_read base n number text i some within is e =
    ap (λ m. held (number_from base m (drop (i + 1) text))) e
    ∙ held_from base (n * base + digit_value (get_or text i 0)) (drop (i + 1) text) (omega arith)
    ∙ ap held (sym (at_digit base n text i within is))

pub held_fits : (n number : ℕ) → number ≡ held n → number < 2 ^ 127
unfolding held
held_fits n number e = omega arith

-- two bytes that differ decide
pub decided : (a b : List ℕ) (i : ℕ) (found : Ordering) → i < length a → i < length b
    → found ≡ nat_cmp (to_ascii_lowercase (get_or a i 0)) (to_ascii_lowercase (get_or b i 0))
    → is_ne found ≡ true → found ≡ lowered_cmp (drop i a) (drop i b)
decided a b i found in_a in_b e ne =
    sym (first_so found (lowered_cmp (drop (i + 1) a) (drop (i + 1) b)) ne) ∙ ap (λ o. ordering_then o (lowered_cmp (drop (i + 1) a) (drop (i + 1) b))) e ∙ sym (lowered_step a b i in_a in_b)

-- two bytes that are the same leave it to the rest
pub undecided : (a b : List ℕ) (i : ℕ) (found : Ordering) → i < length a → i < length b
    → found ≡ nat_cmp (to_ascii_lowercase (get_or a i 0)) (to_ascii_lowercase (get_or b i 0))
    → is_ne found ≡ false → lowered_cmp (drop (i + 1) a) (drop (i + 1) b) ≡ lowered_cmp (drop i a) (drop i b)
undecided a b i found in_a in_b e same =
    sym (rest_so found (lowered_cmp (drop (i + 1) a) (drop (i + 1) b)) same) ∙ ap (λ o. ordering_then o (lowered_cmp (drop (i + 1) a) (drop (i + 1) b))) e ∙ sym (lowered_step a b i in_a in_b)

-- where one key has ended, the lengths decide
ends : (a b : List ℕ) → (a ≡ []) ⊎ (b ≡ []) → nat_cmp (length a) (length b) ≡ lowered_cmp a b
unfolding bytes_cmp lowered
ends [] [] e = refl
ends [] (y ∷ ys) e = grind (arith, nat_tests)
ends (x ∷ xs) [] e = grind (arith, nat_tests)
ends (x ∷ xs) (y ∷ ys) e = elim e [ inl h ↦ cc | inr h ↦ cc ]

shifted : (i m n : ℕ) → i ≤ m → i ≤ n → nat_cmp (m - i) (n - i) ≡ nat_cmp m n
shifted i m n in_m in_n = grind (arith, nat_tests)

pub lowered_end : (a b : List ℕ) (i : ℕ) (found : Ordering) → i ≡ min (length a) (length b) → found ≡ nat_cmp (length a) (length b)
    → found ≡ lowered_cmp (drop i a) (drop i b)
lowered_end a b i found e f =
    f
    ∙ sym (shifted i (length a) (length b) (omega arith) (omega arith))
    ∙ rw (length-drop i a, length-drop i b) refl
    ∙ ends (drop i a) (drop i b) (elim (cases_lt (length a) (length b)) [
      | inl less ↦ inl (drop_of_length-le a (omega arith))
      | inr more ↦ inr (drop_of_length-le b (omega arith))
    ])
