-- Numbers that were written in decimal are read back.
use Rattle.std.proofs.Common.{◌≡◌, ℕ, suc, ◌<◌, ◌≤◌, ◌+◌, ◌-◌, ◌*◌, ◌^◌, Bool, true, false, nat_le, List, [], ◌∷◌, length, Option, Some, None, refl, ap, ◌∙◌, subst, arith}
use Rattle.std.specs.Prelude.{ℤ, pos, negsuc, neg_ℤ, option_map, decimal, if◌then◌else◌, ◌==◌}
use Rattle.std.specs.Char.{digit_value, is_digit}
use Rattle.std.specs.Fmt.{signed_decimal}
use Rattle.std.specs.Str.Parse.{digits_value_after, AllDigits}
use Rattle.std.proofs.lemmas.Fmt.{decimal_is_IsNumeral}
use Rattle.std.proofs.lemmas.Bool.{ne_eqb}
use Rattle.std.proofs.lemmas.Bool.Decides.{nat_tests}
use Rattle.tk_proc.specs.Increments.{is_in_64_bits}
use Rattle.tk_batch.specs.Numbers.{digits_in, number_in, at_most, signed_in}

digits_read : (n : ℕ) (cs : List ℕ) → AllDigits 10 cs → digits_in n cs ≡ Some (digits_value_after 10 n cs)
digits_read n [] h = refl
digits_read n (c ∷ cs) h = let e : is_digit c 10 ≡ true = (let low = h.0 in grind (arith, nat_tests)) in
    ap (λ (b : Bool). if b then digits_in (n * 10 + digit_value c) cs else None) e ∙ digits_read (n * 10 + digit_value c) cs h.1

number_read : (cs : List ℕ) (n : ℕ) → 0 < length cs → AllDigits 10 cs → digits_value_after 10 0 cs ≡ n → number_in cs ≡ Some n
number_read [] n some all e = absurd (omega arith)
number_read (c ∷ cs) n some all e = digits_read 0 (c ∷ cs) all ∙ ap (λ k. Some k) e

pub decimal_read : (n : ℕ) → n < 2 ^ 64 → number_in (decimal n) ≡ Some n
decimal_read n low = let h = decimal_is_IsNumeral n low in number_read (decimal n) n h.0.0 h.0.1 h.1

within : (most n : ℕ) → n ≤ most → at_most most (Some n) ≡ Some n
within most n low = let e : nat_le n most ≡ true = grind (arith, nat_tests) in ap (λ (b : Bool). if b then Some n else None) e

pub small_read : (most n : ℕ) → n ≤ most → n < 2 ^ 64 → at_most most (number_in (decimal n)) ≡ Some n
small_read most n low fits = ap (at_most most) (decimal_read n fits) ∙ within most n low

-- a digit is no minus sign
no_minus : (c : ℕ) → digit_value c < 10 → (c == 45) ≡ false
no_minus c low = ne_eqb c 45 (λ e. absurd (omega (arith, subst (λ (d : ℕ). digit_value d < 10) e low)))

signed_digits : (cs : List ℕ) (n : ℕ) → 0 < length cs → AllDigits 10 cs → number_in cs ≡ Some n → n ≤ 2 ^ 63 - 1 → signed_in cs ≡ Some (pos n)
signed_digits [] n some all e low = absurd (omega arith)
signed_digits (c ∷ cs) n some all e low =
    ap (λ (b : Bool). if b then option_map (λ n. neg_ℤ (pos n)) (at_most (2 ^ 63) (number_in cs)) else option_map pos (at_most (2 ^ 63 - 1) (number_in (c ∷ cs)))) (no_minus c all.0)
    ∙ ap (λ (o : Option ℕ). option_map pos (at_most (2 ^ 63 - 1) o)) e
    ∙ ap (option_map pos) (within (2 ^ 63 - 1) n low)

pub signed_read : (z : ℤ) → is_in_64_bits z ≡ true → signed_in (signed_decimal z) ≡ Some z
signed_read (pos n) h =
    let low : n < 2 ^ 63 = grind (arith, nat_tests) in
    let d = decimal_is_IsNumeral n (omega arith) in
    signed_digits (decimal n) n d.0.0 d.0.1 (decimal_read n (omega arith)) (omega arith)
signed_read (negsuc n) h =
    let low : n < 2 ^ 63 = grind (arith, nat_tests) in
    ap (option_map (λ n. neg_ℤ (pos n))) (small_read (2 ^ 63) (suc n) (omega arith) (omega arith))
