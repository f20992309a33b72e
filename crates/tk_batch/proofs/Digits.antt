-- Numbers that go on growing.
use Rattle.std.proofs.Common.{◌≡◌, ℕ, suc, ◌+◌, ◌-◌, ◌*◌, ◌<◌, ◌≤◌, Bool, true, false, List, [], ◌∷◌, refl, ap, sym, ◌∙◌, arith, drop, get_or, length}
use Rattle.std.specs.Prelude.{Some, None, nat_le, nat_lt, if◌then◌else◌}
use Rattle.std.specs.Char.{digit_value, is_digit}
use Rattle.std.proofs.lemmas.Bool.Decides.{nat_tests}
use Rattle.std.proofs.Common.{drop-cons}
use Rattle.tk_batch.specs.Numbers.{digits_in, number_in, at_most}

pub too_great : (most n : ℕ) (cs : List ℕ) → most < n → at_most most (digits_in n cs) ≡ None
too_great most n [] h = let e : nat_le n most ≡ false = grind (arith, nat_tests) in ap (λ (b : Bool). if b then Some n else None) e
too_great most n (c ∷ cs) h = by_case (is_digit c 10) (too_great most (n * 10 + digit_value c) cs (omega arith))
  where
    by_case : (b : Bool) → at_most most (digits_in (n * 10 + digit_value c) cs) ≡ None → at_most most (if b then digits_in (n * 10 + digit_value c) cs else None) ≡ None
    by_case true e = e
    by_case false e = refl

digit_is : (c : ℕ) → 48 ≤ c → c ≤ 57 → digit_value c ≡ c - 48
digit_is c low high =
    let a : nat_lt c 48 ≡ false = grind (arith, nat_tests) in
    let b : nat_lt c 58 ≡ true = grind (arith, nat_tests) in
    rw (a, b) refl

is_digit_of : (c : ℕ) → 48 ≤ c → c ≤ 57 → is_digit c 10 ≡ true
is_digit_of c low high = let e : digit_value c ≡ c - 48 = digit_is c low high in let l : c - 48 < 10 = omega arith in rw e (grind (arith, nat_tests))

-- a digit more would pass the greatest number
pub stops : (most n byte i : ℕ) (text : List ℕ) → number_in text ≡ digits_in n (drop i text) → byte ≡ get_or text i 0 → i < length text → 48 ≤ byte → byte ≤ 57 → most < n * 10 + (byte - 48) → None ≡ at_most most (number_in text)
stops most n byte i text reads at inside low high great =
    let parts : drop i text ≡ byte ∷ drop (suc i) text = drop-cons text i 0 inside ∙ ap (λ (b : ℕ). b ∷ drop (suc i) text) (sym at) in
    let test : is_digit byte 10 ≡ true = is_digit_of byte low high in
    let value : digit_value byte ≡ byte - 48 = digit_is byte low high in
    let step : number_in text ≡ digits_in (n * 10 + digit_value byte) (drop (suc i) text) =
    reads ∙ (ap (digits_in n) parts ∙ ap (λ (b : Bool). if b then digits_in (n * 10 + digit_value byte) (drop (suc i) text) else None) test) in
    sym (ap (at_most most) step ∙ too_great most (n * 10 + digit_value byte) (drop (suc i) text) (omega arith))
