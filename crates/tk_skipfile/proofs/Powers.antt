-- Powers of four, as shifts.
use Rattle.std.proofs.Common.{◌≡◌, ℕ, zero, suc, ◌*◌, ◌%◌, ◌^◌, ◌<◌, ◌≤◌, refl, sym, ap, ◌∙◌, arith}
use Rattle.std.proofs.lemmas.Nat.{one_shl, pow-add}
use Rattle.std.proofs.Math.Nat.{pow-suc, pow-le-pow_right}

pub four_twice : (n : ℕ) → 4 ^ n ≡ 2 ^ (2 * n)
four_twice zero = refl
four_twice (suc n) =
    pow-suc 4 n ∙ ap (λ (k : ℕ). k * 4) (four_twice n) ∙ sym (pow-add 2 (2 * n) 2) ∙ ap (λ (k : ℕ). 2 ^ k) (omega arith)

pub four_shifted : (n : ℕ) → n < 32 → (1 * 2 ^ (2 * n)) % 2 ^ 64 ≡ 4 ^ n
four_shifted n small = one_shl (2 * n) 64 (omega arith) ∙ sym (four_twice n)

pub four_some : (n : ℕ) → 0 < 4 ^ n
four_some zero = omega arith
four_some (suc n) = let more = four_some n in omega (arith, pow-suc 4 n)

pub four_rises : (i j : ℕ) → i ≤ j → 4 ^ i ≤ 4 ^ j
four_rises i j le = pow-le-pow_right {n = 4} (omega arith) le

pub four_small : (n : ℕ) → n < 32 → 4 ^ n ≤ 2 ^ 62
four_small n small = four_rises n 31 (omega arith)
