-- The top bits of a number of 64 bits.
use Rattle.std.proofs.Common.{◌≡◌, ℕ, ◌+◌, ◌-◌, ◌/◌, ◌^◌, ◌<◌, ◌≤◌, sym, subst, arith}
use Rattle.std.proofs.lemmas.Nat.{shr_below}

pub front_bits : (x p : ℕ) → p ≤ 64 → x < 2 ^ 64 → x / 2 ^ (64 - p) < 2 ^ p
front_bits x p small fits =
    let whole : p + (64 - p) ≡ 64 = omega arith in
    shr_below x p (64 - p) (subst (λ (k : ℕ). x < 2 ^ k) (sym whole) fits)

pub top_bits : (x p : ℕ) → p ≤ 24 → x < 2 ^ 64 → x / 2 ^ (64 - p) < 2 ^ p
top_bits x p small fits = front_bits x p (omega (arith, small)) fits
