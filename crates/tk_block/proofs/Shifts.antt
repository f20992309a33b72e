-- A power of two as a shift.
use Rattle.std.proofs.Common.{◌≡◌, ℕ, ◌*◌, ◌%◌, ◌^◌, ◌≤◌, arith}
use Rattle.std.proofs.lemmas.Nat.{one_shl}

pub shifted : (p : ℕ) → p ≤ 24 → (1 * 2 ^ p) % 2 ^ 64 ≡ 2 ^ p
shifted p small = one_shl p 64 (omega arith)
