-- A call that may touch any key.
use Rattle.std.specs.Prelude.{◌≡◌, ℕ, zero, suc, List, [], ◌∷◌}
use Rattle.tk_locks.specs.View.{View}

-- all numbers below n, the greatest first
abbrev pub falling_from : ℕ → List ℕ
falling_from zero = []
falling_from (suc n) = n ∷ falling_from n

-- only locks of stripes were taken or given, and what they cover was learned
pub record LocksOnly (v w : View) : Type 0 where
  pub seen : w.caller.seen ≡ v.caller.seen
  pub mine : w.caller.mine ≡ v.caller.mine
  pub allowance : w.caller.allowance ≡ v.caller.allowance
  pub broke : w.caller.broke ≡ v.caller.broke
  pub met : w.caller.met ≡ v.caller.met
  pub counts : w.counts ≡ v.counts
  pub marks : w.marks ≡ v.marks
