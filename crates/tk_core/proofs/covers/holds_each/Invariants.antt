use Rattle.std.proofs.Common.{◌≡◌, ℕ, ◌<◌, ◌≤◌, true}
use Rattle.tk_core.specs.Lists.{has}
use Rattle.tk_core.proofs.covers.holds_each.Given as goal

abbrev pub invariant-loop-lock : goal.invariant-loop-lock
invariant-loop-lock l = (k : ℕ) → l.from ≤ k → k < l.lock → has k l.held ≡ true
