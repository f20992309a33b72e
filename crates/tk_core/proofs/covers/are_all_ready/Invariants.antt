use Rattle.std.proofs.Common.{ℕ, ◌<◌}
use Rattle.tk_core.specs.Commits.{hand, Ready}
use Rattle.tk_core.proofs.covers.are_all_ready.Given as goal

abbrev pub invariant-loop-store : goal.invariant-loop-store
invariant-loop-store l = (i : ℕ) → i < l.store → Ready (hand l.row) i
