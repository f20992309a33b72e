use Rattle.std.proofs.Common.{◌≡◌}
use Rattle.tk_store.specs.Hashed.{joined}
use Rattle.tk_store.proofs.hashed.all_of.Given as goal

abbrev pub invariant-loop-bucket : goal.invariant-loop-bucket
invariant-loop-bucket l = l.all.items ≡ joined l.yielded
