use Rattle.std.proofs.Common.{◌≡◌, ◌++◌}
use Rattle.tk_store.proofs.hashed.add_bucket.Given as goal

abbrev pub invariant-loop-record : goal.invariant-loop-record
invariant-loop-record l = l.all.items ≡ l.fn.all.items ++ l.yielded
