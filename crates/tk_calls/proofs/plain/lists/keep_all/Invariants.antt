use Rattle.std.proofs.Common.{◌≡◌, ◌++◌, drop, map}
use Rattle.tk_calls.specs.Replies.{keep}
use Rattle.tk_calls.proofs.plain.lists.keep_all.Given as goal

abbrev pub invariant-loop-key : goal.invariant-loop-key
invariant-loop-key l = l.plans ++ map keep (drop l.key-index l.keys) ≡ map keep l.keys
