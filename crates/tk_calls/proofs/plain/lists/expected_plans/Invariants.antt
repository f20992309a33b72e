use Rattle.std.proofs.Common.{◌≡◌, ◌++◌, drop, map}
use Rattle.tk_calls.specs.Replies.{expected_plan}
use Rattle.tk_calls.proofs.plain.lists.expected_plans.Given as goal

abbrev pub invariant-loop-pair : goal.invariant-loop-pair
invariant-loop-pair l = l.plans ++ map expected_plan (drop l.pair-index l.expected) ≡ map expected_plan l.expected
