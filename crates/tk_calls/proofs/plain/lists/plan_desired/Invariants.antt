use Rattle.std.proofs.Common.{◌≡◌, ◌++◌, drop, map}
use Rattle.tk_calls.specs.Replies.{desired_plan}
use Rattle.tk_calls.proofs.plain.lists.plan_desired.Given as goal

abbrev pub invariant-loop-pair : goal.invariant-loop-pair
invariant-loop-pair l = l.plans ++ map (desired_plan l.met) (drop l.pair-index l.desired) ≡ l.initial.plans ++ map (desired_plan l.met) l.desired
