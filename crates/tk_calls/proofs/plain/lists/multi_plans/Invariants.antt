use Rattle.std.proofs.Common.{◌≡◌, ◌++◌, drop, map}
use Rattle.tk_calls.specs.Replies.{multi_plan}
use Rattle.tk_calls.proofs.plain.lists.multi_plans.Given as goal

abbrev pub invariant-loop-multi : goal.invariant-loop-multi
invariant-loop-multi l = l.plans ++ map multi_plan (drop l.multi-index l.steps) ≡ map multi_plan l.steps
