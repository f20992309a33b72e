use Rattle.std.proofs.Common.{◌≡◌, ◌++◌, drop}
use Rattle.tk_calls.specs.Planned.{keys_planned}
use Rattle.tk_calls.proofs.plain.lists.keys_planned.Given as goal

abbrev pub invariant-loop-plan : goal.invariant-loop-plan
invariant-loop-plan l = l.keys ++ keys_planned (drop l.plan-index l.plans) ≡ keys_planned l.plans
