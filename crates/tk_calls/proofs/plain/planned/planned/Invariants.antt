use Rattle.std.proofs.Common.{◌≡◌, ◌++◌, drop}
use Rattle.tk_calls.specs.Planned.{planned}
use Rattle.tk_calls.proofs.plain.planned.planned.Given as goal

abbrev pub invariant-loop-plan : goal.invariant-loop-plan
invariant-loop-plan l = l.touches ++ planned l.order (drop l.plan-index l.plans) l.so_far ≡ planned l.order l.plans l.records
