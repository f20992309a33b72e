use Rattle.tk_batch.specs.Written.{step_fields}
use Rattle.tk_batch.proofs.Tabs.{TabsSoFar}
use Rattle.tk_batch.proofs.script.write.put_steps.Given as goal

abbrev pub invariant-loop-step : goal.invariant-loop-step
invariant-loop-step l = TabsSoFar step_fields l.initial.out l.out l.steps l.step-index
