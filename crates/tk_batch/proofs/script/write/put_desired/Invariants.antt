use Rattle.tk_batch.specs.Written.{desired_fields}
use Rattle.tk_batch.proofs.Tabs.{TabsSoFar}
use Rattle.tk_batch.proofs.script.write.put_desired.Given as goal

abbrev pub invariant-loop-pair : goal.invariant-loop-pair
invariant-loop-pair l = TabsSoFar desired_fields l.initial.out l.out l.desired l.pair-index
