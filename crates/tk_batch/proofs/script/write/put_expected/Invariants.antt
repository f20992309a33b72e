use Rattle.tk_batch.specs.Written.{expected_fields}
use Rattle.tk_batch.proofs.Tabs.{TabsSoFar}
use Rattle.tk_batch.proofs.script.write.put_expected.Given as goal

abbrev pub invariant-loop-pair : goal.invariant-loop-pair
invariant-loop-pair l = TabsSoFar expected_fields l.initial.out l.out l.expected l.pair-index
