use Rattle.tk_batch.proofs.Tabs.{TabsSoFar, themselves}
use Rattle.tk_batch.proofs.script.write.put_fields.Given as goal

abbrev pub invariant-loop-field : goal.invariant-loop-field
invariant-loop-field l = TabsSoFar themselves l.initial.out l.out l.fields l.field-index
