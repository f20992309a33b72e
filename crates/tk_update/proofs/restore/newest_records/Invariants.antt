use Rattle.std.proofs.Common.{◌≡◌, drop}
use Rattle.tk_model.specs.declared.record.Order.TheVariants.{Hash}
use Rattle.tk_update.specs.Restored.{newest_records}
use Rattle.tk_update.proofs.restore.newest_records.Given as goal

abbrev pub invariant-loop-i : goal.invariant-loop-i
invariant-loop-i l = l.pairs ≡ newest_records Hash l.blocks (drop l.i l.blocks)
