use Rattle.std.proofs.Common.{drop}
use Rattle.tk_model.specs.declared.record.Order.TheVariants.{Hash}
use Rattle.tk_model.specs.Records.{AllBehind}
use Rattle.tk_restore.proofs.rising.place_from_end.Given as goal

abbrev pub invariant-loop-i : goal.invariant-loop-i
invariant-loop-i l = AllBehind Hash l.key (drop l.i l.pairs)
