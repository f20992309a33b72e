use Rattle.std.proofs.Common.{◌≡◌, take}
use Rattle.std.specs.Prelude.{map}
use Rattle.tk_model.specs.declared.record.Change.TheVariants.{Put}
use Rattle.tk_restore.proofs.changes.sets_of.Given as goal

abbrev pub invariant-loop-pair : goal.invariant-loop-pair
invariant-loop-pair l = l.changes ≡ map Put (take l.pair-index l.pairs)
