use Rattle.std.proofs.Common.{◌≡◌, [], take}
use Rattle.tk_model.specs.declared.record.Order.TheVariants.{Hash}
use Rattle.tk_model.specs.Records.{after}
use Rattle.tk_restore.specs.Changes.{changes_in}
use Rattle.tk_restore.proofs.changes.pairs_of.Given as goal

abbrev pub invariant-loop-entry : goal.invariant-loop-entry
invariant-loop-entry l = l.pairs ≡ after Hash (changes_in l.bytes (take l.entry-index l.entries)) []
