use Rattle.std.proofs.Common.{◌≡◌, drop}
use Rattle.tk_model.specs.declared.record.Order.TheVariants.{Hash}
use Rattle.tk_model.specs.Records.{first_within}
use Rattle.tk_store.proofs.hashed.first_in.Given as goal

abbrev pub invariant-loop-i : goal.invariant-loop-i
invariant-loop-i l = first_within Hash l.bound (drop l.i l.pairs) ≡ first_within Hash l.bound l.pairs
