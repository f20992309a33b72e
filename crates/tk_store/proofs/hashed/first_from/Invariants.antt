use Rattle.std.proofs.Common.{◌≡◌, drop}
use Rattle.tk_model.specs.Records.{first_within}
use Rattle.tk_model.specs.declared.record.Order.TheVariants.{Hash}
use Rattle.tk_store.specs.Hashed.{joined}
use Rattle.tk_store.proofs.hashed.first_from.Given as goal

abbrev pub invariant-loop-i : goal.invariant-loop-i
invariant-loop-i l = first_within Hash l.bound (joined (drop l.i l.buckets)) ≡ first_within Hash l.bound (joined (drop l.start l.buckets))
