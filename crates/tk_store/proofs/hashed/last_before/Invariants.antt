use Rattle.std.proofs.Common.{◌≡◌, take}
use Rattle.tk_model.specs.Records.{last_within}
use Rattle.tk_model.specs.declared.record.Order.TheVariants.{Hash}
use Rattle.tk_store.specs.Hashed.{joined}
use Rattle.tk_store.proofs.hashed.last_before.Given as goal

abbrev pub invariant-loop-i : goal.invariant-loop-i
invariant-loop-i l = last_within Hash l.bound (joined (take l.i l.buckets)) ≡ last_within Hash l.bound (joined (take l.end l.buckets))
