use Rattle.std.proofs.Common.{◌≡◌, take}
use Rattle.tk_model.specs.declared.record.Order.TheVariants.{Hash}
use Rattle.tk_model.specs.Records.{last_within}
use Rattle.tk_store.proofs.hashed.last_in.Given as goal

abbrev pub invariant-loop-i : goal.invariant-loop-i
invariant-loop-i l = last_within Hash l.bound (take (l.i) l.pairs) ≡ last_within Hash l.bound l.pairs
