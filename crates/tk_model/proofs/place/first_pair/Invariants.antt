use Rattle.std.proofs.Common.{◌≡◌, drop}
use Rattle.tk_model.specs.Records.{first_within}
use Rattle.tk_model.proofs.place.first_pair.Given as goal

abbrev pub invariant-loop-i : goal.invariant-loop-i
invariant-loop-i l = first_within l.order l.bound (drop l.i l.pairs) ≡ first_within l.order l.bound l.pairs
