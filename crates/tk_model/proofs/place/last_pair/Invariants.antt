use Rattle.std.proofs.Common.{◌≡◌, take}
use Rattle.tk_model.specs.Records.{last_within}
use Rattle.tk_model.proofs.place.last_pair.Given as goal

abbrev pub invariant-loop-i : goal.invariant-loop-i
invariant-loop-i l = last_within l.order l.bound (take (l.i) l.pairs) ≡ last_within l.order l.bound l.pairs
