use Rattle.std.proofs.Common.{◌≡◌, ◌++◌, length}
use Rattle.tk_store.specs.PairsLeft.{pairs_left}
use Rattle.tk_store.proofs.hashed.copy_all.Given as goal

abbrev pub invariant-loop-pair : goal.invariant-loop-pair
invariant-loop-pair l = pairs_left l.fn.left ≡ l.records ++ pairs_left l.rest

abbrev pub decreases-loop-pair : goal.decreases-loop-pair
decreases-loop-pair l = length (pairs_left l.rest)
