use Rattle.std.proofs.Common.{◌≡◌, ◌++◌, length}
use Rattle.tk_store.specs.Hashed.{joined}
use Rattle.tk_store.specs.PairsLeft.{pairs_left}
use Rattle.tk_store.proofs.hashed.PairsLeft.split_first.Given as goal

abbrev pub invariant-loop-first : goal.invariant-loop-first
invariant-loop-first l = pairs_left l.fn.self ≡ l.bucket ++ joined l.behind

abbrev pub decreases-loop-first : goal.decreases-loop-first
decreases-loop-first l = length l.behind
