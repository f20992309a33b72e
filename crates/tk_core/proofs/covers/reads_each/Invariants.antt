use Rattle.tk_core.specs.Covers.{ReadsEach}
use Rattle.tk_core.proofs.Needs.{SoFar}
use Rattle.tk_core.proofs.covers.reads_each.Given as goal

abbrev pub invariant-loop-touch : goal.invariant-loop-touch
invariant-loop-touch l = SoFar (ReadsEach l.frame l.held) l.touches l.touch-index
