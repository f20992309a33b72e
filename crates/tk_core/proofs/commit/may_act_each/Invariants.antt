use Rattle.tk_core.specs.Commits.{hand, MayActEach}
use Rattle.tk_core.proofs.Needs.{SoFar}
use Rattle.tk_core.proofs.commit.may_act_each.Given as goal

abbrev pub invariant-loop-touch : goal.invariant-loop-touch
invariant-loop-touch l = SoFar (MayActEach l.frame (hand l.row) l.before l.after) l.touches l.touch-index
