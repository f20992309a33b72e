use Rattle.tk_model.proofs.PlainSteps.{InTurn}
use Rattle.tk_model.proofs.plain.after_proc.Given as goal

abbrev pub invariant-loop-touch : goal.invariant-loop-touch
invariant-loop-touch l = InTurn l.order l.touches l.pairs l.touch-index l.after
