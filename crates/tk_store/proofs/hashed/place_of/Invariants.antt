use Rattle.tk_model.proofs.PlaceSteps.{Unfound}
use Rattle.tk_store.proofs.hashed.place_of.Given as goal

abbrev pub invariant-loop-i : goal.invariant-loop-i
invariant-loop-i l = Unfound l.key l.pairs l.i
