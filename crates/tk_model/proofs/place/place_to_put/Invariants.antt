use Rattle.tk_model.proofs.PlaceSteps.{Behind}
use Rattle.tk_model.proofs.place.place_to_put.Given as goal

abbrev pub invariant-loop-i : goal.invariant-loop-i
invariant-loop-i l = Behind l.order l.key l.pairs l.i
