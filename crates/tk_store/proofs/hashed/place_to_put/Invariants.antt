use Rattle.tk_model.proofs.PlaceSteps.{Behind}
use Rattle.tk_model.specs.declared.record.Order.TheVariants.{Hash}
use Rattle.tk_store.proofs.hashed.place_to_put.Given as goal

abbrev pub invariant-loop-i : goal.invariant-loop-i
invariant-loop-i l = Behind Hash l.key l.pairs l.i
