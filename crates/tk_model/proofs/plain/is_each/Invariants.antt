use Rattle.std.proofs.Common.{◌≡◌, drop}
use Rattle.tk_model.proofs.PlainSteps.{all_fit_each}
use Rattle.tk_model.proofs.plain.is_each.Given as goal

abbrev pub invariant-loop-i : goal.invariant-loop-i
invariant-loop-i l = all_fit_each (drop l.i l.touches) (drop l.i l.pairs) ≡ all_fit_each l.touches l.pairs
