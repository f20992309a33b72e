use Rattle.std.proofs.Common.{◌≡◌, drop}
use Rattle.tk_model.proofs.Orders.{lowered_cmp}
use Rattle.tk_model.proofs.order.compare_lowered.Given as goal

abbrev pub invariant-loop-i : goal.invariant-loop-i
invariant-loop-i l = lowered_cmp (drop l.i l.a) (drop l.i l.b) ≡ lowered_cmp l.a l.b
