use Rattle.std.proofs.Common.{◌+◌}
use Rattle.tk_append.proofs.HeadSteps.{PieceGoes}
use Rattle.tk_append.proofs.heads.head_fault_in.Given as goal

abbrev pub invariant-loop-i : goal.invariant-loop-i
invariant-loop-i l = PieceGoes l.heads l.bytes l.first (l.first + l.i)
