use Rattle.tk_batch.proofs.Prints.{Printed}
use Rattle.tk_batch.proofs.output.print.print_outs.Given as goal

abbrev pub invariant-loop-i : goal.invariant-loop-i
invariant-loop-i l = Printed l.script l.answers l.fn.out l.out l.i l.next.items
