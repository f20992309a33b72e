use Rattle.std.proofs.Common.{length}
use Rattle.tk_flat.proofs.Escaped.{Written}
use Rattle.tk_flat.proofs.field.escape.Given as goal

abbrev pub invariant-loop-run : goal.invariant-loop-run
invariant-loop-run l = Written l.initial.out l.out l.bytes l.rest

abbrev pub decreases-loop-run : goal.decreases-loop-run
decreases-loop-run l = length l.rest
