use Rattle.tk_flat.proofs.PastLimits.{WithinSoFar}
use Rattle.tk_flat.proofs.tsv.first_line_past_limits.Given as goal

abbrev pub invariant-loop-at : goal.invariant-loop-at
invariant-loop-at l = WithinSoFar l.pair-items l.at
