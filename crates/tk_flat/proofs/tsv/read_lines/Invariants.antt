use Rattle.std.proofs.Common.{length}
use Rattle.tk_flat.proofs.TsvJudged.{LinesSoFar}
use Rattle.tk_flat.proofs.tsv.read_lines.Given as goal

abbrev pub invariant-loop-rest : goal.invariant-loop-rest
invariant-loop-rest l = LinesSoFar l.bytes l.rest l.pairs

abbrev pub decreases-loop-rest : goal.decreases-loop-rest
decreases-loop-rest l = length l.rest
