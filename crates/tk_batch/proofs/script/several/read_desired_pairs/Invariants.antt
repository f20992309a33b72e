use Rattle.std.proofs.Common.{◌≡◌, length}
use Rattle.tk_batch.specs.Arguments.{desired_pairs}
use Rattle.tk_batch.proofs.Pairs.{after}
use Rattle.tk_batch.proofs.script.several.read_desired_pairs.Given as goal

abbrev pub invariant-loop-rest : goal.invariant-loop-rest
invariant-loop-rest l = desired_pairs l.args ≡ after l.pairs (desired_pairs l.rest)

abbrev pub decreases-loop-rest : goal.decreases-loop-rest
decreases-loop-rest l = length l.rest
