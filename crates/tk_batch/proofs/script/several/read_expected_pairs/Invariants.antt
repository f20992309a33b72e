use Rattle.std.proofs.Common.{◌≡◌, length}
use Rattle.tk_batch.specs.Arguments.{expected_pairs}
use Rattle.tk_batch.proofs.Pairs.{after}
use Rattle.tk_batch.proofs.script.several.read_expected_pairs.Given as goal

abbrev pub invariant-loop-rest : goal.invariant-loop-rest
invariant-loop-rest l = expected_pairs l.args ≡ after l.pairs (expected_pairs l.rest)

abbrev pub decreases-loop-rest : goal.decreases-loop-rest
decreases-loop-rest l = length l.rest
