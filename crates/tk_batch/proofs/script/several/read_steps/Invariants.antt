use Rattle.std.proofs.Common.{◌≡◌, length}
use Rattle.tk_batch.specs.Arguments.{multi_steps}
use Rattle.tk_batch.proofs.Pairs.{after}
use Rattle.tk_batch.proofs.script.several.read_steps.Given as goal

abbrev pub invariant-loop-rest : goal.invariant-loop-rest
invariant-loop-rest l = multi_steps l.args ≡ after l.steps (multi_steps l.rest)

abbrev pub decreases-loop-rest : goal.decreases-loop-rest
decreases-loop-rest l = length l.rest
