use Rattle.tk_model.proofs.PlainSteps.{other_length}
use Rattle.tk_model.proofs.plain.is_each.Goals as goal

pub returns-then-touches-pairs : goal.returns-then-touches-pairs
returns-then-touches-pairs c = other_length c.args.touches.now c.args.pairs.now c.if-touches-pairs.true
