use Rattle.tk_block.proofs.BodyGrammar.{bodies}
use Rattle.tk_block.proofs.block.body_at.Goals as goal

pub returns-in_err-check_at-clause-exact : goal.returns-in_err-check_at-clause-exact
returns-in_err-check_at-clause-exact c = bodies c.args.place

pub returns-then-is_spelled-clause-exact : goal.returns-then-is_spelled-clause-exact
returns-then-is_spelled-clause-exact c = bodies c.args.place

pub returns-else-is_body-clause-exact : goal.returns-else-is_body-clause-exact
returns-else-is_body-clause-exact c = bodies c.args.place
