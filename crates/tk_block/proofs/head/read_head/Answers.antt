use Rattle.tk_block.proofs.Grammar.{heads}
use Rattle.tk_block.proofs.head.read_head.Goals as goal

pub returns-then-bytes-lt-HEAD_SIZE-clause-exact : goal.returns-then-bytes-lt-HEAD_SIZE-clause-exact
returns-then-bytes-lt-HEAD_SIZE-clause-exact c = heads c.args.place

pub returns-then-not-is_extent-clause-exact : goal.returns-then-not-is_extent-clause-exact
returns-then-not-is_extent-clause-exact c = heads c.args.place

pub returns-then-eq-clause-exact : goal.returns-then-eq-clause-exact
returns-then-eq-clause-exact c = heads c.args.place

pub returns-else-eq-clause-exact : goal.returns-else-eq-clause-exact
returns-else-eq-clause-exact c = heads c.args.place
