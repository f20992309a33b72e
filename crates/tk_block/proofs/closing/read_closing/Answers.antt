use Rattle.tk_block.proofs.Grammar.{closings}
use Rattle.tk_block.proofs.closing.read_closing.Goals as goal

pub returns-then-bytes-lt-CLOSING_SIZE-clause-exact : goal.returns-then-bytes-lt-CLOSING_SIZE-clause-exact
returns-then-bytes-lt-CLOSING_SIZE-clause-exact c = closings

pub returns-then-eq-clause-exact : goal.returns-then-eq-clause-exact
returns-then-eq-clause-exact c = closings

pub returns-else-eq-clause-exact : goal.returns-else-eq-clause-exact
returns-else-eq-clause-exact c = closings
