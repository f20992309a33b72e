use Rattle.tk_block.proofs.Grammar.{statics}
use Rattle.tk_block.proofs.head.read_static.Goals as goal

pub returns-then-bytes-lt-STATIC_SIZE-clause-exact : goal.returns-then-bytes-lt-STATIC_SIZE-clause-exact
returns-then-bytes-lt-STATIC_SIZE-clause-exact c = statics

pub returns-then-not-is_valid-clause-exact : goal.returns-then-not-is_valid-clause-exact
returns-then-not-is_valid-clause-exact c = statics

pub returns-then-eq-clause-exact : goal.returns-then-eq-clause-exact
returns-then-eq-clause-exact c = statics

pub returns-else-eq-clause-exact : goal.returns-else-eq-clause-exact
returns-else-eq-clause-exact c = statics
