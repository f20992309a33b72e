use Rattle.tk_update.proofs.SpelledSteps.{writes_blocks}
use Rattle.tk_update.proofs.law.writes_make_blocks.Goals as goal

pub returns : goal.returns
returns c = record { writes = writes_blocks }
