use Rattle.tk_batch.proofs.Back.{read_back}
use Rattle.tk_batch.proofs.law.lines_are_read_back.Goals as goal

pub returns : goal.returns
returns c = read_back
