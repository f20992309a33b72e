use Rattle.tk_io.proofs.Known.{Appends_Keeps, Appends_front}
use Rattle.tk_io.proofs.standard.hand_over.Goals as goal

pub returns-then-is_err-clause-err : goal.returns-then-is_err-clause-err
returns-then-is_err-clause-err g c = Appends_front _ _ _ (Appends_Keeps _ _ _ _ c.in_ok-drain.ensures.ok c.flush.ensures.bytes)
