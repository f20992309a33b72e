use Rattle.tk_util.proofs.Printing.{failed_first, failed_last}
use Rattle.tk_util.proofs.end.print.Goals as goal

pub returns-in-Ok-clause-err : goal.returns-in-Ok-clause-err
returns-in-Ok-clause-err g c = failed_last _ _ _ _ _ _ c.in-Ok.ensures.ok c.write_all-in-Ok.ensures.fault c.write_all-in-Ok.ensures.memory

pub returns-in-Err-clause-err : goal.returns-in-Err-clause-err
returns-in-Err-clause-err g c = failed_first _ _ _ _ _ _ c.in-Err.is c.write_all.ensures.fault c.write_all.ensures.memory
