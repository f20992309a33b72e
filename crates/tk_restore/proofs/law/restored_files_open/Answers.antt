use Rattle.tk_restore.proofs.Whole.{restored_open}
use Rattle.tk_restore.proofs.law.restored_files_open.Goals as goal

pub returns : goal.returns
returns c = restored_open
