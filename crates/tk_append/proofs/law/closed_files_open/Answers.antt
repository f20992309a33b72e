use Rattle.tk_append.proofs.ClosedFiles.{opens_only_closed}
use Rattle.tk_append.proofs.Reopened.{opens_closed}
use Rattle.tk_append.proofs.law.closed_files_open.Goals as goal

pub returns-clause-closed : goal.returns-clause-closed
returns-clause-closed c = opens_closed

pub returns-clause-only : goal.returns-clause-only
returns-clause-only c = opens_only_closed
