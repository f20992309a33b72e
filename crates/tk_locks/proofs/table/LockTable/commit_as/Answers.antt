use Rattle.std.proofs.Common.{rules}
use Rattle.tk_locks.proofs.Keeps.{commits_at}
use Rattle.tk_locks.proofs.table.LockTable.commit_as.Goals as goal

pub fetch_add-requires : goal.fetch_add-requires
fetch_add-requires g c = (search rules, search rules, commits_at _ _ _ _ _ _ _ _ c.requires.ground _ _ _ _ c.requires.may)
