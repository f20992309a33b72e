use Rattle.std.proofs.Common.{rules}
use Rattle.tk_locks.proofs.Keeps.{looks_at}
use Rattle.tk_locks.proofs.table.LockTable.look_as.Goals as goal

pub load-requires : goal.load-requires
load-requires g c = (search rules, search rules, looks_at _ _ _ _ _ _ _ _ c.requires.ground _ _ _ c.requires.live)
