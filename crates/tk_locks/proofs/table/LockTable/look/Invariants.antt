use Rattle.tk_locks.specs.Rule.{ground_of}
use Rattle.tk_locks.proofs.table.LockTable.look.Given as goal

abbrev pub ghosts-look_as : goal.ghosts-look_as
ghosts-look_as g a = record { ground = ground_of a.self.now.table.shared.key }
