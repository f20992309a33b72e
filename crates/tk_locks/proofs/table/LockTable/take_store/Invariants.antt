use Rattle.tk_locks.specs.Rule.{ground_of}
use Rattle.tk_locks.proofs.table.LockTable.take_store.Given as goal

abbrev pub ghosts-take_store_as : goal.ghosts-take_store_as
ghosts-take_store_as g a = record { ground = ground_of a.self.now.table.shared.key }
