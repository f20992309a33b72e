use Rattle.tk_locks.specs.Rule.{ground_of}
use Rattle.tk_locks.proofs.table.LockTable.give_store.Given as goal

abbrev pub ghosts-give_store_as-J-Told : goal.ghosts-give_store_as-J-Told
ghosts-give_store_as-J-Told g a = record { ground = ground_of a.self.now.table.shared.key }

abbrev pub ghosts-give_store_as-K-Marked : goal.ghosts-give_store_as-K-Marked
ghosts-give_store_as-K-Marked g a = record { kept = a.home.broken; count = g.S.SeqStore.fault_count a.home.store }
