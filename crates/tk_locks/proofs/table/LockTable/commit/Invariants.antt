use Rattle.tk_locks.specs.Rule.{ground_of}
use Rattle.tk_locks.proofs.table.LockTable.commit.Given as goal

abbrev pub ghosts-commit_as-J-Told : goal.ghosts-commit_as-J-Told
ghosts-commit_as-J-Told g a = record { ground = ground_of a.self.now.table.shared.key }

abbrev pub ghosts-commit_as-K-Said : goal.ghosts-commit_as-K-Said
ghosts-commit_as-K-Said g a = record { entry = g.C.Call.entry a.call.now }
