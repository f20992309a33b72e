use Rattle.tk_locks.specs.Rule.{ground_of}
use Rattle.tk_locks.proofs.table.LockTable.take_stripe.Given as goal

abbrev pub ghosts-take_stripe_as : goal.ghosts-take_stripe_as
ghosts-take_stripe_as g a = record { ground = ground_of a.self.now.table.shared.key }
