use Rattle.tk_locks.specs.Rule.{ground_of}
use Rattle.tk_locks.proofs.table.LockTable.give_stripe.Given as goal

abbrev pub ghosts-give_stripe_as : goal.ghosts-give_stripe_as
ghosts-give_stripe_as g a = record { ground = ground_of a.self.now.table.shared.key }
