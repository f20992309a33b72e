use Rattle.std.proofs.Common.{rules}
use Rattle.tk_locks.proofs.Keeps.{gives_stripe_at}
use Rattle.tk_locks.proofs.table.LockTable.give_stripe_as.Goals as goal

pub swap-requires : goal.swap-requires
swap-requires g c = (search rules, search rules, gives_stripe_at _ _ _ _ _ _ _ _ c.requires.ground _ _ _ _ c.requires.may)
