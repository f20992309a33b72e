use Rattle.std.proofs.Common.{rules}
use Rattle.tk_locks.proofs.Keeps.{takes_stripe_at}
use Rattle.tk_locks.proofs.table.LockTable.try_take_stripe_as.Goals as goal

pub compare_exchange-requires : goal.compare_exchange-requires
compare_exchange-requires g c = (search rules, search rules, takes_stripe_at _ _ _ _ _ _ _ _ c.requires.ground _ _ _ _ c.requires.lock.0 c.requires.lock.1)
