use Rattle.std.proofs.Common.{rules, arith}
use Rattle.tk_locks.proofs.Keeps.{splits}
use Rattle.tk_locks.proofs.table.LockTable.split_at.Goals as goal

pub split_seat-requires : goal.split_seat-requires
split_seat-requires g c = (search rules, search rules, splits _ _ _ _ _ (λ x a b le h w. (let z = h w in omega arith)) _ _ _ _ _ c.requires.idle)
