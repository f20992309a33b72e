use Rattle.std.proofs.Common.{rules, arith}
use Rattle.tk_locks.proofs.Keeps.{joins, learns}
use Rattle.tk_locks.proofs.table.LockTable.join_at.Goals as goal

pub join_seat-requires : goal.join_seat-requires
join_seat-requires g c = (search rules, search rules, search rules, search rules, joins _ _ _ _ _ (λ x a b le h w. (let z = h w in omega arith)) _ _ _ _ _ _ _ c.requires.idle.0 c.requires.idle.1)

pub load-requires : goal.load-requires
load-requires g c = (search rules, search rules, learns _ _ _ _ _ (λ x a b le h w. (let z = h w in omega arith)) _ _ _ _ _ _)
