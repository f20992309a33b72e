use Rattle.std.proofs.Common.{◌≡◌, List, sym, ap, subst}
use Rattle.tk_locks.specs.declared.home.Home.{Home}
use Rattle.tk_locks.specs.View.{View}
use Rattle.tk_locks.specs.Calls.{view, its}
use Rattle.tk_locks.specs.Tells.{Finds}
use Rattle.tk_locks.proofs.table.LockTable.dissolve.Goals as goal

pub returns-clause-end : goal.returns-clause-end
returns-clause-end g c =
    let same : c.open-seat.result.me.0 ≡ view c.args.pass = ap (λ m. m.0) c.open-seat.ensures.1 in
    subst (λ (z : View × List (Home g.row.S.Denot)). Finds g.S.SeqStore.lawful g.S.SeqStore.stands g.S.SeqStore.store_view g.S.SeqStore.constants g.S.SeqStore.fault_count (its c.args.self) z.0 c.dissolve_as-homes.result.1 z.1)
    (λ t. (same t, sym c.from_vec.ensures t)) c.dissolve_as-homes.ensures.end
