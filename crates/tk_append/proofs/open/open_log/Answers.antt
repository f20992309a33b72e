use Rattle.std.proofs.Common.{sym, subst}
use Rattle.tk_disk.specs.Crash.{LeavesOnly}
use Rattle.tk_disk.proofs.Moments.{TornOf, torn_read}
use Rattle.tk_append.proofs.open.open_log.Goals as goal

pub returns-in-Ok-begin-clause-time : goal.returns-in-Ok-begin-clause-time
returns-in-Ok-begin-clause-time g c =
    torn_read g.D.Disk.may_leave g.D.Disk.moment g.D.Disk.left_since g.D.Disk.past g.D.Disk.left_with g.met.D.Disk.only_now _ _ _ 32 32 c.in-Ok.ensures.still c.begin.ensures.time

pub returns-clause-back_time : goal.returns-clause-back_time
returns-clause-back_time g c =
    subst (λ (disk : g.row.D.Denot). LeavesOnly g.D.Disk.moment g.D.Disk.left_since c.args.disk disk (TornOf g.D.Disk.may_leave g.D.Disk.moment g.D.Disk.left_since c.args.disk 32 32)) (sym c.into_disk.ensures)
    (torn_read g.D.Disk.may_leave g.D.Disk.moment g.D.Disk.left_since g.D.Disk.past g.D.Disk.left_with g.met.D.Disk.only_now _ _ _ 32 32 c.in-Ok.ensures.still c.begin.ensures.time)
