use Rattle.std.proofs.Common.{refl, sym, subst}
use Rattle.tk_disk.specs.Crash.{LeavesOnly}
use Rattle.tk_disk.proofs.Moments.{TornOf}
use Rattle.tk_hash.proofs.HashOpens.{closed_header, opened}
use Rattle.tk_hash.proofs.store.HashStore.of_log.Goals as goal

pub begin-requires : goal.begin-requires
begin-requires g c = record { there = closed_header g.D.Disk.image g.D.Disk.may_leave g.D.Disk.past c.args.log c.args.closing c.args.heads.items c.requires.whole.0 c.requires.whole.1 }

pub returns-in-Ok-clause-stands : goal.returns-in-Ok-clause-stands
returns-in-Ok-clause-stands g c groups is =
    opened g.D.Disk.image g.D.Disk.may_leave g.D.Disk.past _ c.args.log c.args.closing c.args.heads.items groups is
    (record {
      read_bytes = c.begin.ensures.reads;
      read_closing = c.in-Ok.ensures.same;
      open_bytes = c.in-Ok.ensures.marked;
      open_closing = c.in-Ok.ensures.open;
      durable = c.in-Ok.ensures.durable;
      settled = c.in-Ok.ensures.settled;
    })
    c.begin.ensures.head c.begin.ensures.end refl refl refl refl c.new.ensures c.requires.buffer refl

pub returns-in-Err-clause-back_time : goal.returns-in-Err-clause-back_time
returns-in-Err-clause-back_time g c =
    subst (λ (disk : g.row.D.Denot). LeavesOnly g.D.Disk.moment g.D.Disk.left_since c.args.log.disk disk (TornOf g.D.Disk.may_leave g.D.Disk.moment g.D.Disk.left_since c.args.log.disk 32 32)) (sym c.into_disk.ensures) c.begin.ensures.time
