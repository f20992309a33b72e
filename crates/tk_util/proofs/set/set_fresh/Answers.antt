use Rattle.tk_util.proofs.Making.{set_read, set_written}
use Rattle.tk_util.proofs.set.set_fresh.Goals as goal

pub returns-in_err-len-clause-makes : goal.returns-in_err-len-clause-makes
returns-in_err-len-clause-makes g c = set_read g.D.Disk.may_leave g.D.Disk.past g.D.Disk.moment g.D.Disk.left_with g.met.D.Disk.only_with c.args.key.now c.args.value.now (g.D.Disk.image c.args.disk.now) c.args.disk.now c.len.new.self c.len.ensures.past c.len.ensures.pasts

pub returns-then-branch-gt0-clause-makes : goal.returns-then-branch-gt0-clause-makes
returns-then-branch-gt0-clause-makes g c = set_read g.D.Disk.may_leave g.D.Disk.past g.D.Disk.moment g.D.Disk.left_with g.met.D.Disk.only_with c.args.key.now c.args.value.now (g.D.Disk.image c.args.disk.now) c.args.disk.now c.len.new.self c.len.ensures.past c.len.ensures.pasts

pub returns-in_err-pairs-clause-makes : goal.returns-in_err-pairs-clause-makes
returns-in_err-pairs-clause-makes g c = set_read g.D.Disk.may_leave g.D.Disk.past g.D.Disk.moment g.D.Disk.left_with g.met.D.Disk.only_with c.args.key.now c.args.value.now (g.D.Disk.image c.args.disk.now) c.args.disk.now c.len.new.self c.len.ensures.past c.len.ensures.pasts

pub returns-in_err-write_or_empty-clause-makes : goal.returns-in_err-write_or_empty-clause-makes
returns-in_err-write_or_empty-clause-makes g c =
    set_written g.D.Disk.may_leave g.D.Disk.past g.D.Disk.moment g.D.Disk.left_with g.met.D.Disk.only_with c.args.key.now c.args.value.now c.requires.key c.requires.value _ c.in_ok-pairs.ensures (g.D.Disk.image c.args.disk.now) (g.D.Disk.image c.len.new.self) c.args.disk.now c.len.new.self c.write_or_empty.new.disk
    c.len.ensures.image c.len.ensures.past c.len.ensures.pasts c.write_or_empty.ensures.pasts

pub returns-clause-makes : goal.returns-clause-makes
returns-clause-makes g c =
    set_written g.D.Disk.may_leave g.D.Disk.past g.D.Disk.moment g.D.Disk.left_with g.met.D.Disk.only_with c.args.key.now c.args.value.now c.requires.key c.requires.value _ c.in_ok-pairs.ensures (g.D.Disk.image c.args.disk.now) (g.D.Disk.image c.len.new.self) c.args.disk.now c.len.new.self c.write_or_empty.new.disk
    c.len.ensures.image c.len.ensures.past c.len.ensures.pasts c.write_or_empty.ensures.pasts
