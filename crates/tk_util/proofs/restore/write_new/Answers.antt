use Rattle.tk_util.proofs.Making.{restore_read, restore_written}
use Rattle.tk_util.proofs.Restoring.{empty_by, new_written}
use Rattle.tk_util.proofs.restore.write_new.Goals as goal

pub returns-in-Ok-clause-written : goal.returns-in-Ok-clause-written
returns-in-Ok-clause-written g c = λ image from. new_written image (g.D.Disk.image c.args.to.now) _ (g.D.Disk.image c.write_restoration.new.to) c.in-Ok.field-0 c.len.ensures.image (empty_by _ _ _ c.len.ensures.image c.in_ok-len.ensures.value c.if-branch-gt0.false) (c.in-Ok.ensures.restored image from)

pub returns-in_err-len-clause-makes : goal.returns-in_err-len-clause-makes
returns-in_err-len-clause-makes g c = λ image from. restore_read g.D.Disk.may_leave g.D.Disk.past g.D.Disk.moment g.D.Disk.left_with g.met.D.Disk.only_with image (g.D.Disk.image c.args.to.now) c.args.to.now c.len.new.self c.len.ensures.past c.len.ensures.pasts

pub returns-then-branch-gt0-clause-makes : goal.returns-then-branch-gt0-clause-makes
returns-then-branch-gt0-clause-makes g c = λ image from. restore_read g.D.Disk.may_leave g.D.Disk.past g.D.Disk.moment g.D.Disk.left_with g.met.D.Disk.only_with image (g.D.Disk.image c.args.to.now) c.args.to.now c.len.new.self c.len.ensures.past c.len.ensures.pasts

pub returns-in-Ok-clause-makes : goal.returns-in-Ok-clause-makes
returns-in-Ok-clause-makes g c = λ image from.
    restore_written g.D.Disk.may_leave g.D.Disk.past g.D.Disk.moment g.D.Disk.left_with g.met.D.Disk.only_with image (g.D.Disk.image c.args.to.now) (g.D.Disk.image c.len.new.self) c.args.to.now c.len.new.self c.write_restoration.new.to c.len.ensures.image c.len.ensures.past c.len.ensures.pasts
    (c.write_restoration.ensures.pasts image from)

pub returns-in-Err-clause-makes : goal.returns-in-Err-clause-makes
returns-in-Err-clause-makes g c = λ image from.
    restore_written g.D.Disk.may_leave g.D.Disk.past g.D.Disk.moment g.D.Disk.left_with g.met.D.Disk.only_with image (g.D.Disk.image c.args.to.now) (g.D.Disk.image c.len.new.self) c.args.to.now c.len.new.self c.write_restoration.new.to c.len.ensures.image c.len.ensures.past c.len.ensures.pasts
    (c.write_restoration.ensures.pasts image from)
