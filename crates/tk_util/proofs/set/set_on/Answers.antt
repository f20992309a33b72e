use Rattle.tk_util.proofs.Crashing.{crash_behind}
use Rattle.tk_util.proofs.CutShort.{behind_cut, cut_from_start, looked_cut}
use Rattle.tk_util.proofs.Interrupting.{behind_at, looked_at}
use Rattle.tk_util.proofs.Making.{never_made}
use Rattle.tk_util.proofs.SetEndings.{set_moved}
use Rattle.tk_util.proofs.Sparing.{spares_left, spares_moved}
use Rattle.tk_util.proofs.set.set_on.Goals as goal

pub returns-in-Ok-false-clause-call : goal.returns-in-Ok-false-clause-call
returns-in-Ok-false-clause-call g c = set_moved _ _ _ _ _ _ (c.in-Ok-false.ensures.full c.in-Ok-false.field-0-test) c.set_fresh.ensures.kept c.set_more.ensures.call

pub returns-in-Ok-false-clause-spared : goal.returns-in-Ok-false-clause-spared
returns-in-Ok-false-clause-spared g c = spares_moved _ _ _ _ _ c.set_fresh.ensures.kept c.set_fresh.ensures.left c.set_more.ensures.spared

pub returns-in-Ok-true-clause-spared : goal.returns-in-Ok-true-clause-spared
returns-in-Ok-true-clause-spared g c = spares_left _ _ _ c.set_fresh.ensures.left

pub returns-in-Err-Fault-clause-spared : goal.returns-in-Err-Fault-clause-spared
returns-in-Err-Fault-clause-spared g c = spares_left _ _ _ c.set_fresh.ensures.left

pub returns-in-Err-NoMemory-clause-spared : goal.returns-in-Err-NoMemory-clause-spared
returns-in-Err-NoMemory-clause-spared g c = spares_left _ _ _ c.set_fresh.ensures.left

pub returns-in-Ok-false-clause-crash : goal.returns-in-Ok-false-clause-crash
returns-in-Ok-false-clause-crash g c = crash_behind _ _ _ _ _ (λ place is. c.in-Ok-false.ensures.unwritten c.in-Ok-false.field-0-test) c.set_more.ensures.crash

pub returns-in-Ok-false-clause-crashes : goal.returns-in-Ok-false-clause-crashes
returns-in-Ok-false-clause-crashes g c =
    behind_at g.D.Disk.image g.D.Disk.may_leave g.D.Disk.past g.D.Disk.moment g.D.Disk.left_since g.D.Disk.left_with (g.D.Disk.image c.args.disk) _ c.args.disk c.set_fresh.new.disk _ c.set_fresh.ensures.looks c.set_fresh.ensures.kept c.set_more.ensures.crashes

pub returns-in-Ok-true-clause-crashes : goal.returns-in-Ok-true-clause-crashes
returns-in-Ok-true-clause-crashes g c = looked_at g.D.Disk.image g.D.Disk.may_leave g.D.Disk.past g.D.Disk.moment g.D.Disk.left_since g.D.Disk.left_with (g.D.Disk.image c.args.disk) _ c.args.disk c.set_fresh.new.disk c.set_fresh.ensures.looks

pub returns-in-Err-Fault-clause-crashes : goal.returns-in-Err-Fault-clause-crashes
returns-in-Err-Fault-clause-crashes g c = looked_at g.D.Disk.image g.D.Disk.may_leave g.D.Disk.past g.D.Disk.moment g.D.Disk.left_since g.D.Disk.left_with (g.D.Disk.image c.args.disk) _ c.args.disk c.set_fresh.new.disk c.set_fresh.ensures.looks

pub returns-in-Err-NoMemory-clause-crashes : goal.returns-in-Err-NoMemory-clause-crashes
returns-in-Err-NoMemory-clause-crashes g c = looked_at g.D.Disk.image g.D.Disk.may_leave g.D.Disk.past g.D.Disk.moment g.D.Disk.left_since g.D.Disk.left_with (g.D.Disk.image c.args.disk) _ c.args.disk c.set_fresh.new.disk c.set_fresh.ensures.looks

pub returns-in-Ok-false-clause-makes : goal.returns-in-Ok-false-clause-makes
returns-in-Ok-false-clause-makes g c = never_made _ _ (c.in-Ok-false.ensures.full c.in-Ok-false.field-0-test)

pub returns-in-Ok-false-clause-cut_short : goal.returns-in-Ok-false-clause-cut_short
returns-in-Ok-false-clause-cut_short g c =
    cut_from_start g.D.Disk.image g.D.Disk.may_leave g.D.Disk.past g.D.Disk.moment g.D.Disk.left_since g.D.Disk.left_with g.met.D.Disk.only_now g.met.D.Disk.only_with (g.D.Disk.image c.args.disk) _ c.args.disk _
    (behind_cut g.D.Disk.image g.D.Disk.may_leave g.D.Disk.past g.D.Disk.moment g.D.Disk.left_since g.D.Disk.left_with g.met.D.Disk.counts_now g.met.D.Disk.counts_with (g.D.Disk.image c.args.disk) _ c.args.disk c.set_fresh.new.disk _ c.set_fresh.ensures.looks c.set_fresh.ensures.kept c.set_more.ensures.cut_short)

pub returns-in-Ok-true-clause-cut_short : goal.returns-in-Ok-true-clause-cut_short
returns-in-Ok-true-clause-cut_short g c =
    cut_from_start g.D.Disk.image g.D.Disk.may_leave g.D.Disk.past g.D.Disk.moment g.D.Disk.left_since g.D.Disk.left_with g.met.D.Disk.only_now g.met.D.Disk.only_with (g.D.Disk.image c.args.disk) _ c.args.disk c.set_fresh.new.disk
    (looked_cut g.D.Disk.image g.D.Disk.may_leave g.D.Disk.past g.D.Disk.moment g.D.Disk.left_since g.D.Disk.left_with g.met.D.Disk.counts_now g.met.D.Disk.counts_with g.met.D.Disk.since_with (g.D.Disk.image c.args.disk) _ c.args.disk c.set_fresh.new.disk c.set_fresh.ensures.looks)

pub returns-in-Err-Fault-clause-cut_short : goal.returns-in-Err-Fault-clause-cut_short
returns-in-Err-Fault-clause-cut_short g c =
    cut_from_start g.D.Disk.image g.D.Disk.may_leave g.D.Disk.past g.D.Disk.moment g.D.Disk.left_since g.D.Disk.left_with g.met.D.Disk.only_now g.met.D.Disk.only_with (g.D.Disk.image c.args.disk) _ c.args.disk c.set_fresh.new.disk
    (looked_cut g.D.Disk.image g.D.Disk.may_leave g.D.Disk.past g.D.Disk.moment g.D.Disk.left_since g.D.Disk.left_with g.met.D.Disk.counts_now g.met.D.Disk.counts_with g.met.D.Disk.since_with (g.D.Disk.image c.args.disk) _ c.args.disk c.set_fresh.new.disk c.set_fresh.ensures.looks)

pub returns-in-Err-NoMemory-clause-cut_short : goal.returns-in-Err-NoMemory-clause-cut_short
returns-in-Err-NoMemory-clause-cut_short g c =
    cut_from_start g.D.Disk.image g.D.Disk.may_leave g.D.Disk.past g.D.Disk.moment g.D.Disk.left_since g.D.Disk.left_with g.met.D.Disk.only_now g.met.D.Disk.only_with (g.D.Disk.image c.args.disk) _ c.args.disk c.set_fresh.new.disk
    (looked_cut g.D.Disk.image g.D.Disk.may_leave g.D.Disk.past g.D.Disk.moment g.D.Disk.left_since g.D.Disk.left_with g.met.D.Disk.counts_now g.met.D.Disk.counts_with g.met.D.Disk.since_with (g.D.Disk.image c.args.disk) _ c.args.disk c.set_fresh.new.disk c.set_fresh.ensures.looks)
