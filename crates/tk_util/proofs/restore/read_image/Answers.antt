use Rattle.tk_util.proofs.Restoring.{fault_headless, fault_kind, image_read, image_unread}
use Rattle.tk_util.proofs.restore.read_image.Goals as goal

pub returns-in-Ok-None-clause-read : goal.returns-in-Ok-None-clause-read
returns-in-Ok-None-clause-read g c = fault_headless (g.D.Disk.image c.args.from.now) _ c.in-Ok-None.field-0-is c.in-Ok-None.ensures.found

pub returns-in-Ok-Some-clause-read : goal.returns-in-Ok-Some-clause-read
returns-in-Ok-Some-clause-read g c = fault_kind (g.D.Disk.image c.args.from.now) _ c.in-Ok-Some.head c.in-Ok-Some.field-0-is c.if-head-eq2.true c.in-Ok-Some.ensures.found

pub returns-in-Ok-clause-read : goal.returns-in-Ok-clause-read
returns-in-Ok-clause-read g c =
    image_read (g.D.Disk.image c.args.from.now) (g.D.Disk.image c.read_header.new.disk) _ c.in-Ok-Some.head c.in-Ok.restoration c.in-Ok-Some.ensures.image c.in-Ok-Some.field-0-is c.if-head-eq2.false c.in-Ok-Some.ensures.found
    c.in-Ok.ensures.read c.in-Ok.ensures.exact

pub returns-in-Err-read_restoration-clause-read : goal.returns-in-Err-read_restoration-clause-read
returns-in-Err-read_restoration-clause-read g c =
    image_unread (g.D.Disk.image c.args.from.now) (g.D.Disk.image c.read_header.new.disk) _ c.in-Ok-Some.head c.in-Err-read_restoration.error c.unopened-in-Err-read_restoration.result c.in-Ok-Some.ensures.image c.in-Ok-Some.field-0-is c.if-head-eq2.false
    c.in-Ok-Some.ensures.found c.in-Err-read_restoration.ensures.exact c.unopened-in-Err-read_restoration.ensures
