use Rattle.std.proofs.Common.{refl, arith}
use Rattle.tk_restore.proofs.Headers.{header_read, header_valid}
use Rattle.tk_restore.proofs.scan.read_header.Goals as goal

pub returns-in-Ok-clause-found : goal.returns-in-Ok-clause-found
returns-in-Ok-clause-found g c =
    header_read (g.D.Disk.image c.args.disk.now) c.in-Ok.got c.read_at.new.into _ c.read_static.result (omega arith) refl c.read_static.ensures.value c.in-Ok.ensures.bytes

pub returns-in-Ok-clause-valid : goal.returns-in-Ok-clause-valid
returns-in-Ok-clause-valid g c = header_valid c.read_static.result _ c.read_static.ensures.value
