use Rattle.std.proofs.Common.{◌∙◌, ap}
use Rattle.tk_append.proofs.Readings.{counted_of}
use Rattle.tk_append.proofs.read.read_counted.Goals as goal

pub returns-in-Ok-clause-found : goal.returns-in-Ok-clause-found
returns-in-Ok-clause-found g c =
    counted_of g.D.Disk.image c.args.disk c.of.result c.args.kinds.now c.args.writable c.args.shard c.in-Ok.field-0.found c.in-Ok.field-0.heads c.in-Ok.ensures.closed c.of.ensures.head c.of.ensures.end (ap g.D.Disk.image c.of.ensures.disk ∙ c.check_disk.ensures.image)
