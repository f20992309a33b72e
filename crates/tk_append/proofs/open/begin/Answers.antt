use Rattle.tk_append.proofs.Readings.{header_there}
use Rattle.tk_append.proofs.open.begin.Goals as goal

pub mark_open-requires : goal.mark_open-requires
mark_open-requires g c = record { there = header_there g.D.Disk.image c.args.log.now c.requires.groups.0 c.requires.groups.1 }
