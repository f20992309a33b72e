use Rattle.std.proofs.Common.{rules}
use Rattle.tk_hash.proofs.Fields.{told_front}
use Rattle.tk_hash.proofs.reading.front_at.Goals as goal

pub returns-clause-says : goal.returns-clause-says
returns-clause-says g c = λ h x.
    told_front h (g.D.Disk.image c.args.disk.now) x c.fill_from.new.into c.args.place c.u16_at.result c.u32_at.result (search rules) c.u16_at.ensures c.u32_at.ensures c.in_ok-fill_from.ensures.bytes
