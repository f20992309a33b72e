use Rattle.std.proofs.Common.{arith}
use Rattle.tk_buckets.proofs.Seen.{part_read}
use Rattle.tk_buckets.proofs.lookup.read_part.Goals as goal

pub returns-clause-bytes : goal.returns-clause-bytes
returns-clause-bytes g c =
    part_read (g.D.Disk.image c.args.disk.now) c.read_bytes.result c.args.place c.args.from c.args.end c.saturating_add.result c.args.buffer.now c.read_bytes.new.into (omega arith) c.requires.end c.saturating_add.ensures c.read_bytes.ensures.bytes
