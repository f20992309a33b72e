use Rattle.std.proofs.Common.{rules}
use Rattle.tk_buckets.proofs.Follows.{number_read}
use Rattle.tk_buckets.proofs.read.number_at.Goals as goal

pub returns-clause-value : goal.returns-clause-value
returns-clause-value g c = number_read (g.D.Disk.image c.args.disk.now) c.args.at c.in_ok-read_at.field-0 c.u64_at.result c.read_at.new.into c.in_ok-read_at.ensures.bytes (search rules) c.u64_at.ensures
