use Rattle.std.proofs.Common.{rules}
use Rattle.tk_buckets.proofs.Seen.{read_whole}
use Rattle.tk_buckets.proofs.read.read_bytes.Goals as goal

pub returns-clause-bytes : goal.returns-clause-bytes
returns-clause-bytes g c = read_whole (g.D.Disk.image c.args.disk.now) c.args.at c.in_ok-read_at.field-0 c.read_at.new.into _ (search rules) c.in_ok-read_at.ensures.bytes
