use Rattle.tk_hash.specs.Chain.{cost_in}
use Rattle.tk_hash.proofs.Values.{has_told}
use Rattle.tk_hash.proofs.seek.has_key.Goals as goal

pub returns-clause-value : goal.returns-clause-value
returns-clause-value g c = λ groups.
    has_told c.args.file.now.head c.args.key.now groups c.seek_value.new.buffer (g.D.Disk.taken_count c.args.disk.now) (g.D.Disk.taken_count c.seek_value.new.disk) (g.D.Disk.taken_count c.args.disk.now) (cost_in c.args.file.now.head groups c.args.key.now) c.in_ok-found.found (g.D.Disk.image c.args.disk.now) c.is_some.result c.is_some.ensures (c.in_ok-found.ensures.value groups)
