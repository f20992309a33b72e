use Rattle.tk_buckets.proofs.Filled.{filled_told, filled_more_told}
use Rattle.tk_buckets.proofs.lookup.fill_value.Goals as goal

pub returns-in_ok-read_bytes-clause-filled : goal.returns-in_ok-read_bytes-clause-filled
returns-in_ok-read_bytes-clause-filled g c =
    filled_more_told (g.D.Disk.image c.args.disk.now) c.args.key.now c.args.buffer.now c.args.block.now c.min-have.result c.saturating_add-at.result c.args.into.now c.copy_from_slice.new.self c.read_bytes.new.into c.min-have.ensures c.copy_from_slice.ensures.after c.requires.key c.if-have-into.true c.saturating_add-at.ensures c.in_ok-read_bytes.ensures.bytes

pub returns-else-have-into-clause-filled : goal.returns-else-have-into-clause-filled
returns-else-have-into-clause-filled g c =
    filled_told (g.D.Disk.image c.args.disk.now) c.args.key.now c.args.buffer.now c.args.block.now c.min-have.result c.args.into.now c.copy_from_slice.new.self c.min-have.ensures c.copy_from_slice.ensures.after c.requires.key c.if-have-into.false
