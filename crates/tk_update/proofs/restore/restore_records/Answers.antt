use Rattle.std.proofs.Common.{sym}
use Rattle.tk_append.proofs.Checked.{static_small}
use Rattle.tk_update.proofs.restore.restore_records.Goals as goal

pub blocks_of-requires : goal.blocks_of-requires
blocks_of-requires c = static_small c.in-Some.head (c.in-Some.ensures.exact.found c.args.bytes.now c.in-Some.head (sym c.in-Some.ensures.value)).0.0
