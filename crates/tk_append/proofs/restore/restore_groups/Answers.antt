use Rattle.std.proofs.Common.{sym}
use Rattle.tk_append.proofs.Checked.{static_small}
use Rattle.tk_append.proofs.restore.restore_groups.Goals as goal

pub groups_of-requires : goal.groups_of-requires
groups_of-requires c = static_small c.in-Some.head (c.in-Some.ensures.exact.found c.args.bytes.now c.in-Some.head (sym c.in-Some.ensures.value)).0.0
