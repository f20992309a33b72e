use Rattle.std.proofs.Common.{◌≡◌, drop}
use Rattle.std.specs.Option.{option_copied}
use Rattle.tk_update.specs.Restored.{newest_of}
use Rattle.tk_update.proofs.restore.newest_of.Given as goal

abbrev pub invariant-loop-i : goal.invariant-loop-i
invariant-loop-i l = option_copied l.newest ≡ newest_of l.key (drop l.i l.blocks)
