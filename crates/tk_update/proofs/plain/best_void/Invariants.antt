use Rattle.std.proofs.Common.{◌≡◌, drop}
use Rattle.std.specs.Option.{option_copied}
use Rattle.tk_update.specs.Blocks.{best_void}
use Rattle.tk_update.proofs.plain.best_void.Given as goal

abbrev pub invariant-loop-i : goal.invariant-loop-i
invariant-loop-i l = option_copied l.best ≡ best_void l.room (drop l.i l.blocks)
