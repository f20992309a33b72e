use Rattle.std.proofs.Common.{◌≡◌, drop}
use Rattle.tk_update.specs.Blocks.{block_of}
use Rattle.tk_update.proofs.plain.block_of.Given as goal

abbrev pub invariant-loop-i : goal.invariant-loop-i
invariant-loop-i l = block_of l.key (drop l.i l.blocks) ≡ block_of l.key l.blocks
