use Rattle.std.proofs.Common.{◌≡◌, ◌++◌, length, take, drop}
use Rattle.tk_update.specs.Blocks.{voided}
use Rattle.tk_update.proofs.plain.void_key.Given as goal

abbrev pub invariant-loop-i : goal.invariant-loop-i
invariant-loop-i l = (l.i-end ≡ length l.blocks) × (take l.i l.blocks ++ voided l.key l.number (drop l.i l.blocks) ≡ voided l.key l.number l.initial.blocks)
