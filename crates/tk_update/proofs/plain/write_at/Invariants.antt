use Rattle.std.proofs.Common.{◌≡◌, ◌++◌, take, drop}
use Rattle.tk_update.specs.Blocks.{written_at}
use Rattle.tk_update.proofs.plain.write_at.Given as goal

abbrev pub invariant-loop-i : goal.invariant-loop-i
invariant-loop-i l = (l.blocks ≡ l.initial.blocks) × (take l.i l.blocks ++ written_at l.place l.body (drop l.i l.blocks) ≡ written_at l.place l.body l.blocks)
