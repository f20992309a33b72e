use Rattle.std.proofs.Common.{◌-◌, length}
use Rattle.tk_update.specs.Reread.{ReadTo}
use Rattle.tk_update.proofs.restore.blocks_of.Given as goal

abbrev pub invariant-loop-place : goal.invariant-loop-place
invariant-loop-place l = ReadTo l.head l.bytes l.place l.blocks

abbrev pub decreases-loop-place : goal.decreases-loop-place
decreases-loop-place l = length l.bytes - l.place
