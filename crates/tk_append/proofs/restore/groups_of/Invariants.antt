use Rattle.std.proofs.Common.{◌-◌, length}
use Rattle.tk_append.specs.Reread.{ReadUpto}
use Rattle.tk_append.proofs.restore.groups_of.Given as goal

abbrev pub invariant-loop-place : goal.invariant-loop-place
invariant-loop-place l = ReadUpto l.head l.bytes l.place l.reading

abbrev pub decreases-loop-place : goal.decreases-loop-place
decreases-loop-place l = length l.bytes - l.place
