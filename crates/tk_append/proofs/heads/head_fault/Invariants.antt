use Rattle.std.proofs.Common.{◌≡◌, ◌-◌, ◌*◌, length}
use Rattle.std.specs.Prelude.{min}
use Rattle.tk_disk.specs.Crash.{OnlyReads}
use Rattle.tk_append.proofs.HeadSteps.{HeadsSo}
use Rattle.tk_append.proofs.heads.head_fault.Given as goal

abbrev pub invariant-loop-first : goal.invariant-loop-first
invariant-loop-first g l = record {
  so : HeadsSo (g.D.Disk.image l.fn.disk) l.heads l.first;
  room : length l.buffer.items ≡ 8 * min 131072 (length l.heads);
  image : g.D.Disk.image l.disk ≡ g.D.Disk.image l.fn.disk;
  count : g.D.Disk.fault_count l.disk ≡ g.D.Disk.fault_count l.fn.disk;
  still : OnlyReads g.D.Disk.may_leave g.D.Disk.moment g.D.Disk.left_since g.D.Disk.past g.D.Disk.left_with l.fn.disk l.disk;
}

abbrev pub decreases-loop-first : goal.decreases-loop-first
decreases-loop-first g l = length l.heads - l.first
