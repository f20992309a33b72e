use Rattle.std.proofs.Common.{◌≡◌, ◌-◌}
use Rattle.tk_disk.specs.Crash.{OnlyReads}
use Rattle.tk_append.specs.Windows.{items}
use Rattle.tk_restore.specs.Readings.{Scanned}
use Rattle.tk_restore.proofs.scan.read_records.Given as goal

abbrev pub invariant-loop-place : goal.invariant-loop-place
invariant-loop-place g l = record {
  scanned : Scanned (g.D.Disk.image l.fn.disk) l.head l.size l.place (items l.window) l.reading;
  image : g.D.Disk.image l.disk ≡ g.D.Disk.image l.fn.disk;
  count : g.D.Disk.fault_count l.disk ≡ g.D.Disk.fault_count l.fn.disk;
  still : OnlyReads g.D.Disk.may_leave g.D.Disk.moment g.D.Disk.left_since g.D.Disk.past g.D.Disk.left_with l.fn.disk l.disk;
}

abbrev pub decreases-loop-place : goal.decreases-loop-place
decreases-loop-place g l = l.size - l.place
