use Rattle.std.proofs.Common.{◌≡◌, ◌-◌}
use Rattle.tk_mem.specs.Loading.{IsLoaded, IsReadTo}
use Rattle.tk_mem.proofs.load.take_all.Given as goal

abbrev pub invariant-loop-place : goal.invariant-loop-place
invariant-loop-place g l = record {
  loaded : IsLoaded l.of l.loading;
  read : IsReadTo (g.D.Disk.image l.fn.disk) l.place l.loading.records;
  image : g.D.Disk.image l.disk ≡ g.D.Disk.image l.fn.disk;
  count : g.D.Disk.fault_count l.disk ≡ g.D.Disk.fault_count l.fn.disk;
}

abbrev pub decreases-loop-place : goal.decreases-loop-place
decreases-loop-place g l = l.size - l.place
