use Rattle.std.proofs.Common.{◌≡◌, ◌-◌, ◌≤◌, ◌^◌, List}
use Rattle.tk_disk.specs.Crash.{OnlyReads}
use Rattle.tk_model.specs.declared.record.Group.{Group}
use Rattle.tk_hash.proofs.Searches.{ToldUp, ShelfKept}
use Rattle.tk_hash.proofs.shelf.first_record.Given as goal

abbrev pub invariant-loop-bucket : goal.invariant-loop-bucket
invariant-loop-bucket g l = record {
  up : (groups : List Group) → ToldUp (g.D.Disk.image l.initial.disk) l.file.head groups l.initial.shelf l.bound l.bucket;
  shelf : (groups : List Group) → ShelfKept (g.D.Disk.image l.initial.disk) l.file.head groups l.initial.shelf l.shelf;
  most : l.bucket ≤ 2 ^ l.file.head.p;
  image : g.D.Disk.image l.disk ≡ g.D.Disk.image l.initial.disk;
  still : OnlyReads g.D.Disk.may_leave g.D.Disk.moment g.D.Disk.left_since g.D.Disk.past g.D.Disk.left_with l.initial.disk l.disk;
  taken : g.D.Disk.taken_count l.initial.disk ≤ g.D.Disk.taken_count l.disk;
  count : g.D.Disk.fault_count l.disk ≡ g.D.Disk.fault_count l.initial.disk;
}

abbrev pub decreases-loop-bucket : goal.decreases-loop-bucket
decreases-loop-bucket g l = l.end - l.bucket
