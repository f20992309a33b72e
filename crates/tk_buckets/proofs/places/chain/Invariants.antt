use Rattle.std.proofs.Common.{◌≡◌, ℕ, ◌+◌, ◌*◌, ◌-◌, ◌/◌, ◌≤◌, List, length}
use Rattle.tk_disk.specs.Crash.{OnlyReads}
use Rattle.tk_block.specs.declared.head.StaticHead.{StaticHead}
use Rattle.tk_buckets.proofs.Follows.{ToldLeft}
use Rattle.tk_buckets.proofs.places.chain.Given as goal

abbrev pub invariant-loop-next : goal.invariant-loop-next
invariant-loop-next g l = record {
  left : (h : StaticHead) (places : List ℕ) → ToldLeft h (g.D.Disk.image l.initial.disk) l.first places l.places l.next;
  image : g.D.Disk.image l.disk ≡ g.D.Disk.image l.initial.disk;
  taken : g.D.Disk.taken_count l.disk ≤ g.D.Disk.taken_count l.initial.disk + 8 * length l.places;
  few : length l.places ≤ l.len / 48;
  count : g.D.Disk.fault_count l.disk ≡ g.D.Disk.fault_count l.initial.disk;
  more : g.D.Disk.taken_count l.initial.disk ≤ g.D.Disk.taken_count l.disk;
  still : OnlyReads g.D.Disk.may_leave g.D.Disk.moment g.D.Disk.left_since g.D.Disk.past g.D.Disk.left_with l.initial.disk l.disk;
}

abbrev pub decreases-loop-next : goal.decreases-loop-next
decreases-loop-next g l = l.len / 48 - length l.places
