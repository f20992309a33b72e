use Rattle.std.proofs.Common.{◌≡◌, ℕ, ◌+◌, ◌-◌, ◌*◌, ◌/◌, ◌≤◌, List}
use Rattle.tk_disk.specs.Crash.{OnlyReads}
use Rattle.tk_block.specs.declared.head.StaticHead.{StaticHead}
use Rattle.tk_buckets.proofs.Searches.{ToldToward}
use Rattle.tk_buckets.proofs.linking.cell_of.Given as goal

abbrev pub invariant-loop-next : goal.invariant-loop-next
invariant-loop-next g l = record {
  toward : (h : StaticHead) (places : List ℕ) → ToldToward h (g.D.Disk.image l.initial.disk) l.place l.cell places l.at l.next l.steps;
  image : g.D.Disk.image l.disk ≡ g.D.Disk.image l.initial.disk;
  more : g.D.Disk.taken_count l.initial.disk ≤ g.D.Disk.taken_count l.disk;
  most : g.D.Disk.taken_count l.disk ≤ g.D.Disk.taken_count l.initial.disk + 8 * l.steps;
  few : l.steps ≤ l.len / 48;
  count : g.D.Disk.fault_count l.disk ≡ g.D.Disk.fault_count l.initial.disk;
  still : OnlyReads g.D.Disk.may_leave g.D.Disk.moment g.D.Disk.left_since g.D.Disk.past g.D.Disk.left_with l.initial.disk l.disk;
}

abbrev pub decreases-loop-next : goal.decreases-loop-next
decreases-loop-next g l = l.len / 48 - l.steps
