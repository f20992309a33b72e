use Rattle.std.proofs.Common.{◌≡◌, ℕ, ◌+◌, ◌-◌, ◌*◌, ◌/◌, ◌≤◌, List, length}
use Rattle.tk_disk.specs.Crash.{OnlyReads}
use Rattle.tk_block.specs.declared.head.StaticHead.{StaticHead}
use Rattle.tk_buckets.proofs.Lookups.{ToldWalks}
use Rattle.tk_buckets.proofs.lookup.find_block.Given as goal

abbrev pub invariant-loop-place : goal.invariant-loop-place
invariant-loop-place g l = record {
  walks : (h : StaticHead) (places : List ℕ) → ToldWalks h (g.D.Disk.image l.initial.disk) l.key (length l.initial.buffer) l.first places (g.D.Disk.taken_count l.initial.disk) (g.D.Disk.taken_count l.disk) l.place l.steps;
  image : g.D.Disk.image l.disk ≡ g.D.Disk.image l.initial.disk;
  still : OnlyReads g.D.Disk.may_leave g.D.Disk.moment g.D.Disk.left_since g.D.Disk.past g.D.Disk.left_with l.initial.disk l.disk;
  more : g.D.Disk.taken_count l.initial.disk ≤ g.D.Disk.taken_count l.disk;
  most : g.D.Disk.taken_count l.disk ≤ g.D.Disk.taken_count l.initial.disk + l.steps * length l.initial.buffer;
  few : l.steps ≤ l.len / 48;
  count : g.D.Disk.fault_count l.disk ≡ g.D.Disk.fault_count l.initial.disk;
  long : length l.buffer ≡ length l.initial.buffer;
}

abbrev pub decreases-loop-place : goal.decreases-loop-place
decreases-loop-place g l = l.len / 48 - l.steps
