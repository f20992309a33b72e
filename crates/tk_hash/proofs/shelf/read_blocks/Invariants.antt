use Rattle.std.proofs.Common.{◌≡◌, ◌<◌, ◌≤◌, ◌^◌, List, length, drop}
use Rattle.std.specs.Prelude.{IfSome}
use Rattle.tk_disk.specs.Crash.{OnlyReads}
use Rattle.tk_block.specs.Layout.{Placed}
use Rattle.tk_block.specs.declared.head.StaticHead.{StaticHead}
use Rattle.tk_buckets.specs.Chain.{places_in}
use Rattle.tk_buckets.specs.Lookup.{AllStand}
use Rattle.tk_hash.specs.Shelf.{left_by}
use Rattle.tk_hash.proofs.shelf.read_blocks.Given as goal

abbrev pub invariant-loop-i : goal.invariant-loop-i
invariant-loop-i g l = record {
  value : (h : StaticHead) (blocks : List Placed) → IfSome (g.D.Disk.image l.initial.disk) (λ f. AllStand h f blocks → length f < 2 ^ 64 → l.places ≡ places_in blocks → l.records ≡ left_by (drop l.i blocks));
  image : g.D.Disk.image l.disk ≡ g.D.Disk.image l.initial.disk;
  still : OnlyReads g.D.Disk.may_leave g.D.Disk.moment g.D.Disk.left_since g.D.Disk.past g.D.Disk.left_with l.initial.disk l.disk;
  taken : g.D.Disk.taken_count l.initial.disk ≤ g.D.Disk.taken_count l.disk;
  count : g.D.Disk.fault_count l.disk ≡ g.D.Disk.fault_count l.initial.disk;
}
