use Rattle.std.proofs.Common.{◌≡◌, ◌+◌, ◌≤◌, ◌++◌, length}
use Rattle.std.specs.Vec.{vec_capacity}
use Rattle.tk_locks.specs.Homes.{homes_of}
use Rattle.tk_locks.proofs.lists.lodged.Given as goal

abbrev pub invariant-loop-stores : goal.invariant-loop-stores
invariant-loop-stores g l = record {
  all : l.into.items ++ homes_of l.stores.items ≡ homes_of l.initial.stores.items;
  room : length l.into.items + length l.stores.items ≤ vec_capacity l.into;
}

abbrev pub decreases-loop-stores : goal.decreases-loop-stores
decreases-loop-stores g l = length l.stores.items
