use Rattle.std.proofs.Common.{◌≡◌, ◌+◌, ◌≤◌, ◌++◌, length}
use Rattle.std.specs.Vec.{vec_capacity}
use Rattle.tk_locks.specs.Homes.{bare}
use Rattle.tk_locks.proofs.lists.unlodged.Given as goal

abbrev pub invariant-loop-homes : goal.invariant-loop-homes
invariant-loop-homes g l = record {
  all : l.into.items ++ bare l.homes.items ≡ bare l.initial.homes.items;
  room : length l.into.items + length l.homes.items ≤ vec_capacity l.into;
}

abbrev pub decreases-loop-homes : goal.decreases-loop-homes
decreases-loop-homes g l = length l.homes.items
