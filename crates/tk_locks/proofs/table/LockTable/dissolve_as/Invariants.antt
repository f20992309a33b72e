use Rattle.std.proofs.Common.{◌≡◌, ℕ, ◌+◌, ◌-◌, ◌<◌, ◌≤◌, true, false, take, get_or}
use Rattle.std.specs.Vec.{vec_capacity}
use Rattle.tk_locks.specs.Homes.{at_home}
use Rattle.tk_locks.proofs.Homes.{gather}
use Rattle.tk_locks.proofs.table.LockTable.dissolve_as.Given as goal

abbrev pub invariant-loop-i : goal.invariant-loop-i
invariant-loop-i g l = (l.into.items ≡ at_home (gather (λ q. get_or l.closed.words.items (l.frame.stripes + q + 1) 0) 0 (take l.i l.closed.slots.items)))
    × (l.closed.slots.items ≡ l.initial.closed.slots.items) × (l.closed.slots.len ≡ l.initial.closed.slots.len)
    × ((k : ℕ) → l.i ≤ k → k < l.closed.slots.len → get_or l.closed.slots.filled k false ≡ true) × ((k : ℕ) → k < l.i → get_or l.closed.slots.filled k false ≡ false)
    × (l.closed.slots.len ≤ vec_capacity l.into) × (l.closed.words ≡ l.initial.closed.words)

abbrev pub decreases-loop-i : goal.decreases-loop-i
decreases-loop-i g l = l.closed.slots.len - l.i
