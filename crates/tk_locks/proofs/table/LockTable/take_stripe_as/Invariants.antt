use Rattle.tk_locks.specs.Calls.{IsSameSeat}
use Rattle.tk_locks.specs.Steps.{Waits}
use Rattle.tk_locks.proofs.table.LockTable.take_stripe_as.Given as goal

abbrev pub invariant-loop : goal.invariant-loop
invariant-loop g l = IsSameSeat l.initial.seat l.seat × Waits l.initial.seat.me.0 l.seat.me.0
