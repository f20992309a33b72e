use Rattle.std.proofs.Common.{All, length}
use Rattle.example_sessions.specs.Sessions.{IsOurs}
use Rattle.example_sessions.proofs.leave.Given as goal

abbrev pub invariant-loop-visitor : goal.invariant-loop-visitor
invariant-loop-visitor l = record {
  own : IsOurs l.db l.pass;
  each : All (λ one. IsOurs l.db one.pass) l.visitors.items;
}

abbrev pub decreases-loop-visitor : goal.decreases-loop-visitor
decreases-loop-visitor l = length l.visitors.items
