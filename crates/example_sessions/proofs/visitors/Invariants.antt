use Rattle.std.proofs.Common.{All}
use Rattle.example_sessions.specs.Sessions.{IsOurs}
use Rattle.example_sessions.proofs.visitors.Given as goal

abbrev pub invariant-loop-number : goal.invariant-loop-number
invariant-loop-number l = record {
  own : IsOurs l.db l.pass;
  each : All (λ one. IsOurs l.db one.pass) l.visitors.items;
}
