use Rattle.example_sessions.specs.Sessions.{IsOurs}
use Rattle.example_sessions.proofs.stay.Given as goal

abbrev pub invariant-loop : goal.invariant-loop
invariant-loop g l = IsOurs l.shop.db.now l.pass
