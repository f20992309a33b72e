use Rattle.std.proofs.lemmas.List.Elements.{All-pop}
use Rattle.example_sessions.specs.Sessions.{IsOurs}
use Rattle.example_sessions.specs.declared.Visitor.{Visitor}
use Rattle.example_sessions.proofs.leave.Goals as goal

pub loop-visitor-preserved : goal.loop-visitor-preserved
loop-visitor-preserved c = record {
  own = c.join.ensures.own;
  each = (All-pop (λ (one : Visitor). IsOurs c.args.db.now one.pass) _ _ _ c.pop.ensures.items c.loop-visitor.invariant.each).0;
}
