use Rattle.std.proofs.Common.{sym, subst}
use Rattle.tk_model.specs.Records.{Rising}
use Rattle.tk_model.proofs.RecordLaws.{touched_rising}
use Rattle.tk_model.proofs.plain.PlainMap.run_next.Goals as goal

pub invariant_of-self-in-Some : goal.invariant_of-self-in-Some
invariant_of-self-in-Some c =
    subst (Rising c.self.inside.order) (sym c.in_ok-act_in-in-Some.ensures.ok) (touched_rising _ _ _ _ c.self.invariant)
