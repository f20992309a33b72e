use Rattle.std.proofs.Common.{sym, subst}
use Rattle.tk_model.specs.Records.{Rising}
use Rattle.tk_model.proofs.RecordLaws.{all_touched_rising}
use Rattle.tk_model.proofs.plain.PlainMap.run_each.Goals as goal

pub invariant_of-self : goal.invariant_of-self
invariant_of-self c =
    subst (Rising c.self.inside.order) (sym c.in_ok-self-inside.ensures) (all_touched_rising _ c.args.touches.now _ c.self.invariant)
