use Rattle.std.proofs.Common.{sym, subst}
use Rattle.tk_model.specs.Records.{Rising}
use Rattle.tk_model.proofs.RecordLaws.{put_rising, without_rising}
use Rattle.tk_model.proofs.plain.PlainMap.apply.Goals as goal

pub invariant_of-self-in_ok-put_in-in-Put : goal.invariant_of-self-in_ok-put_in-in-Put
invariant_of-self-in_ok-put_in-in-Put c =
    subst (Rising c.self.inside.order) (sym c.in_ok-put_in-in-Put.ensures.ok) (put_rising _ _ _ c.self.invariant)

pub invariant_of-self-in-Drop : goal.invariant_of-self-in-Drop
invariant_of-self-in-Drop c =
    subst (Rising c.self.inside.order) (sym c.drop_in.ensures) (without_rising _ _ _ c.self.invariant)
