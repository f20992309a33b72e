use Rattle.std.proofs.Common.{◌≡◌, ◌∙◌, List, sym, ap, subst}
use Rattle.tk_model.specs.Records.{without}
use Rattle.tk_model.specs.declared.record.Pair.{Pair}
use Rattle.tk_restore.specs.Rising.{is_past}
use Rattle.tk_restore.proofs.Upto.{past_all, without_last, removed_bound}
use Rattle.tk_restore.proofs.rising.RisingPairs.remove.Goals as goal

pub returns-then-is_past : goal.returns-then-is_past
returns-then-is_past c =
    let past = ap (is_past c.self.inside.last) (sym c.requires) ∙ (sym c.is_past.ensures ∙ c.if-is_past.true) in
    subst (λ (l : List Pair). l ≡ without c.args.key.now l) c.self.view_is
    (sym (without_last c.args.key.now c.self.inside.pairs (past_all c.self.inside.last c.args.key.now c.self.inside.pairs c.self.invariant.1 past)))

pub invariant_of-self : goal.invariant_of-self
invariant_of-self c =
    removed_bound c.self.inside.last c.args.key.now c.as_slice.result.now c.self.inside.pairs c.remove.new.self c.in-Ok.i c.in-Ok.ensures.stands c.as_slice.ensures c.remove.ensures c.self.invariant
