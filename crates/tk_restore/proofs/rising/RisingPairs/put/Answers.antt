use Rattle.std.proofs.Common.{◌≡◌, ◌∙◌, List, sym, ap, subst}
use Rattle.tk_model.specs.Records.{put, Rising}
use Rattle.tk_model.specs.declared.record.Order.TheVariants.{Hash}
use Rattle.tk_model.specs.declared.record.Pair.{Pair}
use Rattle.tk_restore.specs.Rising.{AllUpto}
use Rattle.tk_restore.proofs.Upto.{past_bounds, pushed_put, pushed_bound, put_bound, set_goes, insert_goes}
use Rattle.tk_restore.proofs.rising.RisingPairs.put.Goals as goal

pub invariant_of-self : goal.invariant_of-self
invariant_of-self c =
    subst (λ (l : List Pair). Rising Hash l × AllUpto c.args.hash l) (sym c.in_err-push.ensures.err)
    (c.self.invariant.0, past_bounds c.self.inside.last c.args.hash c.self.inside.pairs c.self.invariant.1 (sym c.is_past.ensures ∙ c.if-is_past.true))

pub invariant_of-self-then-is_past : goal.invariant_of-self-then-is_past
invariant_of-self-then-is_past c =
    subst (λ (l : List Pair). Rising Hash l × AllUpto c.args.hash l) (sym c.in_ok-push.ensures.ok)
    (pushed_bound c.self.inside.last c.args.hash c.args.pair c.self.inside.pairs c.self.invariant c.requires (sym c.is_past.ensures ∙ c.if-is_past.true))

pub returns-then-is_past : goal.returns-then-is_past
returns-then-is_past c =
    c.in_ok-push.ensures.ok
    ∙ pushed_put c.self.inside.last c.args.hash c.args.pair c.self.inside.pairs c.self.invariant c.requires (sym c.is_past.ensures ∙ c.if-is_past.true)
    ∙ ap (put Hash c.args.pair) c.self.view_is

pub invariant_of-self-in-Ok : goal.invariant_of-self-in-Ok
invariant_of-self-in-Ok c =
    put_bound c.self.inside.last c.args.hash c.args.pair c.self.inside.pairs c.self.invariant c.requires c.set.new.self
    (c.set.ensures ∙ set_goes _ _ c.self.inside.pairs c.in-Ok.i c.args.pair c.in-Ok.ensures.goes c.as_slice-2.ensures c.as_slice.ensures) (sym c.is_past.ensures ∙ c.if-is_past.false)

pub invariant_of-self-in-Continue-branch-2 : goal.invariant_of-self-in-Continue-branch-2
invariant_of-self-in-Continue-branch-2 c =
    put_bound c.self.inside.last c.args.hash c.args.pair c.self.inside.pairs c.self.invariant c.requires c.insert.new.self
    (c.in_ok-insert-in-Err.ensures.ok ∙ insert_goes _ _ c.self.inside.pairs c.in-Err.i c.args.pair c.in-Err.ensures.goes c.as_slice-2.ensures c.as_slice.ensures) (sym c.is_past.ensures ∙ c.if-is_past.false)
