use Rattle.std.proofs.Common.{refl, ◌∙◌, sym, ap}
use Rattle.std.specs.Ordering.{is_lt}
use Rattle.tk_page.specs.Search.{RestRises}
use Rattle.tk_page.specs.View.{children_seen}
use Rattle.tk_page.proofs.Searching.{children_short, children_step}
use Rattle.tk_page.proofs.search.children_rise.Goals as goal

pub loop-rest-preserved : goal.loop-rest-preserved
loop-rest-preserved c = children_step _ c.args.order.now (RestRises c.args.order.now (children_seen c.args.children.now)) c.loop-rest.rest.now c.in-len2-up.len_at_least (ap is_lt (sym c.compare.ensures.value) ∙ sym c.is_lt.ensures ∙ c.if-not-is_lt.false) c.loop-rest.invariant

pub returns : goal.returns
returns c = (λ _. c.loop-rest.invariant.0 (children_short c.args.order.now c.loop-rest.rest.now c.in_default-rest.len_below), λ _. refl)
