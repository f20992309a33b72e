use Rattle.std.proofs.Common.{refl, ◌∙◌, sym, ap}
use Rattle.std.specs.Ordering.{is_lt}
use Rattle.tk_model.specs.Records.{Rising}
use Rattle.tk_page.specs.View.{records_seen}
use Rattle.tk_page.proofs.Searching.{records_short, records_step}
use Rattle.tk_page.proofs.search.records_rise.Goals as goal

pub loop-rest-preserved : goal.loop-rest-preserved
loop-rest-preserved c = records_step _ c.args.order.now (Rising c.args.order.now (records_seen c.args.records.now)) c.loop-rest.rest.now c.in-len2-up.len_at_least (ap is_lt (sym c.compare.ensures.value) ∙ sym c.is_lt.ensures ∙ c.if-not-is_lt.false) c.loop-rest.invariant

pub returns : goal.returns
returns c = (λ _. c.loop-rest.invariant.0 (records_short c.args.order.now c.loop-rest.rest.now c.in_default.len_below), λ _. refl)
