use Rattle.std.proofs.Common.{sym, ◌∙◌, ap}
use Rattle.tk_model.specs.Records.{first_within}
use Rattle.tk_model.specs.declared.record.Order.TheVariants.{Hash}
use Rattle.tk_store.proofs.Bounds.{first_here, first_later}
use Rattle.tk_store.proofs.hashed.first_from.Goals as goal

pub returns-in-Some : goal.returns-in-Some
returns-in-Some c =
    first_here c.args.bound.now c.args.buckets.now c.loop-i.i c.index-buckets-i.result c.in-Some.pair.now c.loop-i-test.true c.index-buckets-i.is
    (c.in-Some.ensures ∙ ap (first_within Hash c.args.bound.now) c.as_slice.ensures) ∙ c.loop-i.invariant

pub loop-i-preserved : goal.loop-i-preserved
loop-i-preserved c =
    first_later c.args.bound.now c.args.buckets.now c.loop-i.i c.index-buckets-i.result c.loop-i-test.true c.index-buckets-i.is
    (ap (first_within Hash c.args.bound.now) (sym c.as_slice.ensures) ∙ sym c.in_default.ensures) ∙ c.loop-i.invariant
