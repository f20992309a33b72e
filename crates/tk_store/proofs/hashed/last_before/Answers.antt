use Rattle.std.proofs.Common.{sym, ◌∙◌, ap, arith}
use Rattle.tk_model.specs.Records.{last_within}
use Rattle.tk_model.specs.declared.record.Order.TheVariants.{Hash}
use Rattle.tk_store.proofs.Bounds.{last_here, last_earlier}
use Rattle.tk_store.proofs.hashed.last_before.Goals as goal

pub returns-in-Some : goal.returns-in-Some
returns-in-Some c =
    last_here c.args.bound.now c.args.buckets.now c.loop-i.i c.index-buckets-i.result c.in-Some.pair.now (omega arith) (omega arith) c.index-buckets-i.is
    (c.in-Some.ensures ∙ ap (last_within Hash c.args.bound.now) c.as_slice.ensures) ∙ c.loop-i.invariant

pub loop-i-preserved : goal.loop-i-preserved
loop-i-preserved c =
    last_earlier c.args.bound.now c.args.buckets.now c.loop-i.i c.index-buckets-i.result (omega arith) (omega arith) c.index-buckets-i.is
    (ap (last_within Hash c.args.bound.now) (sym c.as_slice.ensures) ∙ sym c.in_default.ensures) ∙ c.loop-i.invariant
