use Rattle.std.proofs.Common.{sym, ◌∙◌, ap, arith, Some}
use Rattle.tk_model.specs.declared.record.Order.TheVariants.{Hash}
use Rattle.tk_model.specs.Records.{reaches}
use Rattle.tk_model.specs.declared.record.Way.TheVariants.{Down}
use Rattle.tk_model.specs.declared.record.Pair.{Pair}
use Rattle.tk_model.proofs.PlaceSteps.{last_here, last_before}
use Rattle.tk_store.proofs.hashed.last_in.Goals as goal

pub returns-then-is_within : goal.returns-then-is_within
returns-then-is_within c =
    ap Some c.pair-pair.ensures ∙ last_here Hash c.args.bound.now c.args.pairs.now c.loop-i.i c.index-pairs-i.result (omega arith) (omega arith) c.index-pairs-i.is
    (ap (λ (p : Pair). reaches Hash Down c.args.bound.now p.key) (sym c.pair-pair.ensures) ∙ ap (reaches Hash Down c.args.bound.now) (sym c.as_slice.ensures) ∙ sym c.is_within.ensures ∙ c.if-is_within.true) c.loop-i.invariant

pub loop-i-preserved : goal.loop-i-preserved
loop-i-preserved c =
    last_before Hash c.args.bound.now c.args.pairs.now c.loop-i.i c.index-pairs-i.result (omega arith) (omega arith) c.index-pairs-i.is
    (ap (λ (p : Pair). reaches Hash Down c.args.bound.now p.key) (sym c.pair-pair.ensures) ∙ ap (reaches Hash Down c.args.bound.now) (sym c.as_slice.ensures) ∙ sym c.is_within.ensures ∙ c.if-is_within.false) c.loop-i.invariant
