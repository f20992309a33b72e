use Rattle.std.proofs.Common.{sym, ◌∙◌}
use Rattle.tk_model.proofs.PlaceSteps.{goes_at}
use Rattle.tk_model.specs.declared.record.Order.TheVariants.{Hash}
use Rattle.tk_store.proofs.hashed.place_to_put.Goals as goal

pub returns-in-Equal : goal.returns-in-Equal
returns-in-Equal c =
    goes_at Hash c.args.key.now c.args.pairs.now c.loop-i.i c.index-pairs-i.result c.loop-i-test.true c.index-pairs-i.is
    (sym c.compare.ensures ∙ c.in-Equal.is) c.loop-i.invariant
