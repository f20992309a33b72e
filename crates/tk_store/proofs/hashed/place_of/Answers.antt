use Rattle.std.proofs.Common.{sym, ◌∙◌}
use Rattle.tk_model.proofs.PlaceSteps.{found_here}
use Rattle.tk_store.proofs.hashed.place_of.Goals as goal

pub returns-then-has_key : goal.returns-then-has_key
returns-then-has_key c =
    found_here c.args.key.now c.args.pairs.now c.loop-i.i c.index-pairs-i.result c.loop-i-test.true c.index-pairs-i.is
    (sym c.has_key.ensures ∙ c.if-has_key.true) c.loop-i.invariant
