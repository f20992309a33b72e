use Rattle.std.proofs.Common.{◌≡◌, drop}
use Rattle.tk_model.specs.Entries.{all_touched}
use Rattle.tk_model.proofs.plain.after_each.Given as goal

abbrev pub invariant-loop-touch : goal.invariant-loop-touch
invariant-loop-touch l = all_touched l.order (drop l.touch-index l.touches) l.after ≡ all_touched l.order l.touches l.pairs
