use Rattle.std.proofs.Common.{◌≡◌, ◌++◌, drop, map}
use Rattle.tk_model.specs.declared.record.Touch.{Touch}
use Rattle.tk_calls.proofs.plain.lists.seen_fields.Given as goal

abbrev pub invariant-loop-touch : goal.invariant-loop-touch
invariant-loop-touch l = l.fields ++ map (λ (t : Touch). t.was) (drop l.touch-index l.touches) ≡ map (λ (t : Touch). t.was) l.touches
