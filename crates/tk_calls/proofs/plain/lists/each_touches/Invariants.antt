use Rattle.std.proofs.Common.{◌≡◌, ◌++◌, drop, map}
use Rattle.tk_calls.specs.Replies.{each_touch}
use Rattle.tk_calls.proofs.plain.lists.each_touches.Given as goal

abbrev pub invariant-loop-pair : goal.invariant-loop-pair
invariant-loop-pair l = l.touches ++ map (each_touch l.value) (drop l.pair-index l.records) ≡ map (each_touch l.value) l.records
