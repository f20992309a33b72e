use Rattle.std.proofs.Common.{◌≡◌, ◌++◌, take}
use Rattle.tk_flat.specs.Flat.{flat_text}
use Rattle.tk_flat.proofs.flat.write_flat.Given as goal

abbrev pub invariant-loop-pair : goal.invariant-loop-pair
invariant-loop-pair l = l.out ≡ l.fn.out ++ flat_text (take l.pair-index l.pair-items)
