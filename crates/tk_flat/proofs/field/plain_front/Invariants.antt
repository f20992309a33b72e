use Rattle.std.proofs.Common.{◌≡◌, false, take, All}
use Rattle.tk_flat.specs.Escapes.{needs_escape}
use Rattle.tk_flat.proofs.field.plain_front.Given as goal

abbrev pub invariant-loop-at : goal.invariant-loop-at
invariant-loop-at l = All (λ b. needs_escape b ≡ false) (take l.at l.bytes)
