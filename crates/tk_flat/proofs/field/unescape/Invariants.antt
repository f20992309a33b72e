use Rattle.std.proofs.Common.{◌≡◌, length}
use Rattle.tk_flat.specs.Escapes.{unescaped}
use Rattle.tk_flat.proofs.Fields.{prefixed}
use Rattle.tk_flat.proofs.field.unescape.Given as goal

abbrev pub invariant-loop-run : goal.invariant-loop-run
invariant-loop-run l = unescaped l.field ≡ prefixed l.out (unescaped l.rest)

abbrev pub decreases-loop-run : goal.decreases-loop-run
decreases-loop-run l = length l.rest
