use Rattle.std.proofs.Common.{◌≡◌, false, arith, rules}
use Rattle.std.proofs.lemmas.List.Elements.{All-more}
use Rattle.tk_flat.specs.Escapes.{needs_escape}
use Rattle.tk_flat.proofs.field.plain_front.Goals as goal

pub loop-at-preserved : goal.loop-at-preserved
loop-at-preserved c = All-more (λ b. needs_escape b ≡ false) c.args.bytes.now c.loop-at.at 0 (omega arith) c.loop-at.invariant (search rules)
