use Rattle.std.proofs.Common.{ℕ, Bool}
use Rattle.tk_block.specs.Text.{base_of}
use Rattle.tk_append.specs.Fresh.{fresh_bodies}
use Rattle.tk_append.proofs.ChainsSteps.{Chained}
use Rattle.tk_append.proofs.chains.chains_of.Given as goal

abbrev pub invariant-loop-pair : goal.invariant-loop-pair
invariant-loop-pair l = (number : ℕ) (each : Bool) → Chained l.p (base_of l.p) (fresh_bodies number each l.pairs) l.pair-index l.heads.items l.links.items l.place
