use Rattle.std.proofs.Common.{List, ℕ, sym, subst}
use Rattle.tk_block.specs.Blocks.{IsSmall}
use Rattle.tk_restore.proofs.Sizes.{small_item}
use Rattle.tk_restore.proofs.changes.sets_of.Goals as goal

pub push-requires : goal.push-requires
push-requires c =
    subst (λ (k : List ℕ). IsSmall k c.as_slice-in-loop-pair.result.now) (sym c.as_slice.ensures)
    (subst (λ (v : List ℕ). IsSmall c.pair-item.result.key v) (sym c.as_slice-in-loop-pair.ensures)
    (small_item c.args.pairs.now c.loop-pair.pair-index c.pair-item.result c.requires c.loop-pair-test.true c.pair-item.is))
