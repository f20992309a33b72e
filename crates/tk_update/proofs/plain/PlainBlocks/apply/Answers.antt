use Rattle.std.proofs.Common.{◌^◌, sym, ◌∙◌, ap, subst, arith, ◌+◌, ◌*◌}
use Rattle.tk_block.specs.Blocks.{AllSmall}
use Rattle.tk_update.specs.Blocks.{end_behind}
use Rattle.tk_update.proofs.PlainSteps.{small_at, after_more, end_one}
use Rattle.tk_update.proofs.plain.PlainBlocks.apply.Goals as goal

pub change_blocks-requires-clause-small : goal.change_blocks-requires-clause-small
change_blocks-requires-clause-small c =
    small_at c.as_slice-change-items.result.now c.loop-change.change-index c.change-item.result (subst AllSmall (sym c.as_slice-change-items.ensures) c.requires.small) c.loop-change-test.true c.change-item.is

pub loop-change-preserved : goal.loop-change-preserved
loop-change-preserved c =
    let small = small_at c.as_slice-change-items.result.now c.loop-change.change-index c.change-item.result (subst AllSmall (sym c.as_slice-change-items.ensures) c.requires.small) c.loop-change-test.true c.change-item.is in
    let made = c.in_ok-change_blocks.ensures in
    let longer = end_one c.self.inside.base c.args.group.now.number (2 ^ 40 + c.loop-change.change-index * 2 ^ 26) c.change-item.result c.loop-change.after small (omega (arith, c.self.invariant.0)) c.loop-change.invariant.1 in (
      after_more c.self.inside.base c.args.group.now.number c.as_slice-change-items.result.now c.loop-change.change-index c.change-item.result c.loop-change.after c.change_blocks.new.blocks c.loop-change-test.true c.change-item.is made
          ∙ c.loop-change.invariant.0,
      omega (arith, longer, ap (end_behind c.self.inside.base) made),
    )
