use Rattle.std.proofs.Common.{sym, refl, arith}
use Rattle.tk_block.specs.Blocks.{body_said}
use Rattle.tk_append.proofs.Rereading.{behind_link, value_small}
use Rattle.tk_update.proofs.ReadSteps.{none_short, inside_so, inside_not}
use Rattle.tk_update.proofs.restore.body_inside.Goals as goal

pub returns-then-bytes-lt-BODY_OFFSET : goal.returns-then-bytes-lt-BODY_OFFSET
returns-then-bytes-lt-BODY_OFFSET c = none_short c.args.extent c.args.place c.args.bytes.now c.if-bytes-lt-BODY_OFFSET.true

pub overflow_add-room-2 : goal.overflow_add-room-2
overflow_add-room-2 c =
    let fits = (c.in_ok-block.ensures.exact.found _ (body_said c.in_ok-block.block) (sym c.in_ok-block.ensures.value)).0 in
    omega (arith, fits.1, value_small (body_said c.in_ok-block.block) fits.0)

pub returns-then-room-extent : goal.returns-then-room-extent
returns-then-room-extent c = inside_so c.args.extent _ (body_said c.in_ok-block.block) _ (behind_link c.args.place c.args.bytes.now _ (sym c.in_ok-block.ensures.value)) refl c.if-room-extent.true

pub returns-else-room-extent : goal.returns-else-room-extent
returns-else-room-extent c = inside_not c.args.extent _ (body_said c.in_ok-block.block) _ (behind_link c.args.place c.args.bytes.now _ (sym c.in_ok-block.ensures.value)) refl (omega (arith, c.if-room-extent.false))
