use Rattle.tk_update.proofs.ReadSteps.{read_first, read_whole}
use Rattle.tk_update.proofs.restore.blocks_of.Goals as goal

pub loop-place-init : goal.loop-place-init
loop-place-init c = read_first c.args.head.now c.args.bytes.now c.base_of-place.result c.new-blocks.result c.base_of-place.ensures c.new-blocks.ensures

pub returns : goal.returns
returns c = read_whole c.args.head.now c.args.bytes.now c.loop-place.place c.loop-place.blocks c.loop-place-test.false c.loop-place.invariant
