use Rattle.tk_append.proofs.Rereading.{upto_end}
use Rattle.tk_append.proofs.restore.groups_of.Goals as goal

pub returns : goal.returns
returns c = upto_end c.args.head.now c.args.bytes.now c.loop-place.place c.loop-place.reading c.loop-place.invariant c.loop-place-test.false
