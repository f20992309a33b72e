use Rattle.tk_append.proofs.KeySteps.{drop_keys}
use Rattle.tk_append.proofs.keys.change_keys.Goals as goal

pub returns-in-2 : goal.returns-in-2
returns-in-2 c pairs h = rw c.in-2.is (drop_keys c.args.keys.now c.remove.new.self c.args.block.key.now c.remove.result pairs c.remove.ensures.test c.remove.ensures.updates c.remove.ensures.len h)
