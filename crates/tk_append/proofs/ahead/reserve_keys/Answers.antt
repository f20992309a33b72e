use Rattle.tk_append.proofs.KeySteps.{moved_keys}
use Rattle.tk_append.proofs.ahead.reserve_keys.Goals as goal

pub returns : goal.returns
returns c pairs h = moved_keys c.args.set.now c.reserve.new.self pairs c.reserve.ensures.keys.0 c.reserve.ensures.keys.1 h
