use Rattle.tk_calls.proofs.Calm.{calm}
use Rattle.tk_calls.proofs.law.replies_are_calm.Goals as goal

pub returns : goal.returns
returns c = calm
