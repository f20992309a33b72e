use Rattle.tk_calls.proofs.Calm.{seen_all}
use Rattle.tk_calls.proofs.law.replies_say_what_stands_there.Goals as goal

pub returns : goal.returns
returns c = seen_all
