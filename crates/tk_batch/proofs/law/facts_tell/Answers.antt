use Rattle.tk_batch.proofs.Tells.{facts_tell}
use Rattle.tk_batch.proofs.law.facts_tell.Goals as goal

pub returns : goal.returns
returns c = facts_tell
