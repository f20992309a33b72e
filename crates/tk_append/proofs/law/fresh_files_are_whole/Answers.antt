use Rattle.tk_append.proofs.FreshEnds.{fresh_accepted}
use Rattle.tk_append.proofs.law.fresh_files_are_whole.Goals as goal

pub returns : goal.returns
returns c = record { accepted = fresh_accepted }
