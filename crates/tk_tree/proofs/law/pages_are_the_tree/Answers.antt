use Rattle.tk_tree.proofs.Stored.{others_stay, update_stored, fronts_stored}
use Rattle.tk_tree.proofs.Lying.{file_read}
use Rattle.tk_tree.proofs.law.pages_are_the_tree.Goals as goal

pub returns-clause-others : goal.returns-clause-others
returns-clause-others c = others_stay

pub returns-clause-stored : goal.returns-clause-stored
returns-clause-stored c = update_stored

pub returns-clause-fronts : goal.returns-clause-fronts
returns-clause-fronts c = fronts_stored

pub returns-clause-read : goal.returns-clause-read
returns-clause-read c = file_read
