use Rattle.tk_tree.proofs.Updates.{change_stands, update_stands, groups_stand}
use Rattle.tk_tree.proofs.law.updates_stand.Goals as goal

pub returns-clause-change : goal.returns-clause-change
returns-clause-change c = change_stands

pub returns-clause-update : goal.returns-clause-update
returns-clause-update c = update_stands

pub returns-clause-groups : goal.returns-clause-groups
returns-clause-groups c = groups_stand
