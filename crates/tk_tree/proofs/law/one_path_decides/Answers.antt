use Rattle.tk_tree.proofs.Lookups.{leaf_decides}
use Rattle.tk_tree.proofs.Searches.{next_is_first, prev_is_last}
use Rattle.tk_tree.proofs.law.one_path_decides.Goals as goal

pub returns-clause-leaf : goal.returns-clause-leaf
returns-clause-leaf c = leaf_decides

pub returns-clause-next : goal.returns-clause-next
returns-clause-next c = next_is_first

pub returns-clause-prev : goal.returns-clause-prev
returns-clause-prev c = prev_is_last
