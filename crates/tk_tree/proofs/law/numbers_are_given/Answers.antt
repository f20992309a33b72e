use Rattle.tk_tree.proofs.Given.{numbers_given, numbers_grow}
use Rattle.tk_tree.proofs.law.numbers_are_given.Goals as goal

pub returns-clause-once : goal.returns-clause-once
returns-clause-once c = numbers_given

pub returns-clause-grow : goal.returns-clause-grow
returns-clause-grow c = numbers_grow
