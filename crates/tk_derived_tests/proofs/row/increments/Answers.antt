use Rattle.tk_derived_tests.proofs.row.increments.Goals as goal

pub increment-answer-requires-clause-law : goal.increment-answer-requires-clause-law
increment-answer-requires-clause-law g c = λ a b m n rising met legal. c.requires.law _
