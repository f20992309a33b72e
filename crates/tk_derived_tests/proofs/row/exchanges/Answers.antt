use Rattle.tk_derived_tests.proofs.row.exchanges.Goals as goal

pub compare_exchange-answer-requires-clause-law : goal.compare_exchange-answer-requires-clause-law
compare_exchange-answer-requires-clause-law g c = λ a b m n rising met legal. c.requires.law _
