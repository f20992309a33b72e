use Rattle.tk_derived_tests.proofs.row.gets.Goals as goal

pub get-answer-requires-clause-law : goal.get-answer-requires-clause-law
get-answer-requires-clause-law g c = λ a b m n rising met legal. c.requires.law _
