use Rattle.tk_derived_tests.proofs.row.calls.Goals as goal

pub set-requires-clause-law : goal.set-requires-clause-law
set-requires-clause-law g c = λ a b m n rising met legal. c.requires.law _

pub remove-requires-clause-law : goal.remove-requires-clause-law
remove-requires-clause-law g c = λ a b m n rising met legal. c.requires.law _

pub append-requires-clause-law : goal.append-requires-clause-law
append-requires-clause-law g c = λ a b m n rising met legal. c.requires.law _
