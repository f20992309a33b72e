use Rattle.std.proofs.Common.{◌≡◌, true}
use Rattle.std.proofs.lemmas.Result.{IfOk-weaker}
use Rattle.tk_core.specs.declared.moves.Move.TheVariants as moves
use Rattle.tk_core.specs.Commits.{records_of}
use Rattle.tk_core.specs.Program.{IsAnswer}
use Rattle.tk_core.proofs.RunRows.{records_stay}
use Rattle.tk_core.proofs.machine.Core.step.Goals as goal

pub returns-in-Take-clause-records : goal.returns-in-Take-clause-records
returns-in-Take-clause-records c =
    IfOk-weaker c.take.result (λ done. IsAnswer (moves.Take c.in-Take.caller c.in-Take.lock) c.args.self.now c.take.new.self done) (λ done. done ≡ true → c.args.records.now ≡ records_of c.take.new.self)
    (λ done a. records_stay (moves.Take c.in-Take.caller c.in-Take.lock) tt c.args.self.now c.take.new.self c.args.records.now done c.requires a) c.take.ensures.answer

pub returns-in-Give-clause-records : goal.returns-in-Give-clause-records
returns-in-Give-clause-records c =
    IfOk-weaker c.give.result (λ done. IsAnswer (moves.Give c.in-Give.caller c.in-Give.lock) c.args.self.now c.give.new.self done) (λ done. done ≡ true → c.args.records.now ≡ records_of c.give.new.self)
    (λ done a. records_stay (moves.Give c.in-Give.caller c.in-Give.lock) tt c.args.self.now c.give.new.self c.args.records.now done c.requires a) c.give.ensures.answer
