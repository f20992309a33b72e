use Rattle.std.proofs.Common.{arith}
use Rattle.tk_model.proofs.RecordTexts.{front_found, front_again}
use Rattle.tk_model.proofs.text.record_here.Goals as goal

pub returns-clause-found : goal.returns-clause-found
returns-clause-found c =
    front_found c.args.bytes.now c.front_record.result (λ i. omega (arith, c.type_inv.bytes i)) c.front_record.ensures.value c.front_record.ensures.rest

pub returns-clause-again : goal.returns-clause-again
returns-clause-again c = front_again c.args.bytes.now c.front_record.result c.front_record.ensures.value
