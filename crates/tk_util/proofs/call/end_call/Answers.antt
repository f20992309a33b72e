use Rattle.tk_util.proofs.CallSteps.{fault_only}
use Rattle.tk_util.proofs.call.end_call.Goals as goal

pub returns-in-Err-clause-fault : goal.returns-in-Err-clause-fault
returns-in-Err-clause-fault g c = fault_only _ _ c.in-Err.field-0 c.in-Err.ensures.answers c.in-Err.ensures.cause.fault
