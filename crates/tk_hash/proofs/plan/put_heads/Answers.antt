use Rattle.tk_hash.proofs.plan.put_heads.Goals as goal

pub returns-in-Cleared-clause-written : goal.returns-in-Cleared-clause-written
returns-in-Cleared-clause-written g c = rw c.in-Cleared.is c.put_zeros.ensures.written
