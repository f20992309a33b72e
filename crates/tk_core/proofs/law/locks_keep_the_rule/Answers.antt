use Rattle.tk_core.proofs.Locks.{takes_stripe, takes_store, misses, gives_stripe, gives_store, looks}
use Rattle.tk_core.proofs.law.locks_keep_the_rule.Goals as goal

pub returns-clause-locks : goal.returns-clause-locks
returns-clause-locks c = record {
  take_stripe = λ s id v l sound at low may. takes_stripe _ _ _ _ _ _ _ _ _ sound id v at l low may;
  take_store = λ s id v i sound at may. takes_store _ _ _ _ _ _ _ _ _ sound id v at i may;
  miss = λ s id v l sound at may. misses _ _ _ _ _ _ _ _ _ sound id v at l may;
  give_stripe = λ s id v l sound at may. gives_stripe _ _ _ _ _ _ _ _ _ sound id v at l may;
  give_store = λ s id v i sound at may. gives_store _ _ _ _ _ _ _ _ _ sound id v at i may;
}

pub returns-clause-look : goal.returns-clause-look
returns-clause-look c = λ s id v sound at may. looks _ _ _ _ _ _ _ _ _ sound id v at may
