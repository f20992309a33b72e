use Rattle.tk_append.proofs.Fair.{fair_restores}
use Rattle.tk_append.proofs.FairPasts.{fair_more, fair_written, fair_settled}
use Rattle.tk_append.proofs.FreshPasts.{whole_restores}
use Rattle.tk_append.proofs.law.fair_pasts_restore.Goals as goal

pub returns : goal.returns
returns c = record { restored = fair_restores; whole = whole_restores; more = fair_more; written = fair_written; settled = fair_settled }
