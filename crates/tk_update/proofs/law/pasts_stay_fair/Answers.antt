use Rattle.tk_update.proofs.FairSteps.{stays_fair}
use Rattle.tk_update.proofs.LeftPasts.{left_by_past}
use Rattle.tk_update.proofs.law.pasts_stay_fair.Goals as goal

pub returns : goal.returns
returns c = record { left = left_by_past; fair = stays_fair }
