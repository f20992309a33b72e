use Rattle.tk_update.proofs.KeptKeys.{keeps_keys}
use Rattle.tk_update.proofs.SpelledSteps.{safe_less, pasts_keep}
use Rattle.tk_update.proofs.law.images_keep_keys.Goals as goal

pub returns : goal.returns
returns c = record { keys = keeps_keys; pasts = pasts_keep; less = safe_less }
