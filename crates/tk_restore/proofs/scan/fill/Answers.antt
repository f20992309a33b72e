use Rattle.tk_restore.proofs.Steps.{short_kept}
use Rattle.tk_restore.proofs.scan.fill.Goals as goal

pub returns-in-Err-BrokenAt-clause-cause : goal.returns-in-Err-BrokenAt-clause-cause
returns-in-Err-BrokenAt-clause-cause g c = record {
  later = c.in-Err-BrokenAt.ensures.cause.later;
  kept = short_kept c.in-Err-BrokenAt.field-0 c.in-Err-BrokenAt.field-0-0 _ _ c.in-Err-BrokenAt.field-0-is c.in-Err-BrokenAt.ensures.short;
  fault = λ never. absurd (cc never);
}
