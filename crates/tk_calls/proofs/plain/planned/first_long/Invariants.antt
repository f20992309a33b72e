use Rattle.std.proofs.Common.{◌≡◌, drop}
use Rattle.tk_proc.specs.Runs.{first_long}
use Rattle.tk_calls.proofs.plain.planned.first_long.Given as goal

abbrev pub invariant-loop-touch : goal.invariant-loop-touch
invariant-loop-touch l = first_long l.touches ≡ first_long (drop l.touch-index l.touches)
