use Rattle.std.proofs.Common.{take}
use Rattle.tk_core.specs.Lists.{AllBelow}
use Rattle.tk_core.proofs.steps.is_above.Given as goal

abbrev pub invariant-loop-other : goal.invariant-loop-other
invariant-loop-other l = AllBelow l.lock (take l.other-index l.held)
