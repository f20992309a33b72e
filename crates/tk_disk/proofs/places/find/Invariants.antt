use Rattle.std.proofs.Common.{take}
use Rattle.tk_disk.specs.Places.{IsAbsent}
use Rattle.tk_disk.proofs.places.find.Given as goal

abbrev pub invariant-loop-i : goal.invariant-loop-i
invariant-loop-i g l = IsAbsent (take l.i l.places) l.name
