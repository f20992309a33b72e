use Rattle.tk_disk.proofs.LastSync.{Counted}
use Rattle.tk_disk.proofs.tape.last_sync.Given as goal

abbrev pub invariant-loop-i : goal.invariant-loop-i
invariant-loop-i l = Counted l.steps l.i l.synced.0 l.bytes l.synced.1
