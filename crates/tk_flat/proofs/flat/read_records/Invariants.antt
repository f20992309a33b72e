use Rattle.std.proofs.Common.{length}
use Rattle.tk_flat.proofs.Records.{ReadSoFar}
use Rattle.tk_flat.proofs.flat.read_records.Given as goal

abbrev pub invariant-loop-rest : goal.invariant-loop-rest
invariant-loop-rest l = ReadSoFar l.bytes l.rest l.pairs

abbrev pub decreases-loop-rest : goal.decreases-loop-rest
decreases-loop-rest l = length l.rest
