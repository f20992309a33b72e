use Rattle.std.proofs.Common.{arith}
use Rattle.tk_model.proofs.Bits.{front_bits}
use Rattle.tk_model.proofs.hash.bucket.Goals as goal

pub returns-else-p-eq0-clause-below : goal.returns-else-p-eq0-clause-below
returns-else-p-eq0-clause-below c = front_bits c.args.mix c.args.p (omega arith) (omega arith)
