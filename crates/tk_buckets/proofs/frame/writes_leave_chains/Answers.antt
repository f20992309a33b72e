use Rattle.tk_buckets.proofs.Frames.{writes_leave_chains}
use Rattle.tk_buckets.proofs.frame.writes_leave_chains.Goals as goal

pub returns : goal.returns
returns c = record { chains = writes_leave_chains }
