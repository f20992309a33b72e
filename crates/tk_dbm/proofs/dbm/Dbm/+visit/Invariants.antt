use Rattle.std.proofs.Common.{length}
use Rattle.tk_dbm.proofs.dbm.Dbm.+visit.Given as goal

abbrev pub decreases-visit : goal.decreases-visit
decreases-visit g l = length l.parts.now
