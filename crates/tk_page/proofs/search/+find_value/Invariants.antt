use Rattle.std.proofs.Common.{length}
use Rattle.tk_page.proofs.search.+find_value.Given as goal

abbrev pub decreases-find_value : goal.decreases-find_value
decreases-find_value l = length l.records.now
