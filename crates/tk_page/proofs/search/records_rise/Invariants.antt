use Rattle.std.proofs.Common.{◌↔◌, length}
use Rattle.tk_model.specs.Records.{Rising}
use Rattle.tk_page.specs.View.{records_seen}
use Rattle.tk_page.proofs.search.records_rise.Given as goal

abbrev pub invariant-loop-rest : goal.invariant-loop-rest
invariant-loop-rest l = Rising l.order (records_seen l.rest) ↔ Rising l.order (records_seen l.records)

abbrev pub decreases-loop-rest : goal.decreases-loop-rest
decreases-loop-rest l = length l.rest
