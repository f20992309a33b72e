use Rattle.std.proofs.Common.{◌≡◌, take}
use Rattle.tk_page.specs.View.{records_seen}
use Rattle.tk_page.proofs.read.copy_records.Given as goal

abbrev pub invariant-loop-here : goal.invariant-loop-here
invariant-loop-here l = l.pairs ≡ records_seen (take l.here-index l.records)
