use Rattle.std.proofs.Common.{◌≡◌, ◌-◌}
use Rattle.tk_model.specs.RecordText.{record_at, record_size}
use Rattle.tk_page.specs.Page.{items_in}
use Rattle.tk_page.specs.View.{records_seen}
use Rattle.tk_page.proofs.Reading.{with_front}
use Rattle.tk_page.proofs.view.records_here.Given as goal

abbrev pub invariant-loop-done : goal.invariant-loop-done
invariant-loop-done l = with_front (records_seen l.records) (items_in record_at record_size (l.count - l.done) l.rest) ≡ items_in record_at record_size l.count l.bytes
