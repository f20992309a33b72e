use Rattle.std.proofs.Common.{◌≡◌, ◌-◌}
use Rattle.tk_page.specs.Page.{child_at, child_size, items_in}
use Rattle.tk_page.specs.View.{children_seen}
use Rattle.tk_page.proofs.Reading.{with_front}
use Rattle.tk_page.proofs.view.children_here.Given as goal

abbrev pub invariant-loop-done : goal.invariant-loop-done
invariant-loop-done l = with_front (children_seen l.children) (items_in child_at child_size (l.count - l.done) l.rest) ≡ items_in child_at child_size l.count l.bytes
