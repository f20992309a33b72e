use Rattle.std.proofs.Common.{◌↔◌, length}
use Rattle.tk_page.specs.Search.{ChildrenRise, RestRises}
use Rattle.tk_page.specs.View.{children_seen}
use Rattle.tk_page.proofs.search.children_rise.Given as goal

abbrev pub invariant-loop-rest : goal.invariant-loop-rest
invariant-loop-rest l = ChildrenRise l.order (children_seen l.rest) ↔ RestRises l.order (children_seen l.children)

abbrev pub decreases-loop-rest : goal.decreases-loop-rest
decreases-loop-rest l = length l.rest
