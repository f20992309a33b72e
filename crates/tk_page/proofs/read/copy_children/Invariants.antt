use Rattle.std.proofs.Common.{◌≡◌, take}
use Rattle.tk_page.specs.View.{children_seen}
use Rattle.tk_page.proofs.read.copy_children.Given as goal

abbrev pub invariant-loop-here : goal.invariant-loop-here
invariant-loop-here l = l.copies ≡ children_seen (take l.here-index l.children)
