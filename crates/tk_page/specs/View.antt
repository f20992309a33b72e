-- Pages as they lie in their text, without the bytes behind their parts.
use Rattle.std.specs.Prelude.{List, map}
use Rattle.tk_model.specs.RecordText.{pair_here}
use Rattle.tk_model.specs.declared.record.Pair.{Pair}
use Rattle.tk_model.specs.declared.text.RecordHere.{RecordHere}
use Rattle.tk_page.specs.declared.page.Child.{Child}
use Rattle.tk_page.specs.declared.page.Page.{Page}
use Rattle.tk_page.specs.declared.page.Page.TheVariants as pages
use Rattle.tk_page.specs.declared.view.ChildHere.{ChildHere}
use Rattle.tk_page.specs.declared.view.PageHere.{PageHere}
use Rattle.tk_page.specs.declared.view.PageHere.TheVariants as here

abbrev pub child_seen : ChildHere → Child
child_seen child = record { page = child.page; key = child.key.now }

abbrev pub records_seen : List RecordHere → List Pair
records_seen records = map pair_here records

abbrev pub children_seen : List ChildHere → List Child
children_seen children = map child_seen children

abbrev pub page_seen : PageHere → Page
page_seen (here.Leaf records) = pages.Leaf (records_seen records)
page_seen (here.Inner children) = pages.Inner (children_seen children)
