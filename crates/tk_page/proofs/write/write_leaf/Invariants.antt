use Rattle.std.proofs.Common.{◌≡◌, ◌++◌, length, take}
use Rattle.std.specs.List.{flat_map}
use Rattle.tk_model.specs.RecordText.{record_text}
use Rattle.tk_page.specs.Page.{front_text}
use Rattle.tk_page.proofs.write.write_leaf.Given as goal

abbrev pub invariant-loop-pair : goal.invariant-loop-pair
invariant-loop-pair l = l.out ≡ l.fn.out ++ (front_text 1 (length l.pairs) ++ flat_map record_text (take l.pair-index l.pair-items))
