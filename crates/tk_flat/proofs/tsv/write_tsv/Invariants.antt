use Rattle.std.proofs.Common.{◌≡◌, ◌++◌, take, All}
use Rattle.tk_flat.specs.Tsv.{IsReadBack, tsv_text}
use Rattle.tk_flat.proofs.tsv.write_tsv.Given as goal

abbrev pub invariant-loop-pair : goal.invariant-loop-pair
invariant-loop-pair l =
    (l.out ≡ l.initial.out ++ tsv_text (take l.pair-index l.pair-items)) × All IsReadBack (take l.pair-index l.pair-items)
