use Rattle.std.proofs.Common.{◌≡◌, ◌++◌, drop}
use Rattle.tk_skipfile.specs.SkipText.{places_from, end_from}
use Rattle.tk_skipfile.proofs.places.places_of.Given as goal

abbrev pub invariant-loop-i : goal.invariant-loop-i
invariant-loop-i l = record {
  places : l.places.items ++ places_from l.levels l.i l.place (drop l.i l.pairs) ≡ places_from l.levels 0 32 l.pairs;
  end : end_from l.levels l.i l.place (drop l.i l.pairs) ≡ end_from l.levels 0 32 l.pairs;
}
