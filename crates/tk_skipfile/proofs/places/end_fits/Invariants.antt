use Rattle.std.proofs.Common.{◌≡◌, ◌<◌, ◌^◌, drop}
use Rattle.tk_skipfile.specs.SkipText.{end_from}
use Rattle.tk_skipfile.proofs.places.end_fits.Given as goal

abbrev pub invariant-loop-i : goal.invariant-loop-i
invariant-loop-i l = record {
  end : end_from l.levels l.i l.place (drop l.i l.pairs) ≡ end_from l.levels 0 32 l.pairs;
  small : l.place < 2 ^ 41;
}
