use Rattle.std.proofs.Common.{◌≡◌, ◌-◌}
use Rattle.tk_skipfile.specs.SkipText.{levels_of, levels_from}
use Rattle.tk_skipfile.proofs.levels.levels_of.Given as goal

abbrev pub invariant-loop-levels : goal.invariant-loop-levels
invariant-loop-levels l = levels_from (32 - l.levels) l.levels l.count ≡ levels_of l.count
