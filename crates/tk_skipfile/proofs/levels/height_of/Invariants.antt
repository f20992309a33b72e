use Rattle.std.proofs.Common.{◌≡◌, ◌+◌, ◌-◌}
use Rattle.tk_skipfile.specs.SkipText.{height, height_from}
use Rattle.tk_skipfile.proofs.levels.height_of.Given as goal

abbrev pub invariant-loop-level : goal.invariant-loop-level
invariant-loop-level l = height_from (l.levels - l.level) l.level l.i + (l.level - 1) ≡ height l.levels l.i
