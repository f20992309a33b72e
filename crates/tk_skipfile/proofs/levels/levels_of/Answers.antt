use Rattle.std.proofs.Common.{◌+◌, ◌-◌, sym, ◌∙◌, arith}
use Rattle.tk_skipfile.proofs.LevelSteps.{levels_found, levels_more, levels_end}
use Rattle.tk_skipfile.proofs.levels.levels_of.Goals as goal

pub returns-then-count-step_of-clause-value : goal.returns-then-count-step_of-clause-value
returns-then-count-step_of-clause-value c =
    let k = c.loop-levels.levels in
    sym (levels_found (32 - k) k c.args.count (omega arith) (omega (arith, c.step_of.ensures.value))) ∙ c.loop-levels.invariant

pub loop-levels-preserved : goal.loop-levels-preserved
loop-levels-preserved c =
    let k = c.loop-levels.levels in
    sym (levels_more (32 - k) (32 - (k + 1)) k c.args.count (omega arith) (omega (arith, c.step_of.ensures.value))) ∙ c.loop-levels.invariant

pub returns-clause-value : goal.returns-clause-value
returns-clause-value c =
    let k = c.loop-levels.levels in
    omega (arith, levels_end (32 - k) k c.args.count (omega arith), c.loop-levels.invariant)
