use Rattle.std.proofs.Common.{◌≡◌, ◌+◌, ◌-◌, ◌%◌, ◌^◌, ℕ, ap, sym, ◌∙◌, arith}
use Rattle.tk_skipfile.proofs.LevelSteps.{height_more}
use Rattle.tk_skipfile.proofs.levels.height_of.Goals as goal

pub loop-level-preserved : goal.loop-level-preserved
loop-level-preserved c =
    let level = c.loop-level.level in
    let divides : c.args.i % 4 ^ level ≡ 0 = ap (λ (n : ℕ). c.args.i % n) (sym c.step_of.ensures.value) ∙ c.if-i-step_of-ne0.false in
    let more = height_more (c.args.levels - level) (c.args.levels - (level + 1)) level c.args.i (omega arith) divides in
    omega (arith, more, c.loop-level.invariant)
