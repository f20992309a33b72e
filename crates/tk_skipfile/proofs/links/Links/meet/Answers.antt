use Rattle.std.proofs.Common.{◌≡◌, ◌+◌, ◌^◌, ◌<◌, ◌⊎◌, inl, inr, ◌∙◌, ℕ, List, ap, subst, sym, refl, arith}
use Rattle.std.specs.Prelude.{Option}
use Rattle.std.proofs.Math.ListN.{set}
use Rattle.tk_skipfile.specs.Opening.{AnyFails}
use Rattle.tk_skipfile.specs.Walking.{Lowest}
use Rattle.tk_skipfile.specs.declared.links.Expected.{Expected}
use Rattle.tk_skipfile.proofs.Judging.{met, fault_kept, fault_lowered, behind}
use Rattle.tk_skipfile.proofs.links.Links.meet.Goals as goal

more : (index level step : ℕ) → step ≡ 4 ^ (level + 1) → index + step ≡ index + 4 ^ (1 + level)
more index level step is = ap (λ (n : ℕ). index + n) (is ∙ ap (λ (n : ℕ). 4 ^ n) (let e : level + 1 ≡ 1 + level = omega arith in e))

written : (xs ys : List Expected) (level at index step owner link : ℕ) → at ≡ level → step ≡ 4 ^ (level + 1) → ys ≡ set xs at (record { target = index + step; owner = owner; link = link })
    → ys ≡ set xs level (record { target = index + 4 ^ (1 + level); owner = owner; link = link })
written xs ys level at index step owner link same is e =
    e ∙ ap (λ (n : ℕ). set xs n (record { target = index + step; owner = owner; link = link })) same
    ∙ ap (λ (n : ℕ). set xs level (record { target = n; owner = owner; link = link })) (more index level step is)

pub returns-then-link-ne0-clause-follows : goal.returns-then-link-ne0-clause-follows
returns-then-link-ne0-clause-follows c rows places row f m =
    let l = c.args.self.now in
    let step = more c.args.index c.args.level c.step_of.result c.step_of.ensures.value in
    met rows places row l c.args.level c.args.index c.args.owner c.args.link f m c.requires.room c.lower.new.self c.lower.ensures.count
    (written l.expected.items c.lower.new.self.expected.items c.args.level c.from.result c.args.index c.step_of.result c.args.owner c.args.link c.from.ensures c.step_of.ensures.value c.lower.ensures.expected)
    (subst (λ (o : Option ℕ). Lowest (AnyFails l.count (behind rows places row l c.args.level c.args.index c.args.owner c.args.link f m c.requires.room) places) places o) (sym c.lower.ensures.fault)
    (fault_lowered rows places row l c.args.level c.args.index c.args.owner c.args.link f m c.requires.room (omega (arith, step, c.if-target-self.true)) c.if-link-ne0.true))

pub returns-else-target-self-clause-follows : goal.returns-else-target-self-clause-follows
returns-else-target-self-clause-follows c rows places row f m =
    let l = c.args.self.now in
    let step = more c.args.index c.args.level c.step_of.result c.step_of.ensures.value in
    let fine : (c.args.index + 4 ^ (1 + c.args.level) < l.count) ⊎ (c.args.link ≡ 0) = elim c.else-target-self.branch [
      | goal.else-target-self-via-then-target-self+else-link-ne0 w ↦ inr w.if-link-ne0.false
      | goal.else-target-self-via-else-target-self w ↦ inl (omega (arith, step, w.if-target-self.false))
    ] in
    met rows places row l c.args.level c.args.index c.args.owner c.args.link f m c.requires.room _ refl
    (written l.expected.items _ c.args.level c.from.result c.args.index c.step_of.result c.args.owner c.args.link c.from.ensures c.step_of.ensures.value refl)
    (fault_kept rows places row l c.args.level c.args.index c.args.owner c.args.link f m c.requires.room fine)
