use Rattle.std.proofs.Common.{rules, ◌≡◌, ℕ, suc, ◌+◌, ◌<◌, ◌≤◌, take, get_or, refl, subst, arith}
use Rattle.tk_core.specs.Lists.{AllBelow}
use Rattle.tk_core.proofs.Rows.{above_all, above_next, has_at}
use Rattle.tk_core.proofs.steps.is_above.Goals as goal

pub returns-then-other-lock : goal.returns-then-other-lock
returns-then-other-lock c =
    let x : ℕ = get_or c.args.held.now c.loop-other.other-index 0 in
    (λ e. absurd (cc e), λ h. let less : x < c.args.lock = h x (has_at c.args.held.now c.loop-other.other-index x (search rules) refl) in let more : c.args.lock ≤ x = search rules in absurd (omega (arith, less, more)))

pub loop-other-preserved : goal.loop-other-preserved
loop-other-preserved c =
    let e : suc c.loop-other.other-index ≡ c.loop-other.other-index + 1 = omega arith in
    let x : ℕ = get_or c.args.held.now c.loop-other.other-index 0 in
    subst (λ n. AllBelow c.args.lock (take n c.args.held.now)) e (above_next c.args.lock c.loop-other.other-index x c.args.held.now (search rules) refl c.loop-other.invariant (search rules))

pub returns : goal.returns
returns c = (λ _. above_all c.args.lock c.args.held.now c.loop-other.other-index c.loop-other.invariant (search rules), λ _. refl)
