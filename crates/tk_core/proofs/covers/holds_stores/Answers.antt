use Rattle.std.proofs.Common.{◌≡◌, ℕ, ◌+◌, ◌-◌, true, subst, arith}
use Rattle.tk_core.specs.Lists.{has}
use Rattle.tk_core.proofs.covers.holds_stores.Goals as goal

pub returns : goal.returns
returns c = (
  λ t i low. c.holds_each.ensures.0 t (c.args.frame.stripes + i) (omega arith) (omega arith),
  λ h. c.holds_each.ensures.1 (λ l high low.
      let i : ℕ = l - c.args.frame.stripes in
      let e : c.args.frame.stripes + i ≡ l = omega arith in
      subst (λ (z : ℕ). has z c.args.held.now ≡ true) e (h i (omega arith))),
)
