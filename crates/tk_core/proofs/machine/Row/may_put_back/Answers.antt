use Rattle.std.proofs.Common.{◌≡◌, true, [], not, sym, subst, ap, ◌∙◌}
use Rattle.tk_core.specs.Lists.{has}
use Rattle.tk_core.proofs.Facts.{not_both, false_unless}
use Rattle.tk_core.proofs.Rows.{not_true}
use Rattle.tk_core.proofs.machine.Row.may_put_back.Goals as goal

pub returns-else-broken : goal.returns-else-broken
returns-else-broken c = (
  λ e. (c.if-not-self.false, subst (λ xs. has c.args.store xs ≡ true) c.deref.ensures.value (sym c.holds.ensures ∙ c.if-not-holds.false), λ k. absurd (not_both c.knows_broken.result (c.knows_broken.ensures [] ∙ k) (not_true c.knows_broken.result e))),
  λ m. ap not (false_unless c.knows_broken.result (λ k. not_both c.args.broken (m.2 (sym (c.knows_broken.ensures []) ∙ k)) c.if-broken.false)),
)
