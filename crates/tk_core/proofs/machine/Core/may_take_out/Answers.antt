use Rattle.std.proofs.Common.{rules, ◌≡◌, true, false, ◌+◌, not, sym, ap, subst, ◌∙◌, Decides}
use Rattle.tk_core.specs.Lists.{has}
use Rattle.tk_core.specs.Needs.{MayTakeOut}
use Rattle.tk_core.specs.Program.{CoreState, AnyCaller}
use Rattle.tk_core.proofs.Rows.{nobody, decides, not_true}
use Rattle.tk_core.proofs.machine.Core.may_take_out.Goals as goal

pub returns-then-at-len : goal.returns-then-at-len
returns-then-at-len c =
    subst (λ (s : CoreState). Decides false (AnyCaller s c.args.caller (MayTakeOut s.frame c.args.store))) c.self.view_is
    (λ e. absurd (cc e), λ a. absurd (nobody c.self.inside.log.items c.self.inside.rows.items c.args.caller (MayTakeOut c.self.inside.frame c.args.store) (search rules) a))

pub returns-then-not-row : goal.returns-then-not-row
returns-then-not-row c =
    subst (λ (s : CoreState). Decides false (AnyCaller s c.args.caller (MayTakeOut s.frame c.args.store))) c.self.view_is
    (decides c.self.inside.log.items c.self.inside.rows.items c.args.caller c.index-row.result.now (search rules) c.index-row.ensures (MayTakeOut c.self.inside.frame c.args.store) false (λ e. absurd (cc e)) (λ m. let e : c.index-row.result.now.live ≡ true = m.live in absurd (search rules)))

pub returns-then-not-holds : goal.returns-then-not-holds
returns-then-not-holds c =
    subst (λ (s : CoreState). Decides false (AnyCaller s c.args.caller (MayTakeOut s.frame c.args.store))) c.self.view_is
    (decides c.self.inside.log.items c.self.inside.rows.items c.args.caller c.index-row.result.now (search rules) c.index-row.ensures (MayTakeOut c.self.inside.frame c.args.store) false
    (λ e. absurd (cc e)) (λ m. let h : has (c.self.inside.frame.stripes + c.args.store) c.deref.result.now ≡ true = subst (λ xs. has (c.self.inside.frame.stripes + c.args.store) xs ≡ true) (sym c.deref.ensures.value) m.holds in absurd (cc (h, c.holds.ensures, c.if-not-holds.true))))

pub returns-then-store-self : goal.returns-then-store-self
returns-then-store-self c =
    subst (λ (s : CoreState). Decides false (AnyCaller s c.args.caller (MayTakeOut s.frame c.args.store))) c.self.view_is
    (decides c.self.inside.log.items c.self.inside.rows.items c.args.caller c.index-row.result.now (search rules) c.index-row.ensures (MayTakeOut c.self.inside.frame c.args.store) false
    (λ e. absurd (cc e)) (λ m. let l = m.store in absurd (search rules)))

pub returns : goal.returns
returns c =
    subst (λ (s : CoreState). Decides (not c.holds-2.result) (AnyCaller s c.args.caller (MayTakeOut s.frame c.args.store))) c.self.view_is
    (decides c.self.inside.log.items c.self.inside.rows.items c.args.caller c.index-row.result.now (search rules) c.index-row.ensures (MayTakeOut c.self.inside.frame c.args.store) (not c.holds-2.result)
    (λ e. record {
      live = c.if-not-row.false;
      store = c.if-store-self.false;
      holds = subst (λ xs. has (c.self.inside.frame.stripes + c.args.store) xs ≡ true) c.deref.ensures.value (sym c.holds.ensures ∙ c.if-not-holds.false);
      home = subst (λ xs. has c.args.store xs ≡ false) c.deref-2.ensures.value (sym c.holds-2.ensures ∙ not_true c.holds-2.result e);
    })
    (λ m. ap not (c.holds-2.ensures ∙ subst (λ xs. has c.args.store xs ≡ false) (sym c.deref-2.ensures.value) m.home)))
