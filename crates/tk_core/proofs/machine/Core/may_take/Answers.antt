use Rattle.std.proofs.Common.{rules, ◌≡◌, true, false, get_or, sym, subst, ◌∙◌, Decides}
use Rattle.tk_core.specs.Lists.{AllBelow}
use Rattle.tk_core.specs.Needs.{MayTake}
use Rattle.tk_core.specs.Program.{CoreState, AnyCaller, owner_of}
use Rattle.tk_core.proofs.Rows.{nobody, decides, any_default}
use Rattle.tk_core.proofs.machine.Core.may_take.Goals as goal

pub returns-then-at-len : goal.returns-then-at-len
returns-then-at-len c =
    subst (λ (s : CoreState). Decides false (AnyCaller s c.args.caller (MayTake s.frame (owner_of s) c.args.lock))) c.self.view_is
    (λ e. absurd (cc e), λ a. absurd (nobody c.self.inside.log.items c.self.inside.rows.items c.args.caller (MayTake c.self.inside.frame (λ q. get_or c.self.inside.owners.items q 0) c.args.lock) (search rules) a))

pub returns-then-not-row : goal.returns-then-not-row
returns-then-not-row c =
    subst (λ (s : CoreState). Decides false (AnyCaller s c.args.caller (MayTake s.frame (owner_of s) c.args.lock))) c.self.view_is
    (decides c.self.inside.log.items c.self.inside.rows.items c.args.caller c.index-row.result.now (search rules) c.index-row.ensures (MayTake c.self.inside.frame (λ q. get_or c.self.inside.owners.items q 0) c.args.lock) false (λ e. absurd (cc e)) (λ m. let e : c.index-row.result.now.live ≡ true = m.live in absurd (search rules)))

pub returns-then-not-weighs : goal.returns-then-not-weighs
returns-then-not-weighs c =
    subst (λ (s : CoreState). Decides false (AnyCaller s c.args.caller (MayTake s.frame (owner_of s) c.args.lock))) c.self.view_is
    (decides c.self.inside.log.items c.self.inside.rows.items c.args.caller c.index-row.result.now (search rules) c.index-row.ensures (MayTake c.self.inside.frame (λ q. get_or c.self.inside.owners.items q 0) c.args.lock) false (λ e. absurd (cc e))
    (λ m. absurd (cc ((c.weighs.ensures c.self.inside.log.items).1 m.weighs, c.if-not-weighs.true))))

pub returns : goal.returns
returns c =
    subst (λ (s : CoreState). Decides c.is_above.result (AnyCaller s c.args.caller (MayTake s.frame (owner_of s) c.args.lock))) c.self.view_is
    (decides c.self.inside.log.items c.self.inside.rows.items c.args.caller c.index-row.result.now (search rules) c.index-row.ensures (MayTake c.self.inside.frame (λ q. get_or c.self.inside.owners.items q 0) c.args.lock) c.is_above.result
    (λ e. record {
      live = search rules;
      lock = let n = c.self.invariant.owners in search rules;
      free = any_default c.self.inside.owners.items c.args.lock 0 c.index.result.now (let o = c.self.inside.owners.ok.0 in search rules) ∙ sym c.index.ensures ∙ c.if-index-ne0.false;
      rising = subst (AllBelow c.args.lock) c.deref.ensures.value (c.is_above.ensures.0 e);
      weighs = (c.weighs.ensures c.self.inside.log.items).0 c.if-not-weighs.false;
    })
    (λ m. c.is_above.ensures.1 (subst (AllBelow c.args.lock) (sym c.deref.ensures.value) m.rising)))
