use Rattle.std.proofs.Common.{rules, ◌≡◌, true, false, sym, subst, ◌∙◌, Decides}
use Rattle.tk_core.specs.Needs.{IsIdle}
use Rattle.tk_core.specs.Program.{CoreState, AnyCaller}
use Rattle.tk_core.proofs.Rows.{nobody, decides, empty_list}
use Rattle.tk_core.proofs.machine.Core.is_idle.Goals as goal

pub returns-then-at-len : goal.returns-then-at-len
returns-then-at-len c = subst (λ (s : CoreState). Decides false (AnyCaller s c.args.caller IsIdle)) c.self.view_is (λ e. absurd (cc e), λ a. absurd (nobody c.self.inside.log.items c.self.inside.rows.items c.args.caller IsIdle (search rules) a))

pub returns-then-not-row : goal.returns-then-not-row
returns-then-not-row c =
    subst (λ (s : CoreState). Decides false (AnyCaller s c.args.caller IsIdle)) c.self.view_is
    (decides c.self.inside.log.items c.self.inside.rows.items c.args.caller c.index-row.result.now (search rules) c.index-row.ensures IsIdle false (λ e. absurd (cc e)) (λ m. let e : c.index-row.result.now.live ≡ true = m.0 in absurd (search rules)))

pub returns : goal.returns
returns c =
    let empty = empty_list c.index-row.result.now.held.items c.index-row.result.now.held.len c.index-row.result.now.held.ok.0 in
    subst (λ (s : CoreState). Decides c.is_empty.result (AnyCaller s c.args.caller IsIdle)) c.self.view_is
    (decides c.self.inside.log.items c.self.inside.rows.items c.args.caller c.index-row.result.now (search rules) c.index-row.ensures IsIdle c.is_empty.result (λ e. (c.if-not-row.false, empty.0 (sym c.is_empty.ensures ∙ e))) (λ m. c.is_empty.ensures ∙ empty.1 m.1))
