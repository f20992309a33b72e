use Rattle.std.proofs.Common.{rules, false, subst, Decides}
use Rattle.tk_core.specs.Needs.{MayGive}
use Rattle.tk_core.specs.Program.{CoreState, AnyCaller}
use Rattle.tk_core.proofs.Rows.{nobody, decides}
use Rattle.tk_core.proofs.machine.Core.may_give.Goals as goal

pub returns-then-at-len : goal.returns-then-at-len
returns-then-at-len c =
    subst (λ (s : CoreState). Decides false (AnyCaller s c.args.caller (MayGive s.frame c.args.lock))) c.self.view_is
    (λ e. absurd (cc e), λ a. absurd (nobody c.self.inside.log.items c.self.inside.rows.items c.args.caller (MayGive c.self.inside.frame c.args.lock) (search rules) a))

pub returns : goal.returns
returns c =
    subst (λ (s : CoreState). Decides c.may_give.result (AnyCaller s c.args.caller (MayGive s.frame c.args.lock))) c.self.view_is
    (let is = c.may_give.ensures c.self.inside.log.items in decides c.self.inside.log.items c.self.inside.rows.items c.args.caller c.index.result.now (search rules) c.index.ensures (MayGive c.self.inside.frame c.args.lock) c.may_give.result is.0 is.1)
