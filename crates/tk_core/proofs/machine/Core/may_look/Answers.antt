use Rattle.std.proofs.Common.{rules, false, subst, Decides}
use Rattle.tk_core.specs.Needs.{MayLook}
use Rattle.tk_core.specs.Program.{CoreState, AnyCaller}
use Rattle.tk_core.proofs.Rows.{nobody, decides}
use Rattle.tk_core.proofs.machine.Core.may_look.Goals as goal

pub returns-then-at-len : goal.returns-then-at-len
returns-then-at-len c =
    subst (λ (s : CoreState). Decides false (AnyCaller s c.args.caller MayLook)) c.self.view_is
    (λ e. absurd (cc e), λ a. absurd (nobody c.self.inside.log.items c.self.inside.rows.items c.args.caller MayLook (search rules) a))

pub returns : goal.returns
returns c =
    subst (λ (s : CoreState). Decides c.index.result.now.live (AnyCaller s c.args.caller MayLook)) c.self.view_is
    (decides c.self.inside.log.items c.self.inside.rows.items c.args.caller c.index.result.now (search rules) c.index.ensures MayLook c.index.result.now.live (λ e. e) (λ e. e))
