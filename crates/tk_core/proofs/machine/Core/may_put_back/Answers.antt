use Rattle.std.proofs.Common.{rules, false, [], subst, Decides}
use Rattle.tk_core.specs.Needs.{MayPutBack}
use Rattle.tk_core.specs.Program.{CoreState, AnyCaller}
use Rattle.tk_core.proofs.Rows.{nobody, decides}
use Rattle.tk_core.proofs.machine.Core.may_put_back.Goals as goal

pub returns-then-at-len : goal.returns-then-at-len
returns-then-at-len c =
    subst (λ (s : CoreState). Decides false (AnyCaller s c.args.caller (MayPutBack s.frame [] s.log (λ gs n. Unit {0}) c.args.store c.args.broken))) c.self.view_is
    (λ e. absurd (cc e), λ a. absurd (nobody c.self.inside.log.items c.self.inside.rows.items c.args.caller (MayPutBack c.self.inside.frame [] c.self.inside.log.items (λ gs n. Unit {0}) c.args.store c.args.broken) (search rules) a))

pub returns : goal.returns
returns c =
    subst (λ (s : CoreState). Decides c.may_put_back.result (AnyCaller s c.args.caller (MayPutBack s.frame [] s.log (λ gs n. Unit {0}) c.args.store c.args.broken))) c.self.view_is
    (decides c.self.inside.log.items c.self.inside.rows.items c.args.caller c.index.result.now (search rules) c.index.ensures (MayPutBack c.self.inside.frame [] c.self.inside.log.items (λ gs n. Unit {0}) c.args.store c.args.broken) c.may_put_back.result
    (λ e. let is = c.may_put_back.ensures.0 e in record { live = is.0; store = c.if-store-self.false; out = is.1; stays = is.2; stands = λ _. tt })
    (λ m. c.may_put_back.ensures.1 (m.live, m.out, m.stays)))
