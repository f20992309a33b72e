use Rattle.std.proofs.Common.{[], ◌∷◌, Some, refl, ap, ◌∙◌, if◌then◌else◌}
use Rattle.tk_status.specs.declared.Status.TheVariants.{Success, Infeasible}
use Rattle.tk_proc.specs.Replies.{is_met, exchange_reply}
use Rattle.tk_derived.specs.declared.exchanger.LentExchanger.{LentExchanger}
use Rattle.tk_derived.specs.Rows.{exchange_value}
use Rattle.tk_derived.proofs.GatedCalls.{derived_by, told_by}
use Rattle.tk_derived.proofs.RowLaws.{exchange_replies}
use Rattle.tk_derived.proofs.exchanger.compare_exchange.Goals as goal

pub returns-clause-derived : goal.returns-clause-derived
returns-clause-derived g c =
    rw c.replied-answer.ensures (derived_by (λ (p : LentExchanger) k was. (exchange_reply p.expected.now p.desired.now was).action) (λ (p : LentExchanger) k was. record p { met = is_met p.expected.now was; found = was ∷ [] })
    (record { called = c.process-made.ensures.called; turned = c.process-made.ensures.turned; same = λ was. refl; fair = exchange_replies c.args.expected.now c.args.desired.now })
    c.status.result (λ was e. c.status.ensures ∙ ap (λ (p : LentExchanger). if p.met then Success else Infeasible) e))

pub returns-clause-actual : goal.returns-clause-actual
returns-clause-actual g c =
    rw c.replied-answer.ensures (told_by (λ (p : LentExchanger) k was. (exchange_reply p.expected.now p.desired.now was).action) (λ (p : LentExchanger) k was. record p { met = is_met p.expected.now was; found = was ∷ [] })
    (record { called = c.process-made.ensures.called; turned = c.process-made.ensures.turned; same = λ was. refl; fair = exchange_replies c.args.expected.now c.args.desired.now })
    (exchange_value c.args.expected.now c.args.desired.now) c.status.result (Some c.process-made.new.p.processor.found) c.args.actual.now c.tell.new.out c.tell.ensures
    (λ was e. ap (λ (p : LentExchanger). Some p.found) e))
