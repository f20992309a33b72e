use Rattle.std.proofs.Common.{ℕ, List, Option, ap, ◌∙◌}
use Rattle.tk_proc.specs.Replies.{get_reply}
use Rattle.tk_derived.specs.Rows.{get_value}
use Rattle.tk_derived.proofs.GatedCalls.{derived_by, told_by}
use Rattle.tk_derived.proofs.RowLaws.{get_keeps, get_replies}
use Rattle.tk_derived.proofs.getter.get.Goals as goal

pub returns-clause-derived : goal.returns-clause-derived
returns-clause-derived g c =
    rw c.replied-answer.ensures (derived_by (λ (p : Option (List ℕ)) k was. (get_reply was).action) (λ (p : Option (List ℕ)) k was. was)
    (record { called = c.process-made.ensures.called; turned = c.process-made.ensures.turned; same = get_keeps; fair = get_replies })
    c.status.result (λ was e. c.status.ensures ∙ ap (λ (z : Option (List ℕ)). (get_reply z).status) e))

pub returns-clause-out : goal.returns-clause-out
returns-clause-out g c =
    rw c.replied-answer.ensures (told_by (λ (p : Option (List ℕ)) k was. (get_reply was).action) (λ (p : Option (List ℕ)) k was. was)
    (record { called = c.process-made.ensures.called; turned = c.process-made.ensures.turned; same = get_keeps; fair = get_replies })
    get_value c.status.result c.into_value.result c.args.out.now c.tell.new.out c.tell.ensures
    (λ was e. c.into_value.ensures ∙ ap (λ (z : Option (List ℕ)). (get_reply z).value) e))
