use Rattle.std.proofs.Common.{◌≡◌, ℕ, Bool, List, Option, is_some, refl, subst}
use Rattle.tk_proc.specs.Replies.{remove_reply}
use Rattle.tk_derived.proofs.GatedCalls.{derived_by}
use Rattle.tk_derived.proofs.RowLaws.{remove_replies}
use Rattle.tk_derived.proofs.remover.remove.Goals as goal

pub returns-clause-derived : goal.returns-clause-derived
returns-clause-derived g c =
    rw c.replied.ensures (derived_by (λ (r : Bool) k was. (remove_reply was).action) (λ (r : Bool) k was. is_some was)
    (record { called = c.process-made.ensures.called; turned = c.process-made.ensures.turned; same = λ was. refl; fair = remove_replies })
    c.status.result (λ was e. subst (λ (r : Bool). (w : Option (List ℕ)) → is_some w ≡ r → c.status.result ≡ (remove_reply w).status) e c.status.ensures was refl))
