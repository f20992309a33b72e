use Rattle.std.proofs.Common.{◌≡◌, ℕ, List, Option, is_some, refl, subst}
use Rattle.tk_proc.specs.Replies.{set_reply}
use Rattle.tk_derived.specs.declared.setter.LentSetter.{LentSetter}
use Rattle.tk_derived.proofs.GatedCalls.{derived_by}
use Rattle.tk_derived.proofs.RowLaws.{set_replies}
use Rattle.tk_derived.proofs.setter.set.Goals as goal

pub returns-clause-derived : goal.returns-clause-derived
returns-clause-derived g c =
    let x = c.args.value.now in
    rw c.replied.ensures (derived_by (λ (p : LentSetter) k was. (set_reply p.value.now p.overwrite was).action) (λ (p : LentSetter) k was. record p { found = is_some was })
    (record { called = c.process-made.ensures.called; turned = c.process-made.ensures.turned; same = λ was. refl; fair = set_replies x c.args.overwrite })
    c.status.result (λ was e. subst (λ (p : LentSetter). (w : Option (List ℕ)) → is_some w ≡ p.found → c.status.result ≡ (set_reply p.value.now p.overwrite w).status) {x = c.process-made.new.p.processor} e c.status.ensures was refl))
