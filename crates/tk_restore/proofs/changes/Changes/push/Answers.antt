use Rattle.std.proofs.Common.{◌≡◌, ◌∙◌, ◌++◌, ◌∷◌, [], List, ℕ, refl, sym, ap, subst, arith}
use Rattle.std.specs.Prelude.{Result, Ok, Err, OnErr}
use Rattle.tk_model.specs.declared.record.Change.{Change}
use Rattle.tk_restore.specs.Changes.{change_by, changes_in, AllEntries}
use Rattle.tk_restore.proofs.Entries.{all_grown, changes_grown, pushed, pushed_all}
use Rattle.tk_restore.proofs.changes.Changes.push.Goals as goal

on_err : {T E P : Type 0} (r : Result T E) → P → OnErr r P
on_err (Ok value) p = tt
on_err (Err error) p = p

pub invariant_of-self-in_err-extend_from_slice-2 : goal.invariant_of-self-in_err-extend_from_slice-2
invariant_of-self-in_err-extend_from_slice-2 c =
    let bytes = c.self.inside.bytes.items in
    let es = c.self.inside.entries.items in
    subst (λ (l : List ℕ). AllEntries l es) (sym (c.in_err-extend_from_slice-2.ensures.items ∙ c.in_ok-extend_from_slice.ensures.items)) (all_grown bytes c.args.key.now es c.self.invariant)

pub returns-in_err-extend_from_slice-2-clause-err : goal.returns-in_err-extend_from_slice-2-clause-err
returns-in_err-extend_from_slice-2-clause-err c =
    let bytes = c.self.inside.bytes.items in
    let es = c.self.inside.entries.items in
    on_err _ (ap (λ (l : List ℕ). changes_in l es) (c.in_err-extend_from_slice-2.ensures.items ∙ c.in_ok-extend_from_slice.ensures.items) ∙ changes_grown bytes c.args.key.now es c.self.invariant ∙ c.self.view_is)

pub invariant_of-self-in_err-push : goal.invariant_of-self-in_err-push
invariant_of-self-in_err-push c =
    let bytes = c.self.inside.bytes.items in
    let es = c.self.inside.entries.items in
    let key = c.args.key.now in
    let grown : c.extend_from_slice-2.new.self.items ≡ (bytes ++ key) ++ c.args.value.now = c.in_ok-extend_from_slice-2.ensures.items ∙ ap (λ (l : List ℕ). l ++ c.args.value.now) c.in_ok-extend_from_slice.ensures.items in
    subst (λ (l : List ℕ). AllEntries l c.push.new.self.items) (sym grown)
    (subst (AllEntries ((bytes ++ key) ++ c.args.value.now)) (sym c.in_err-push.ensures.items) (all_grown (bytes ++ key) c.args.value.now es (all_grown bytes key es c.self.invariant)))

pub returns-in_err-push-clause-err : goal.returns-in_err-push-clause-err
returns-in_err-push-clause-err c =
    let bytes = c.self.inside.bytes.items in
    let es = c.self.inside.entries.items in
    let key = c.args.key.now in
    let grown : c.extend_from_slice-2.new.self.items ≡ (bytes ++ key) ++ c.args.value.now = c.in_ok-extend_from_slice-2.ensures.items ∙ ap (λ (l : List ℕ). l ++ c.args.value.now) c.in_ok-extend_from_slice.ensures.items in
    on_err _ (ap (λ (l : List ℕ). changes_in l c.push.new.self.items) grown
    ∙ ap (changes_in ((bytes ++ key) ++ c.args.value.now)) c.in_err-push.ensures.items
    ∙ changes_grown (bytes ++ key) c.args.value.now es (all_grown bytes key es c.self.invariant)
    ∙ changes_grown bytes key es c.self.invariant
    ∙ c.self.view_is)

pub invariant_of-self-2 : goal.invariant_of-self-2
invariant_of-self-2 c =
    let bytes = c.self.inside.bytes.items in
    let es = c.self.inside.entries.items in
    let key = c.args.key.now in
    let grown : c.extend_from_slice-2.new.self.items ≡ (bytes ++ key) ++ c.args.value.now = c.in_ok-extend_from_slice-2.ensures.items ∙ ap (λ (l : List ℕ). l ++ c.args.value.now) c.in_ok-extend_from_slice.ensures.items in
    subst (λ (l : List ℕ). AllEntries l c.push.new.self.items) (sym grown)
    (subst (AllEntries ((bytes ++ key) ++ c.args.value.now)) (sym c.in_ok-push.ensures.items)
    (pushed_all bytes key c.args.value.now c.args.sets _ (record { hashed = c.mix.ensures; start = omega (arith, c.len-start.ensures, c.self.inside.bytes.ok.0); key_length = refl; value_length = refl; sets_is = refl }) es c.self.invariant c.requires))

pub returns-clause-ok : goal.returns-clause-ok
returns-clause-ok c =
    let bytes = c.self.inside.bytes.items in
    let es = c.self.inside.entries.items in
    let key = c.args.key.now in
    let grown : c.extend_from_slice-2.new.self.items ≡ (bytes ++ key) ++ c.args.value.now = c.in_ok-extend_from_slice-2.ensures.items ∙ ap (λ (l : List ℕ). l ++ c.args.value.now) c.in_ok-extend_from_slice.ensures.items in
    ap (λ (l : List ℕ). changes_in l c.push.new.self.items) grown
    ∙ ap (changes_in ((bytes ++ key) ++ c.args.value.now)) c.in_ok-push.ensures.items
    ∙ pushed bytes key c.args.value.now c.args.sets _ (record { hashed = c.mix.ensures; start = omega (arith, c.len-start.ensures, c.self.inside.bytes.ok.0); key_length = refl; value_length = refl; sets_is = refl }) es c.self.invariant
    ∙ ap (λ (cs : List Change). cs ++ change_by c.args.sets key c.args.value.now ∷ []) c.self.view_is
