use Rattle.std.proofs.Common.{◌∙◌, ◌++◌, [], ◌∷◌, List, sym, ap}
use Rattle.std.proofs.lemmas.List.{append-nil}
use Rattle.tk_model.specs.declared.record.Pair.{Pair}
use Rattle.tk_store.specs.Hashed.{joined}
use Rattle.tk_store.proofs.Joined.{joined-append}
use Rattle.tk_store.proofs.hashed.all_of.Goals as goal

pub loop-bucket-preserved : goal.loop-bucket-preserved
loop-bucket-preserved c =
    let yielded = c.loop-bucket.yielded in
    c.in_ok-add_bucket.ensures
    ∙ ap (λ (l : List Pair). l ++ c.in-Some.bucket) c.loop-bucket.invariant
    ∙ ap (λ (l : List Pair). joined yielded ++ l) (sym (append-nil c.in-Some.bucket))
    ∙ sym (joined-append yielded (c.in-Some.bucket ∷ []))
