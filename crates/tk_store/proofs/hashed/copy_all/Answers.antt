use Rattle.std.proofs.Common.{◌≡◌, ◌∙◌, ◌++◌, [], ◌∷◌, List, sym, ap, append_assoc}
use Rattle.tk_model.specs.declared.record.Pair.{Pair}
use Rattle.tk_model.specs.Records.{put}
use Rattle.tk_model.specs.declared.record.Order.TheVariants.{Hash}
use Rattle.tk_store.specs.PairsLeft.{pairs_left}
use Rattle.tk_store.proofs.Filling.{put_next}
use Rattle.tk_store.proofs.hashed.copy_all.Goals as goal

pub loop-pair-preserved : goal.loop-pair-preserved
loop-pair-preserved c =
    let xs = c.loop-pair.records in
    let p = c.in-Some.pair.now in
    let ys = pairs_left c.in-Some.behind in
    let whole = pairs_left c.args.left in
    let is : whole ≡ xs ++ p ∷ ys = c.loop-pair.invariant ∙ ap (λ (l : List Pair). xs ++ l) c.in-Some.ensures.some in
    let filled = c.in_ok-put.ensures.ok ∙ ap (λ (q : Pair). put Hash q xs) c.in_ok-copy_pair.ensures ∙ put_next xs ys whole p c.requires.rising is in
    is ∙ sym (append_assoc xs (p ∷ []) ys) ∙ ap (λ (l : List Pair). l ++ ys) (sym filled)
