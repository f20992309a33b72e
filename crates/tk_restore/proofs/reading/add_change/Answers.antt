use Rattle.std.proofs.Common.{◌≡◌, ◌⊎◌, ◌∙◌, ◌++◌, ◌∷◌, [], List, ℕ, inl, inr, refl, ap}
use Rattle.std.specs.Prelude.{◌==◌, Result, Ok, Err, OnOk}
use Rattle.std.proofs.lemmas.Bool.{eq-eqb, ne_eqb}
use Rattle.tk_model.specs.Records.{after, after_one}
use Rattle.tk_model.specs.declared.record.Change.{Change}
use Rattle.tk_model.specs.declared.record.Order.TheVariants.{Hash}
use Rattle.tk_model.specs.declared.record.Pair.{Pair}
use Rattle.tk_model.proofs.NetChanges.{after_append}
use Rattle.tk_block.specs.declared.block.Body.{Body}
use Rattle.tk_block.specs.Blocks.{body_said}
use Rattle.tk_append.specs.Opening.{change_in}
use Rattle.tk_restore.specs.Changes.{LiveAndBegun, change_by}
use Rattle.tk_restore.proofs.reading.add_change.Goals as goal
use Rattle.tk_restore.proofs.reading.add_change.Goals.{then-block-eq1-via-then-block-eq1, then-block-eq1-via-else-block-eq1+then-block-eq2}

same_change : (b : Body) → (b.kind ≡ 1) ⊎ (b.kind ≡ 2) → change_by (b.kind == 1) b.key b.value ≡ change_in b
same_change b (inl one) = let e = eq-eqb b.kind 1 one in rw e refl
same_change b (inr two) =
    let e = ne_eqb b.kind 1 (λ one. cc (one, two)) in
    let f = eq-eqb b.kind 2 two in
    rw (e, f) refl

all_by : {T E : Type 0} (r : Result T E) (old new : LiveAndBegun) (c d : Change) → OnOk r (new.live ≡ old.live) → OnOk r (new.begun ≡ old.begun ++ c ∷ []) → c ≡ d → OnOk r (after Hash new.begun new.live ≡ after_one Hash d (after Hash old.begun old.live))
all_by (Ok value) old new c d live begun is =
    ap (λ (l : List Change). after Hash l new.live) begun
    ∙ ap (λ (m : List Pair). after Hash (old.begun ++ c ∷ []) m) live
    ∙ after_append Hash old.begun (c ∷ []) old.live
    ∙ ap (λ (x : Change). after_one Hash x (after Hash old.begun old.live)) is
all_by (Err error) old new c d live begun is = tt

pub returns-then-block-eq1-clause-all : goal.returns-then-block-eq1-clause-all
returns-then-block-eq1-clause-all c =
    let either : (c.args.block.kind ≡ 1) ⊎ (c.args.block.kind ≡ 2) = elim c.then-block-eq1.branch [
      | then-block-eq1-via-then-block-eq1 w ↦ inl w.if-block-eq1.true
      | then-block-eq1-via-else-block-eq1+then-block-eq2 w ↦ inr w.if-block-eq2.true
    ] in
    all_by c.push.result c.args.records.now c.push.new.self _ _ c.push.ensures.live c.push.ensures.begun (same_change (body_said c.args.block) either)
