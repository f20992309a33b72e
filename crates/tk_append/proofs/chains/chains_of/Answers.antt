use Rattle.std.proofs.Common.{◌≡◌, ◌+◌, ◌<◌, true, List, [], ◌∷◌, ◌++◌, ℕ, length, get_or, ap, sym, subst, arith, ◌∙◌}
use Rattle.std.proofs.Math.ListN.{set}
use Rattle.std.proofs.lemmas.Grind.{get_or_default_zero}
use Rattle.tk_model.specs.Hashes.{mix_of, bucket_of}
use Rattle.tk_model.specs.declared.record.Pair.{Pair}
use Rattle.tk_block.specs.Blocks.{extent_for}
use Rattle.tk_block.specs.Text.{base_of}
use Rattle.tk_block.specs.Layout.{laid, links_of, bucket_in}
use Rattle.tk_block.specs.declared.block.Body.{Body}
use Rattle.tk_append.specs.Fresh.{fresh_bodies}
use Rattle.tk_append.specs.Chains.{HeadsAre}
use Rattle.tk_append.proofs.Layouts.{small_at, end_of-take, taken_all}
use Rattle.tk_append.proofs.ChainsSteps.{Chained, chain_step}
use Rattle.tk_append.proofs.chains.chains_of.Goals as goal

pub extent_of-place-requires-clause-key : goal.extent_of-place-requires-clause-key
extent_of-place-requires-clause-key c =
    let small = small_at c.args.pairs.now c.loop-pair.pair-index c.pair-item.result c.requires.small c.loop-pair-test.true in
    omega (arith, c.len.ensures, small.key_fits, ap (λ (q : Pair). length q.key) c.pair-item.is)

pub extent_of-place-requires-clause-value : goal.extent_of-place-requires-clause-value
extent_of-place-requires-clause-value c =
    let small = small_at c.args.pairs.now c.loop-pair.pair-index c.pair-item.result c.requires.small c.loop-pair-test.true in
    omega (arith, c.len-in-loop-pair.ensures, small.value_fits, ap (λ (q : Pair). length q.value) c.pair-item.is)

pub overflow_add-place : goal.overflow_add-place
overflow_add-place c =
    let slot_below : c.bucket-slot.result < length c.loop-pair.heads.items = omega (arith, c.bucket-slot.ensures.below, (c.loop-pair.invariant 0 true).heads_are.whole) in
    let slot_is : c.bucket-slot.result ≡ bucket_in c.args.p c.pair-item.result.key = c.bucket-slot.ensures.value ∙ ap (λ (m : ℕ). bucket_of m c.args.p) (c.mix.ensures ∙ ap (λ (k : List ℕ). mix_of k) c.as_slice.ensures) in
    let extent_is : c.extent_of-place.result ≡ extent_for (44 + length c.pair-item.result.key + length c.pair-item.result.value) =
    c.extent_of-place.ensures.value ∙ ap (λ (n : ℕ). extent_for (44 + n + c.len-in-loop-pair.result)) c.len.ensures
    ∙ ap (λ (n : ℕ). extent_for (44 + length c.pair-item.result.key + n)) c.len-in-loop-pair.ensures in
    let step = chain_step c.args.p (base_of c.args.p) 0 true c.args.pairs.now c.loop-pair.pair-index c.pair-item.result c.loop-pair-test.true c.pair-item.is
    c.loop-pair.heads.items c.loop-pair.links.items c.loop-pair.place c.bucket-slot.result c.extent_of-place.result slot_is c.bucket-slot.ensures.below extent_is (c.loop-pair.invariant 0 true) in
    let most = end_of-take (base_of c.args.p) (c.loop-pair.pair-index + 1) (fresh_bodies 0 true c.args.pairs.now) in
    omega (arith, step.place_is, most, c.requires.end 0 true)

pub loop-pair-preserved : goal.loop-pair-preserved
loop-pair-preserved c number each =
    let slot_below : c.bucket-slot.result < length c.loop-pair.heads.items = omega (arith, c.bucket-slot.ensures.below, (c.loop-pair.invariant number each).heads_are.whole) in
    let slot_is : c.bucket-slot.result ≡ bucket_in c.args.p c.pair-item.result.key = c.bucket-slot.ensures.value ∙ ap (λ (m : ℕ). bucket_of m c.args.p) (c.mix.ensures ∙ ap (λ (k : List ℕ). mix_of k) c.as_slice.ensures) in
    let extent_is : c.extent_of-place.result ≡ extent_for (44 + length c.pair-item.result.key + length c.pair-item.result.value) =
    c.extent_of-place.ensures.value ∙ ap (λ (n : ℕ). extent_for (44 + n + c.len-in-loop-pair.result)) c.len.ensures
    ∙ ap (λ (n : ℕ). extent_for (44 + length c.pair-item.result.key + n)) c.len-in-loop-pair.ensures in
    let pushed : c.push.new.self.items ≡ c.loop-pair.links.items ++ get_or c.loop-pair.heads.items c.bucket-slot.result 0 ∷ [] =
    c.in_ok-push.ensures.items ∙ ap (λ (n : ℕ). c.loop-pair.links.items ++ n ∷ []) (c.index.ensures ∙ get_or_default_zero c.loop-pair.heads.items c.bucket-slot.result c.index.result.now slot_below) in
    subst (λ (l : List ℕ). Chained c.args.p (base_of c.args.p) (fresh_bodies number each c.args.pairs.now) (c.loop-pair.pair-index + 1) (set c.loop-pair.heads.items c.bucket-slot.result c.loop-pair.place) l (c.loop-pair.place + c.extent_of-place.result)) (sym pushed)
    (chain_step c.args.p (base_of c.args.p) number each c.args.pairs.now c.loop-pair.pair-index c.pair-item.result c.loop-pair-test.true c.pair-item.is
    c.loop-pair.heads.items c.loop-pair.links.items c.loop-pair.place c.bucket-slot.result c.extent_of-place.result slot_is c.bucket-slot.ensures.below extent_is (c.loop-pair.invariant number each))

pub returns-clause-heads : goal.returns-clause-heads
returns-clause-heads c number each =
    subst (λ (l : List Body). HeadsAre c.args.p c.loop-pair.heads.items (laid (base_of c.args.p) l)) (taken_all number each c.args.pairs.now c.loop-pair.pair-index c.loop-pair-test.false)
    (c.loop-pair.invariant number each).heads_are

pub returns-clause-links : goal.returns-clause-links
returns-clause-links c number each =
    (c.loop-pair.invariant number each).links_are ∙ ap (λ (l : List Body). links_of c.args.p [] (laid (base_of c.args.p) l)) (taken_all number each c.args.pairs.now c.loop-pair.pair-index c.loop-pair-test.false)
