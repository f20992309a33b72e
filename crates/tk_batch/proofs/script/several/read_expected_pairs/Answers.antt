use Rattle.std.proofs.Common.{◌≡◌, ◌++◌, ◌∷◌, [], sym, ◌∙◌, ap, subst, drop, List, ℕ}
use Rattle.tk_batch.specs.Arguments.{is_key, expected_in, expected_pair, expected_pairs}
use Rattle.tk_batch.proofs.Pairs.{pairs_more, two_front, all_behind, after}
use Rattle.tk_batch.proofs.script.several.read_expected_pairs.Goals as goal

pub loop-rest-preserved : goal.loop-rest-preserved
loop-rest-preserved c =
    let rest = c.loop-rest.rest.now in
    let key = c.index-rest-0.result in
    let form = c.index-rest-1.result in
    let behind = all_behind rest c.loop-rest-test.true in
    subst (λ (t : List (List ℕ)). expected_pairs c.args.args.now ≡ after c.push.new.self (expected_pairs t)) (sym behind)
    (pairs_more expected_pair expected_in c.args.args.now rest (drop 2 rest) key form c.loop-rest.pairs c.push.new.self c.in-Some.form c.loop-rest.invariant (two_front rest key form c.loop-rest-test.true c.index-rest-0.is c.index-rest-1.is)
    (sym c.in-Some.is ∙ (c.in_ok-form.ensures ∙ ap expected_in c.as_slice-in-loop-rest.ensures))
    (sym (c.is_key.ensures ∙ ap is_key c.as_slice.ensures) ∙ c.if-not-is_key.false)
    (c.in_ok-push.ensures.ok ∙ ap (λ (t : List ℕ). c.loop-rest.pairs ++ expected_pair t c.in-Some.form ∷ []) (c.in_ok-key.ensures ∙ c.as_slice-in-loop-rest-2.ensures)))
