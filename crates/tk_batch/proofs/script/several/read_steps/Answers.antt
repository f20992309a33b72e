use Rattle.std.proofs.Common.{◌≡◌, ◌++◌, ◌∷◌, [], sym, ◌∙◌, ap, subst, drop, List, ℕ}
use Rattle.tk_batch.specs.Arguments.{is_key, op_in, multi_steps}
use Rattle.tk_batch.proofs.Pairs.{steps_more, steps_long, three_front, all_behind_3, after}
use Rattle.tk_batch.proofs.script.several.read_steps.Goals as goal

pub loop-rest-preserved : goal.loop-rest-preserved
loop-rest-preserved c =
    let rest = c.loop-rest.rest.now in
    let name = c.index-rest-0.result in
    let key = c.index-rest-1.result in
    let value = c.index-rest-2.result in
    let behind = all_behind_3 rest c.loop-rest-test.true in
    subst (λ (t : List (List ℕ)). multi_steps c.args.args.now ≡ after c.push.new.self (multi_steps t)) (sym behind)
    (steps_more c.args.args.now rest (drop 3 rest) name key value c.loop-rest.steps c.push.new.self c.in-Some.op c.loop-rest.invariant
    (three_front rest name key value c.loop-rest-test.true c.index-rest-0.is c.index-rest-1.is c.index-rest-2.is)
    (sym c.in-Some.is ∙ (c.in_ok-op.ensures ∙ (ap (λ (t : List ℕ). op_in t c.as_slice-in-loop-rest-2.result.now) c.as_slice-in-loop-rest.ensures ∙ ap (op_in name) c.as_slice-in-loop-rest-2.ensures)))
    (sym (c.is_key.ensures ∙ ap is_key c.as_slice.ensures) ∙ c.if-not-is_key.false)
    (c.in_ok-push.ensures.ok ∙ ap (λ (t : List ℕ). c.loop-rest.steps ++ record { op = c.in-Some.op; key = t } ∷ []) (c.in_ok-key.ensures ∙ c.as_slice-in-loop-rest-3.ensures)))

pub returns-then-not-is_key : goal.returns-then-not-is_key
returns-then-not-is_key c =
    let rest = c.loop-rest.rest.now in
    let name = c.index-rest-0.result in
    let key = c.index-rest-1.result in
    let value = c.index-rest-2.result in
    steps_long c.args.args.now rest (drop 3 rest) name key value c.loop-rest.steps c.loop-rest.invariant
    (three_front rest name key value c.loop-rest-test.true c.index-rest-0.is c.index-rest-1.is c.index-rest-2.is)
    (sym (c.is_key.ensures ∙ ap is_key c.as_slice.ensures) ∙ c.if-not-is_key.true)
