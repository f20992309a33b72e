use Rattle.std.proofs.Common.{◌≡◌, ℕ, ◌+◌, List, [], ◌∷◌, ◌++◌, length, ◌∙◌, ap, subst}
use Rattle.std.specs.Prelude.{OnOk}
use Rattle.tk_block.specs.Blocks.{extent_for}
use Rattle.tk_block.specs.Layout.{Placed}
use Rattle.tk_update.specs.Blocks.{end_behind}
use Rattle.tk_update.proofs.PlainSteps.{appended_last}
use Rattle.tk_update.proofs.plain.append.Goals as goal

pub returns : goal.returns
returns c =
    let at = c.end_behind-place.ensures ∙ ap (end_behind c.args.base) c.as_slice.ensures in
    let long = c.extent_of-extent.ensures.value ∙ ap (λ (k : ℕ). extent_for (44 + k + c.len-2.result)) c.len.ensures ∙ ap (λ (k : ℕ). extent_for (44 + length c.args.body.key + k)) c.len-2.ensures in
    subst (λ (l : List Placed). OnOk c.push.result (c.push.new.self ≡ l)) (ap (λ (x : Placed). c.args.blocks.now ++ x ∷ []) c.new.ensures ∙ appended_last c.args.base _ _ c.args.body c.args.blocks.now at long) c.push.ensures.ok
