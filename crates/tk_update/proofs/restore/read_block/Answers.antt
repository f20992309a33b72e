use Rattle.std.proofs.Common.{◌≡◌, ◌+◌, ◌-◌, ◌++◌, [], ◌∷◌, length, drop, min, sym, ◌∙◌, ap, arith}
use Rattle.std.specs.Prelude.{Option, option_map}
use Rattle.std.proofs.lemmas.List.{length-take, length-drop, append-nil}
use Rattle.tk_block.specs.Blocks.{body_said}
use Rattle.tk_block.specs.Layout.{Placed}
use Rattle.tk_block.specs.declared.block.Body.{Body}
use Rattle.tk_update.specs.Restored.{valid_here}
use Rattle.tk_update.proofs.ReadSteps.{reads_on, body_behind_rest}
use Rattle.tk_update.proofs.FairSteps.{extent_least}
use Rattle.tk_update.proofs.restore.read_block.Goals as goal

pub returns-in_default-body_inside-clause-further : goal.returns-in_default-body_inside-clause-further
returns-in_default-body_inside-clause-further c =
    omega (arith, c.requires, c.min.ensures, length-take (length c.args.bytes.now - c.args.place) (drop c.args.place c.args.bytes.now), length-drop c.args.place c.args.bytes.now, extent_least _ c.args.place c.in-Some.extent (sym c.in-Some.ensures.value))

pub returns-in_default-body_inside-clause-read : goal.returns-in_default-body_inside-clause-read
returns-in_default-body_inside-clause-read c h upto =
    let next : c.args.place + c.min.result ≡ c.args.place + min c.in-Some.extent (length c.args.bytes.now - c.args.place) =
    omega (arith, c.min.ensures, length-take (length c.args.bytes.now - c.args.place) (drop c.args.place c.args.bytes.now), length-drop c.args.place c.args.bytes.now) in
    let none = body_behind_rest c.args.place c.in-Some.extent c.args.bytes.now _ (sym (ap (option_map body_said) c.in_default-body_inside.is) ∙ c.body_inside.ensures) in
    reads_on h c.args.bytes.now c.args.place c.in-Some.extent _ c.args.blocks.now c.args.blocks.now c.requires (sym c.in-Some.ensures.value) next
    (sym (append-nil c.args.blocks.now) ∙ ap (λ (o : Option Body). c.args.blocks.now ++ valid_here o c.args.place c.in-Some.extent []) (sym none)) upto

pub returns-clause-read : goal.returns-clause-read
returns-clause-read c h upto =
    let next : c.args.place + c.min.result ≡ c.args.place + min c.in-Some.extent (length c.args.bytes.now - c.args.place) =
    omega (arith, c.min.ensures, length-take (length c.args.bytes.now - c.args.place) (drop c.args.place c.args.bytes.now), length-drop c.args.place c.args.bytes.now) in
    let some = body_behind_rest c.args.place c.in-Some.extent c.args.bytes.now _ (sym (ap (option_map body_said) c.in-Some-body_inside.is) ∙ c.body_inside.ensures) in
    let body : c.in_ok-body.body ≡ body_said c.in-Some-body_inside.block = c.in_ok-body.ensures in
    reads_on h c.args.bytes.now c.args.place c.in-Some.extent _ c.args.blocks.now c.push.new.self c.requires (sym c.in-Some.ensures.value) next
    (c.in_ok-push.ensures.ok ∙ ap (λ (x : Placed). c.args.blocks.now ++ x ∷ []) c.new.ensures
    ∙ ap (λ (b : Body). c.args.blocks.now ++ record { place = c.args.place; extent = c.in-Some.extent; body = b } ∷ []) body
    ∙ ap (λ (o : Option Body). c.args.blocks.now ++ valid_here o c.args.place c.in-Some.extent []) (sym some)) upto
