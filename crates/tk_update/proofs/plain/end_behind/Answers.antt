use Rattle.std.proofs.Common.{◌≡◌, ◌<◌, ◌-◌, false, sym, ◌∙◌, arith, length}
use Rattle.std.specs.Prelude.{◌==◌}
use Rattle.std.proofs.lemmas.Bool.Decides.{nat_tests}
use Rattle.tk_update.proofs.PlainSteps.{end_last}
use Rattle.tk_update.proofs.plain.end_behind.Goals as goal

pub overflow_add-result : goal.overflow_add-result
overflow_add-result c =
    let test : (length c.args.blocks.now == 0) ≡ false = sym c.is_empty.ensures ∙ c.if-is_empty.false in
    let some : 0 < length c.args.blocks.now = grind (arith, nat_tests, test) in
    omega (arith, c.requires, c.place.ensures, c.extent.ensures, end_last c.args.base c.args.blocks.now (length c.args.blocks.now - 1) c.index-blocks-blocks.result (omega (arith, some)) c.index-blocks-blocks.is)

pub returns : goal.returns
returns c =
    let test : (length c.args.blocks.now == 0) ≡ false = sym c.is_empty.ensures ∙ c.if-is_empty.false in
    let some : 0 < length c.args.blocks.now = grind (arith, nat_tests, test) in
    omega (arith, c.place.ensures, c.extent.ensures, end_last c.args.base c.args.blocks.now (length c.args.blocks.now - 1) c.index-blocks-blocks.result (omega (arith, some)) c.index-blocks-blocks.is)
