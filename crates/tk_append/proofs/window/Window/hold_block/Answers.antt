use Rattle.std.proofs.Common.{arith, ap, length, ◌∙◌}
use Rattle.tk_append.specs.Windows.{items}
use Rattle.tk_append.proofs.Windows.{fill_holds}
use Rattle.tk_block.specs.Number.{u64_in}
use Rattle.tk_append.proofs.window.Window.hold_block.Goals as goal

pub returns-clause-block : goal.returns-clause-block
returns-clause-block g c =
    fill_holds c.fill-2.result c.args.left c.u64_at-extent.result (items c.fill.new.self) (items c.fill-2.new.self) (c.u64_at-extent.ensures ∙ ap (λ l. u64_in l 4) c.as_slice-bytes.ensures)
    (omega (arith, ap length c.as_slice-bytes.ensures)) c.fill-2.ensures.grows c.fill-2.ensures.long c.fill-2.ensures.held
