use Rattle.std.proofs.Common.{◌∙◌}
use Rattle.tk_core.proofs.Rows.{any_has}
use Rattle.tk_core.proofs.steps.holds.Goals as goal

pub returns : goal.returns
returns c = c.contains.ensures.value ∙ any_has c.args.number c.args.list.now
