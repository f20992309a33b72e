use Rattle.std.proofs.Common.{sym}
use Rattle.tk_flat.proofs.Fields.{unescape-end}
use Rattle.tk_flat.proofs.field.unescape.Goals as goal

pub returns-in_default : goal.returns-in_default
returns-in_default c =
    sym (unescape-end c.args.field.now c.loop-run.out c.loop-run.rest.now c.extend.new.self c.loop-run.invariant c.in_default.ensures.none c.in_ok-extend.ensures.ok)
