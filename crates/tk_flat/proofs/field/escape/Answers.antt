use Rattle.tk_flat.proofs.Escaped.{written_all}
use Rattle.tk_flat.proofs.field.escape.Goals as goal

pub returns-in_default-clause-ok : goal.returns-in_default-clause-ok
returns-in_default-clause-ok c = written_all _ _ _ _ _ c.loop-run.invariant c.in_default.ensures.none c.in_ok-extend.ensures.ok
