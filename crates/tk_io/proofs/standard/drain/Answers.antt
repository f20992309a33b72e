use Rattle.std.proofs.Common.{arith}
use Rattle.std.proofs.lemmas.List.{take_rest}
use Rattle.tk_io.proofs.Known.{Appends_more}
use Rattle.tk_io.proofs.standard.drain.Goals as goal

pub loop-done-preserved : goal.loop-done-preserved
loop-done-preserved g c =
    (omega (arith, c.in_ok-done.ensures.bound), Appends_more _ _ _ _ _ _ c.loop-done.invariant.1 (rw take_rest at c.in_ok-done.ensures.ok))
