use Rattle.std.proofs.Common.{arith}
use Rattle.tk_mem.proofs.Undoing.{back_step}
use Rattle.tk_mem.proofs.change.take_back.Goals as goal

pub loop-left-preserved : goal.loop-left-preserved
loop-left-preserved c =
    let i = c.loop-left.invariant in
    let step = back_step c.args.undo.now.items c.loop-left.undo.items c.truncate.new.self.items c.loop-left.left c.index.result.now c.loop-left.table c.make.new.table
    (omega arith) (omega arith) i.items c.index.ensures c.truncate.ensures.items c.in_ok-make.ensures.ok in
    record { items = step.0; back = rw step.1 i.back }
