use Rattle.std.proofs.Common.{arith}
use Rattle.tk_append.proofs.Windows.{passed, length_items}
use Rattle.tk_append.proofs.window.Window.pass.Goals as goal

pub returns : goal.returns
returns c =
    let w = c.args.self.now in
    passed w.buffer.items w.start w.end c.args.count (omega (arith, c.requires, length_items w.buffer.items w.start w.end w.ordered w.within))
