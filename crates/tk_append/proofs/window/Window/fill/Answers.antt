use Rattle.std.proofs.Common.{arith, ap, length}
use Rattle.tk_append.proofs.Windows.{read_shows}
use Rattle.tk_append.specs.Windows.{items}
use Rattle.tk_append.proofs.window.Window.fill.Goals as goal

pub returns-clause-shows : goal.returns-clause-shows
returns-clause-shows g c first =
    read_shows c.read.result (g.D.Disk.image c.args.disk.now) c.args.place _ _ (items c.args.self.now) (items c.make_room.new.self) (items c.read.new.self) c.read.ensures.more c.in_ok-make_room.ensures.items
    (omega (arith, ap length c.as_slice.ensures)) first
