use Rattle.std.proofs.Common.{length, refl}
use Rattle.tk_disk.specs.Disk.{ReadsFrom}
use Rattle.tk_mem.proofs.Readings.{told, read_on, none_on}
use Rattle.tk_mem.proofs.load.take_piece.Goals as goal

pub returns-clause-read : goal.returns-clause-read
returns-clause-read g c =
    let image = g.D.Disk.image c.args.disk.now in
    let reads = told image c.read_at.result c.in_ok-got.got (λ f n. ReadsFrom f c.args.place c.read_at.new.into n) c.in_ok-got.ensures.ok c.in_ok-got.ensures.err c.read_at.ensures.bytes in
    read_on image c.read_at.new.into _ c.args.place c.in_ok-take.field-0 c.in_ok-got.got c.args.loading.now.records c.take.new.self.records c.requires.read reads refl c.in_ok-take.ensures.takes

pub returns-clause-none : goal.returns-clause-none
returns-clause-none g c =
    let image = g.D.Disk.image c.args.disk.now in
    let reads = told image c.read_at.result c.in_ok-got.got (λ f n. ReadsFrom f c.args.place c.read_at.new.into n) c.in_ok-got.ensures.ok c.in_ok-got.ensures.err c.read_at.ensures.bytes in
    none_on image c.args.of c.take.new.self.records c.read_at.new.into _ c.args.place c.in_ok-take.field-0 c.in_ok-got.got (length c.args.buffer.now) reads c.read_at.auto.into refl c.in_ok-take.ensures.none
