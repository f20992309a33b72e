use Rattle.std.proofs.Common.{◌≡◌, ◌∙◌, length}
use Rattle.tk_mem.proofs.Readings.{told, begin_read, end_read}
use Rattle.tk_mem.proofs.load.read_records.Goals as goal

pub take_all-requires-clause-read : goal.take_all-requires-clause-read
take_all-requires-clause-read g c =
    rw c.has_word.ensures.image (begin_read (g.D.Disk.image c.len.new.self) c.in_ok-loading.loading.records _ c.in_ok-has_word.ensures.yes c.if-not-branch.false c.in_ok-loading.ensures)

pub returns-clause-accepted : goal.returns-clause-accepted
returns-clause-accepted g c =
    let before = g.D.Disk.image c.args.disk.now in
    end_read before (g.D.Disk.image c.has_word.new.disk) c.args.of c.args.writable c.take_all.new.loading.records c.in_ok-size-2.size c.in_ok-size.size (c.has_word.ensures.image ∙ c.len.ensures.image)
    c.in_ok-size-2.ensures.loaded.filed c.in_ok-size-2.ensures.read c.in_ok-size-2.ensures.end
    (told before c.len.result c.in_ok-size.size (λ f n. n ≡ length f) c.in_ok-size.ensures.ok c.in_ok-size.ensures.err c.len.ensures.value)
