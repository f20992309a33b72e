use Rattle.tk_restore.proofs.Halves.{written_from, moments_from}
use Rattle.tk_restore.proofs.restore.write_restoration.Goals as goal

pub returns-clause-restored : goal.returns-clause-restored
returns-clause-restored g c = λ image read. written_from image (g.D.Disk.image c.args.to.now) (g.D.Disk.image c.write_file.new.disk) c.args.restoration.now c.len.result read c.in_ok-write_file.ensures.written c.len.ensures

pub returns-in_err-write_file-clause-pasts : goal.returns-in_err-write_file-clause-pasts
returns-in_err-write_file-clause-pasts g c = λ image read. moments_from g.D.Disk.moment g.D.Disk.left_with c.args.to.now c.write_file.new.disk (g.D.Disk.past c.args.to.now) image c.args.restoration.now (g.D.Disk.image c.args.to.now) read c.write_file.ensures.pasts

pub returns-clause-pasts : goal.returns-clause-pasts
returns-clause-pasts g c = λ image read. moments_from g.D.Disk.moment g.D.Disk.left_with c.args.to.now c.write_file.new.disk (g.D.Disk.past c.args.to.now) image c.args.restoration.now (g.D.Disk.image c.args.to.now) read c.write_file.ensures.pasts
