use Rattle.std.proofs.lemmas.Option.{IfSome_then}
use Rattle.tk_restore.proofs.Halves.{outside_tells, outside_unrefused, unwritten}
use Rattle.tk_restore.proofs.restore.restore_appending.Goals as goal

pub returns-clause-restored : goal.returns-clause-restored
returns-clause-restored g c = IfSome_then (g.D.Disk.image c.args.from.now) c.in_ok-restoration.ensures.read (λ image read. c.write_restoration.ensures.restored image read)

pub returns-clause-exact : goal.returns-clause-exact
returns-clause-exact g c = IfSome_then (g.D.Disk.image c.args.from.now) c.in_ok-restoration.ensures.exact (λ image none. outside_tells c.write_restoration.result _ none c.write_restoration.ensures.outside)

pub returns-clause-untouched : goal.returns-clause-untouched
returns-clause-untouched g c = outside_unrefused c.write_restoration.result _ c.write_restoration.ensures.outside

pub returns-in_err-restoration-clause-pasts : goal.returns-in_err-restoration-clause-pasts
returns-in_err-restoration-clause-pasts g c = unwritten g.D.Disk.past g.D.Disk.moment g.D.Disk.may_leave g.D.Disk.left_with g.met.D.Disk.only_with c.args.to.now (g.D.Disk.image c.args.from.now) (g.D.Disk.image c.args.to.now)

pub returns-clause-pasts : goal.returns-clause-pasts
returns-clause-pasts g c = IfSome_then (g.D.Disk.image c.args.from.now) c.in_ok-restoration.ensures.read (λ image read. c.write_restoration.ensures.pasts image read)
