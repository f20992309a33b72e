use Rattle.std.proofs.Common.{Option, IsSome, refl, subst, sym, ap}
use Rattle.tk_disk.specs.declared.dir_folder.Visit.{Visit}
use Rattle.tk_disk.specs.DirFolder.{visit_faults}
use Rattle.tk_disk.proofs.Named.{found-held}
use Rattle.tk_disk.proofs.dir_folder.keep.Goals as goal

pub returns-in-Some-clause-kept : goal.returns-in-Some-clause-kept
returns-in-Some-clause-kept c =
    subst (λ (o : Option Visit). IsSome o) (sym (found-held c.args.places.now.items _ c.in-Some.i c.args.name.now c.index.result.now c.deref.ensures.value c.in-Some.ensures.place.1 c.index.ensures)) refl

pub returns-in-Some-clause-faults : goal.returns-in-Some-clause-faults
returns-in-Some-clause-faults c =
    ap visit_faults (sym (found-held c.args.places.now.items _ c.in-Some.i c.args.name.now c.index.result.now c.deref.ensures.value c.in-Some.ensures.place.1 c.index.ensures))
