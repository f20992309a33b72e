use Rattle.std.proofs.Common.{◌∙◌, sym, ap, Some}
use Rattle.tk_disk.specs.declared.mem_folder.Slot.TheVariants.{Out}
use Rattle.tk_disk.specs.MemFolder.{slot_faults}
use Rattle.tk_disk.proofs.Named.{named-held}
use Rattle.tk_disk.proofs.mem_folder.take_out.Goals as goal

pub returns-clause-out : goal.returns-clause-out
returns-clause-out c =
    let named = c.in-Some.ensures.place.1 in
    c.exchange.ensures.new c.args.name.now named ∙ ap (λ n. Some (Out n)) (c.faults_of-faults.ensures ∙ sym (ap slot_faults (named-held c.args.places.now c.in-Some.i c.args.name.now c.index-places-i.result named)))
