use Rattle.std.proofs.Common.{◌≡◌, Option, None, Some, MatchOption, subst, sym}
use Rattle.tk_disk.specs.declared.mem_folder.Slot.{Slot}
use Rattle.tk_disk.specs.MemFolder.{slot_file}
use Rattle.tk_disk.proofs.Named.{found-held}
use Rattle.tk_disk.proofs.mem_folder.MemFolder.bytes.Goals as goal

pub returns-in-Some : goal.returns-in-Some
returns-in-Some c =
    subst (λ (o : Option Slot). MatchOption c.bytes_of.result (slot_file o ≡ None) (λ b. slot_file o ≡ Some b.now))
    (sym (found-held c.args.self.now.places.items _ c.in-Some.i c.args.name.now c.index.result.now c.deref.ensures.value c.in-Some.ensures.place.1 c.index.ensures)) c.bytes_of.ensures
