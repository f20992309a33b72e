-- What a crash leaves of a file goes with its disk.
use Rattle.std.proofs.Common.{◌≡◌, inl, inr, ℕ, List, Option, None, Some, [], refl, sym, ◌∙◌, ap, subst, arith}
use Rattle.tk_disk.specs.declared.mem_folder.Slot.{Slot}
use Rattle.tk_disk.specs.declared.mem_folder.Slot.TheVariants.{Here, Out}
use Rattle.tk_disk.specs.declared.memory.MemDisk.{MemDisk}
use Rattle.tk_disk.specs.Folder.{SameHistory}
use Rattle.tk_disk.specs.MemDisk.{mem_moment, mem_past, MemMayLeave, MemLeftSince, MemLeftWith}
use Rattle.tk_disk.specs.MemoryLaws.{mem_reads}
use Rattle.tk_disk.specs.MemFolder.{slot_disk, slot_moment, slot_past, SlotLeaves, SlotLeftSince, SlotLeftWith, IsNewDisk}
use Rattle.tk_disk.specs.Past.{Past}

-- what a slot had is what another has
abbrev SlotsSame : (old new : Option Slot) → Type 0
SlotsSame old new = SameHistory (slot_moment old) (slot_moment new) (SlotLeaves old) (SlotLeaves new) (SlotLeftSince old) (SlotLeftSince new) (slot_past old) (slot_past new) (SlotLeftWith old) (SlotLeftWith new)

abbrev DiskSame : Option Slot → MemDisk → Type 0
DiskSame old d = SameHistory (slot_moment old) (mem_moment d) (SlotLeaves old) (MemMayLeave d) (SlotLeftSince old) (MemLeftSince d) (slot_past old) (mem_past d) (SlotLeftWith old) (MemLeftWith d)

itself : (o : Option Slot) → SlotsSame o o
itself o = record { moment = refl; crash = λ c left. left; time = λ t c left. left; keeps = λ t c was. was; past = refl; pasts = λ t x left. left; keeps_pasts = λ t x was. was }

-- nothing changed
pub kept : (old new : Option Slot) → new ≡ old → SameHistory (slot_moment old) (slot_moment new) (SlotLeaves old) (SlotLeaves new) (SlotLeftSince old) (SlotLeftSince new) (slot_past old) (slot_past new) (SlotLeftWith old) (SlotLeftWith new)
kept old new same = subst (λ (o : Option Slot). SlotsSame old o) (sym same) (itself old)

-- a disk went into its place
pub given : (d : MemDisk) (new : Option Slot) → new ≡ Some (Here d) → SameHistory (mem_moment d) (slot_moment new) (MemMayLeave d) (SlotLeaves new) (MemLeftSince d) (SlotLeftSince new) (mem_past d) (slot_past new) (MemLeftWith d) (SlotLeftWith new)
given d new is = kept (Some (Here d)) new is

-- a disk came out of its place
pub taken : (d : MemDisk) (old : Option Slot) → Some d ≡ slot_disk old → SameHistory (slot_moment old) (mem_moment d) (SlotLeaves old) (MemMayLeave d) (SlotLeftSince old) (MemLeftSince d) (slot_past old) (mem_past d) (SlotLeftWith old) (MemLeftWith d)
taken d None is = cc
taken d (Some (Here e)) is = kept (Some (Here e)) (Some (Here d)) (cc)
taken d (Some (Out n)) is = cc

none_past : (d : MemDisk) (t : ℕ) (c : List ℕ) → mem_moment d ≡ 0 → MemLeftSince d t c → MemMayLeave d c
none_past d t c start (inl past) = absurd (omega (arith, past.1, past.2, start))
none_past d t c start (inr now) = now

none_with : (d : MemDisk) (t : ℕ) (x : Past × List ℕ) → mem_moment d ≡ 0 → MemLeftWith d t x → (x.0 ≡ mem_past d) × MemMayLeave d x.1
none_with d t x start (inl past) = absurd (omega (arith, past.1, past.2, start))
none_with d t x start (inr now) = now

-- a new disk of an absent file
pub created : (room : ℕ) (d : MemDisk) (old : Option Slot) → IsNewDisk room d → old ≡ None → SameHistory (slot_moment old) (mem_moment d) (SlotLeaves old) (MemMayLeave d) (SlotLeftSince old) (MemLeftSince d) (slot_past old) (mem_past d) (SlotLeftWith old) (MemLeftWith d)
created room d old new none =
    let empty : MemMayLeave d [] = mem_reads d.tape [] (ap Some new.bytes) in
    subst (λ (o : Option Slot). DiskSame o d) (sym none)
    (record {
      moment = new.moment;
      crash = new.crash;
      time = λ t c left. new.crash c (none_past d t c new.moment left);
      keeps = λ t c was. subst (λ (l : List ℕ). MemLeftSince d t l) (sym was) (inr empty);
      past = new.past;
      pasts = λ t x left. let now = none_with d t x new.moment left in (now.0 ∙ new.past, new.crash x.1 now.1);
      keeps_pasts = λ t x was. inr (was.0 ∙ sym new.past, subst (λ (l : List ℕ). MemMayLeave d l) (sym was.1) empty);
    })
