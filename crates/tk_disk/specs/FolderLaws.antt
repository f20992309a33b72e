-- The laws of a folder, for one in memory.
use Rattle.std.specs.Prelude.{◌≡◌, ℕ, ◌≤◌, List, Option, None, Some}
use Rattle.tk_disk.specs.declared.mem_folder.Slot.{Slot}
use Rattle.tk_disk.specs.declared.mem_folder.Slot.TheVariants.{Here, Out}
use Rattle.tk_disk.specs.MemFolder.{slot_file, slot_moment, slot_past, SlotLeaves, SlotLeftSince, SlotLeftWith}
use Rattle.tk_disk.specs.MemoryLaws.{mem_reads, mem_counts_now, mem_only_now, mem_counts_with, mem_only_with, mem_since_with}
use Rattle.tk_disk.specs.Past.{Past}
use Rattle.std.proofs.Common.{refl}

pub slot_reads : (o : Option Slot) (f : List ℕ) → slot_file o ≡ Some f → SlotLeaves o f
slot_reads None f told = cc
slot_reads (Some (Here d)) f told = mem_reads d.tape f told
slot_reads (Some (Out n)) f told = cc

pub slot_counts_now : (o : Option Slot) (t : ℕ) (c : List ℕ) → t ≤ slot_moment o → SlotLeaves o c → SlotLeftSince o t c
slot_counts_now None t c le now = now
slot_counts_now (Some (Here d)) t c le now = mem_counts_now d.tape t c le now
slot_counts_now (Some (Out n)) t c le now = now

pub slot_only_now : (o : Option Slot) (c : List ℕ) → SlotLeftSince o (slot_moment o) c → SlotLeaves o c
slot_only_now None c left = left
slot_only_now (Some (Here d)) c left = mem_only_now d.tape c left
slot_only_now (Some (Out n)) c left = left

pub slot_counts_with : (o : Option Slot) (t : ℕ) (c : List ℕ) → t ≤ slot_moment o → SlotLeaves o c → SlotLeftWith o t (slot_past o, c)
slot_counts_with None t c le now = (refl, now)
slot_counts_with (Some (Here d)) t c le now = mem_counts_with d.tape t c le now
slot_counts_with (Some (Out n)) t c le now = now

pub slot_only_with : (o : Option Slot) (x : Past × List ℕ) → SlotLeftWith o (slot_moment o) x → (x.0 ≡ slot_past o) × SlotLeaves o x.1
slot_only_with None x left = left
slot_only_with (Some (Here d)) x left = mem_only_with d.tape x left
slot_only_with (Some (Out n)) x left = absurd left

pub slot_since_with : (o : Option Slot) (t : ℕ) (x : Past × List ℕ) → SlotLeftWith o t x → SlotLeftSince o t x.1
slot_since_with None t x left = left.1
slot_since_with (Some (Here d)) t x left = mem_since_with d.tape t x left
slot_since_with (Some (Out n)) t x left = left
