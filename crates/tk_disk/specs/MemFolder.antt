-- A folder in memory, by the names that contracts call its parts.
use Rattle.std.specs.Prelude.{◌≡◌, ◌↔◌, ◌+◌, ℕ, List, [], Bool, true, false, Option, None, Some, Result, IsErrOf}
use Rattle.std.specs.Option.{option_map}
use Rattle.tk_disk.specs.declared.disk.DiskError.{DiskError}
use Rattle.tk_disk.specs.declared.disk.DiskError.TheVariants.{Fault}
use Rattle.tk_disk.specs.declared.mem_folder.MemFolder.{MemFolder}
use Rattle.tk_disk.specs.declared.mem_folder.Slot.{Slot}
use Rattle.tk_disk.specs.declared.mem_folder.Slot.TheVariants.{Here, Out}
use Rattle.tk_disk.specs.declared.memory.MemDisk.{MemDisk}
use Rattle.tk_disk.specs.Crash.{Only}
use Rattle.tk_disk.specs.Disk.{capped}
use Rattle.tk_disk.specs.MemDisk.{mem_bytes, mem_room, mem_list, mem_calls, mem_faults, mem_taken, mem_moment, mem_past, is_listed, MemMayLeave, MemLeftSince, MemLeftWith}
use Rattle.tk_disk.specs.Past.{Past, settled_on}
use Rattle.tk_disk.specs.Folder.{KeepsHistory}
use Rattle.tk_disk.specs.Places.{held_at}

-- what a name's slot, or its absence, says: its disk, what its file holds, whether the disk is out, and its count of faults
abbrev pub slot_disk : Option Slot → Option MemDisk
slot_disk None = None
slot_disk (Some (Here d)) = Some d
slot_disk (Some (Out n)) = None

abbrev pub slot_file : Option Slot → Option (List ℕ)
slot_file slot = option_map mem_bytes (slot_disk slot)

abbrev pub slot_is_out : Option Slot → Bool
slot_is_out None = false
slot_is_out (Some (Here d)) = false
slot_is_out (Some (Out n)) = true

abbrev pub slot_faults : Option Slot → ℕ
slot_faults None = 0
slot_faults (Some (Here d)) = mem_faults d
slot_faults (Some (Out n)) = n

-- an absent file reads as an empty one
abbrev pub SlotLeaves : Option Slot → List ℕ → Type 0
SlotLeaves None c = c ≡ []
SlotLeaves (Some (Here d)) c = MemMayLeave d c
SlotLeaves (Some (Out n)) c = ⊥

abbrev pub slot_moment : Option Slot → ℕ
slot_moment None = 0
slot_moment (Some (Here d)) = mem_moment d
slot_moment (Some (Out n)) = 0

abbrev pub SlotLeftSince : Option Slot → ℕ → List ℕ → Type 0
SlotLeftSince None t c = c ≡ []
SlotLeftSince (Some (Here d)) t c = MemLeftSince d t c
SlotLeftSince (Some (Out n)) t c = ⊥

abbrev pub slot_past : Option Slot → Past
slot_past None = settled_on []
slot_past (Some (Here d)) = mem_past d
slot_past (Some (Out n)) = settled_on []

abbrev pub SlotLeftWith : Option Slot → ℕ → Past × List ℕ → Type 0
SlotLeftWith None t x = (x.0 ≡ settled_on []) × (x.1 ≡ [])
SlotLeftWith (Some (Here d)) t x = MemLeftWith d t x
SlotLeftWith (Some (Out n)) t x = ⊥

-- the disk of a name, where it is there and not out
abbrev pub folder_disk : MemFolder → List ℕ → Option MemDisk
folder_disk f name = slot_disk (held_at f.places.items name)

-- what the file at a name holds
abbrev pub folder_file : MemFolder → List ℕ → Option (List ℕ)
folder_file f name = slot_file (held_at f.places.items name)

-- the disk of this name is out
abbrev pub folder_is_out : MemFolder → List ℕ → Bool
folder_is_out f name = slot_is_out (held_at f.places.items name)

-- the count of faults of the disk last given back or added under a name
abbrev pub folder_disk_faults : MemFolder → List ℕ → ℕ
folder_disk_faults f name = slot_faults (held_at f.places.items name)

-- what a crash now may leave at a name
abbrev pub FolderLeaves : MemFolder → List ℕ → List ℕ → Type 0
FolderLeaves f name = SlotLeaves (held_at f.places.items name)

-- how many steps the disk of a name has written down
abbrev pub folder_moment_of : MemFolder → List ℕ → ℕ
folder_moment_of f name = slot_moment (held_at f.places.items name)

-- what a crash at some moment from one on may have left at a name
abbrev pub FolderLeftSince : MemFolder → List ℕ → ℕ → List ℕ → Type 0
FolderLeftSince f name = SlotLeftSince (held_at f.places.items name)

-- what was written and cut since the last hard sync at a name
abbrev pub folder_past_of : MemFolder → List ℕ → Past
folder_past_of f name = slot_past (held_at f.places.items name)

-- at some moment from one on this was the past at a name, and a crash might have left that
abbrev pub FolderLeftWith : MemFolder → List ℕ → ℕ → Past × List ℕ → Type 0
FolderLeftWith f name = SlotLeftWith (held_at f.places.items name)

-- both folders tell the same history of the file at a name
abbrev pub FolderKeeps : (old new : MemFolder) → List ℕ → Type 0
FolderKeeps = KeepsHistory folder_moment_of FolderLeaves FolderLeftSince folder_past_of FolderLeftWith

abbrev pub folder_tells : MemFolder → Bool
folder_tells f = true

-- how often a call has failed
abbrev pub folder_faults : MemFolder → ℕ
folder_faults f = f.faults

-- the room of each disk that is created
abbrev pub folder_room : MemFolder → ℕ
folder_room f = f.room

-- the numbers of the calls that are to fail
abbrev pub folder_list : MemFolder → List ℕ
folder_list f = f.list

-- the number of the next call
abbrev pub folder_calls : MemFolder → ℕ
folder_calls f = f.calls

-- the next call is to fail: its number stands in the list
abbrev pub folder_fails : MemFolder → Bool
folder_fails f = is_listed f.calls f.list

-- A call fails exactly where its number stands in the list, and raises the count exactly there.
pub record FailsByList {T : Type 0} (old new : MemFolder) (result : Result T DiskError) : Type 0 where
  pub exact : IsErrOf result Fault ↔ (folder_fails old ≡ true)
  pub counted : folder_fails old ≡ true → folder_faults new ≡ capped (folder_faults old + 1)
  pub uncounted : folder_fails old ≡ false → folder_faults new ≡ folder_faults old
  pub room : folder_room new ≡ folder_room old
  pub list : folder_list new ≡ folder_list old
  pub calls : folder_calls new ≡ capped (folder_calls old + 1)

-- a new disk of no bytes, that fails by its room alone
pub record IsNewDisk (room : ℕ) (d : MemDisk) : Type 0 where
  pub bytes : mem_bytes d ≡ []
  pub crash : Only [] (MemMayLeave d)
  pub room_left : mem_room d ≡ room
  pub list : mem_list d ≡ []
  pub moment : mem_moment d ≡ 0
  pub past : mem_past d ≡ settled_on []
  pub calls : mem_calls d ≡ 0
  pub faults : mem_faults d ≡ 0
  pub taken : mem_taken d ≡ 0

-- the disk that was there, or a new one
abbrev pub IsTakenFrom : Option MemDisk → ℕ → MemDisk → Type 0
IsTakenFrom (Some was) room d = d ≡ was
IsTakenFrom None room d = IsNewDisk room d
