-- A disk in memory, by the names that contracts call its parts.
use Rattle.std.specs.Prelude.{◌≡◌, ◌↔◌, ◌+◌, ◌-◌, ℕ, List, length, Bool, true, Option, Some, Result, OnOk, OnErr, IsErr, ◌||◌, ◌==◌, nat_lt}
use Rattle.std.specs.List.{list_any}
use Rattle.tk_disk.specs.declared.disk.DiskError.{DiskError}
use Rattle.tk_disk.specs.declared.memory.MemDisk.{MemDisk}
use Rattle.tk_disk.specs.Disk.{capped, HasCause}
use Rattle.tk_disk.specs.Memory.{TapeView, tape_bytes, tape_past, MayLeave, LeftSince, LeftWith, TapeElapses}
use Rattle.tk_disk.specs.Past.{Past}
use Rattle.tk_disk.specs.Redone.{IsKeptImage}

-- what the disk holds
abbrev pub mem_bytes : MemDisk → List ℕ
mem_bytes d = tape_bytes d.tape

abbrev pub mem_image : MemDisk → Option (List ℕ)
mem_image d = Some (mem_bytes d)

-- what a crash now may leave
abbrev pub MemMayLeave : MemDisk → List ℕ → Type 0
MemMayLeave d = MayLeave d.tape

-- how many steps are written down
abbrev pub mem_moment : MemDisk → ℕ
mem_moment d = length d.tape.steps

-- what a crash at some moment from one on may have left
abbrev pub MemLeftSince : MemDisk → ℕ → List ℕ → Type 0
MemLeftSince d = LeftSince d.tape

-- what was written and cut since the last hard sync
abbrev pub mem_past : MemDisk → Past
mem_past d = tape_past d.tape

-- at some moment from one on this was the past, and a crash might have left that
abbrev pub MemLeftWith : MemDisk → ℕ → Past × List ℕ → Type 0
MemLeftWith d = LeftWith d.tape

-- time goes on from one state to another, over images, and over pasts with images
abbrev pub MemElapses : MemDisk → MemDisk → Type 0
MemElapses old new = TapeElapses old.tape new.tape

-- the image in which the first `keep` bytes written since the last hard sync stand, and a cut where all bytes before it do
abbrev pub IsKeptOf : MemDisk → ℕ → List ℕ → Type 0
IsKeptOf d keep = IsKeptImage keep d.tape.first d.tape.steps d.tape.store

-- what it began with and each step since
abbrev pub mem_tape : MemDisk → TapeView
mem_tape d = d.tape

-- the room that is left
abbrev pub mem_room : MemDisk → ℕ
mem_room d = d.tape.room

-- the numbers of the calls that are to fail
abbrev pub mem_list : MemDisk → List ℕ
mem_list d = d.list

-- the number of the next call
abbrev pub mem_calls : MemDisk → ℕ
mem_calls d = d.calls

-- how often a call has failed
abbrev pub mem_faults : MemDisk → ℕ
mem_faults d = d.faults

-- how many bytes reads have given
abbrev pub mem_taken : MemDisk → ℕ
mem_taken d = d.taken

-- a number stands in a list
abbrev pub is_listed : ℕ → List ℕ → Bool
is_listed call list = list_any (λ k. k == call) list

-- the next call, which takes so much room, is to fail: its number stands in the list, or the room is too small
abbrev pub mem_fails : MemDisk → ℕ → Bool
mem_fails d need = is_listed d.calls d.list || nat_lt d.tape.room need

-- A call that takes so much room fails exactly where it is to fail, and then changes nothing but the counts. Time goes on.
pub record RunsByList {T : Type 0} (need : ℕ) (old new : MemDisk) (result : Result T DiskError) : Type 0 where
  pub exact : IsErr result ↔ (mem_fails old need ≡ true)
  pub cause : HasCause (mem_faults old) (mem_faults new) result
  pub counted : OnErr result (mem_faults new ≡ capped (mem_faults old + 1))
  pub unchanged : OnErr result (mem_tape new ≡ mem_tape old)
  pub spent : OnOk result (mem_room new ≡ mem_room old - need)
  pub list : mem_list new ≡ mem_list old
  pub calls : mem_calls new ≡ capped (mem_calls old + 1)
  pub time : MemElapses old new
