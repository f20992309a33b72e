-- What the steps of `restore` do.
use Rattle.std.specs.Prelude.{◌≡◌, ◌≢◌, ◌⊎◌, ℕ, Bool, true, false, List, [], Option, Some, None, Result, Ok, Err}
use Rattle.tk_disk.specs.Folder.{or_empty}
use Rattle.tk_restore.specs.Reading.{IsReadFrom}
use Rattle.tk_restore.specs.declared.restore.Restoration.{Restoration}
use Rattle.tk_status.specs.declared.finish.Finish.{Finish}
use Rattle.tk_status.specs.Finish.{ended, refused_at, exists_at}
use Rattle.tk_util.specs.Ran.{IsRestored, restore_fault}
use Rattle.tk_util.specs.declared.call.Stop.{Stop}
use Rattle.tk_util.specs.declared.call.Stop.TheVariants as stops

-- what the reading of a file that is to be restored answers
abbrev pub ImageRead : (f : List ℕ) → Result Restoration Stop → Type 0
ImageRead f (Ok r) = IsReadFrom f r × (restore_fault f ≡ None)
ImageRead f (Err (stops.Refused place)) = restore_fault f ≡ Some place
ImageRead f (Err stops.Full) = ⊥
ImageRead f (Err stops.Fault) = Unit {0}
ImageRead f (Err stops.NoMemory) = Unit {0}

-- no step of a restoring answers that a file is full
abbrev pub IsReadStop : Stop → Type 0
IsReadStop (stops.Refused place) = Unit {0}
IsReadStop stops.Full = ⊥
IsReadStop stops.Fault = Unit {0}
IsReadStop stops.NoMemory = Unit {0}

-- the new file was written, or there was one that has bytes, and stays
abbrev pub NewWritten : (image f : List ℕ) (after : Option (List ℕ)) → Result Bool Stop → Type 0
NewWritten image f after (Ok true) = (f ≡ []) × IsRestored image after
NewWritten image f after (Ok false) = (f ≢ []) × (after ≡ Some f)
NewWritten image f after (Err (stops.Refused place)) = ⊥
NewWritten image f after (Err stops.Full) = ⊥
NewWritten image f after (Err stops.Fault) = f ≢ [] → after ≡ Some f
NewWritten image f after (Err stops.NoMemory) = after ≡ Some f

-- nothing but a fault or want of memory keeps a new file from being written
abbrev pub IsWriteStop : Stop → Type 0
IsWriteStop (stops.Refused place) = ⊥
IsWriteStop stops.Full = ⊥
IsWriteStop stops.Fault = Unit {0}
IsWriteStop stops.NoMemory = Unit {0}

-- how a restoring ends where the file was not read
abbrev pub ReadStopped : (tells : Bool) (before : Option (List ℕ)) → Finish → Type 0
ReadStopped tells before finish =
    ((finish ≡ refused_at 0 finish.place) × (tells ≡ true → restore_fault (or_empty before) ≡ Some finish.place)) ⊎ ((finish ≡ ended 4) ⊎ (finish ≡ ended 5))

-- how the writing of the new file ends
pub record WroteNew (image : List ℕ) (before after : Option (List ℕ)) (finish : Finish) : Type 0 where
  pub done : finish.status ≡ 0 → IsRestored image after
  pub exists : finish.status ≡ 7 → or_empty before ≢ []
  pub bytes_stay : or_empty before ≢ [] → (finish.status ≢ 0) × (after ≡ before)
  pub no_memory : finish.status ≡ 5 → or_empty after ≡ or_empty before

-- the statuses of its end
abbrev pub IsWriteEnd : Finish → Type 0
IsWriteEnd finish = (finish ≡ ended 0) ⊎ ((finish ≡ ended 4) ⊎ ((finish ≡ ended 5) ⊎ (finish ≡ exists_at 1)))
