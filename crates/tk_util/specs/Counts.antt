-- Counts of faults, and what an answer says of them.
use Rattle.std.specs.Prelude.{◌≡◌, ◌≢◌, ◌⊎◌, ℕ, ◌≤◌, List, Result, IfErr, OnOk, IsErrOf}
use Rattle.tk_disk.specs.Disk.{Rose}
use Rattle.tk_status.specs.declared.finish.Finish.{Finish}

-- the count never falls; this error comes only where it rose, and success leaves it
pub record HasCause {T E : Type 0} (error : E) (before now : ℕ) (result : Result T E) : Type 0 where
  pub later : before ≤ now
  pub fault : IsErrOf result error → Rose before now
  pub kept : OnOk result (now ≡ before)

-- the same, and each other error leaves the count too
pub record HasExactCause {T E : Type 0} (error : E) (before now : ℕ) (result : Result T E) : Type 0 where
  pub later : before ≤ now
  pub fault : IsErrOf result error → Rose before now
  pub other : IfErr result (λ e. e ≢ error → now ≡ before)
  pub kept : OnOk result (now ≡ before)

-- the count of a folder or of one of its disks rose
abbrev pub RoseIn : (old new : ℕ) (disks_old disks_new : List ℕ → ℕ) → Type 0
RoseIn old new disks_old disks_new = Rose old new ⊎ ((name : List ℕ) × Rose (disks_old name) (disks_new name))

-- A command ends with a fault only where a count of the folder or of a disk rose. Where it ends without a fault, a refusal or
-- a file that is there already, none did.
pub record EndsByCounts (old new : ℕ) (disks_old disks_new : List ℕ → ℕ) (finish : Finish) : Type 0 where
  pub fault : finish.status ≡ 4 → RoseIn old new disks_old disks_new
  pub folder : finish.status ≢ 3 → finish.status ≢ 4 → finish.status ≢ 7 → new ≡ old
  pub disks : finish.status ≢ 3 → finish.status ≢ 4 → finish.status ≢ 7 → (name : List ℕ) → disks_new name ≡ disks_old name
