-- What the reading of a whole file answers.
use Rattle.std.specs.Prelude.{◌≡◌, ℕ, ◌≤◌, Bool, List, Option, None, IfSome, Result, Ok, Err, OnOk, IsErrOf}
use Rattle.tk_disk.specs.Disk.{Rose}
use Rattle.tk_model.specs.declared.record.ShardOf.{ShardOf}
use Rattle.tk_model.specs.declared.error.OpenError.{OpenError}
use Rattle.tk_model.specs.declared.error.OpenError.TheVariants as errors
use Rattle.tk_append.specs.Chains.{HeadsAre}
use Rattle.tk_append.specs.Log.{TellsCause, blocks_of}
use Rattle.tk_append.specs.Checked.{IsClosed}
use Rattle.tk_append.specs.declared.check.Found.{Found}

-- a cause that says nothing of the file
abbrev pub IsOutside : OpenError → Type 0
IsOutside errors.NotADatabase = ⊥
IsOutside (errors.BrokenAt place) = ⊥
IsOutside errors.Fault = Unit {0}
IsOutside errors.NoMemory = Unit {0}

-- the count of faults never falls, and a fault comes only where it rose
pub record HasOpenCause {T : Type 0} (before now : ℕ) (result : Result T OpenError) : Type 0 where
  pub later : before ≤ now
  pub kept : OnOk result (now ≡ before)
  pub fault : IsErrOf result errors.Fault → Rose before now

-- the answer of a check, as far as it speaks of the file
abbrev pub TellsResult : {T : Type 0} → Result T OpenError → Option OpenError → Type 0
TellsResult (Ok x) fault = fault ≡ None
TellsResult (Err e) fault = TellsCause e fault

-- what was found is the closed file of some groups, of the disk's bytes where it tells them, with the newest block of each bucket
pub record IsClosedOn (image : Option (List ℕ)) (kinds : List ℕ) (writable : Bool) (shard : ShardOf) (found : Found) (heads : List ℕ) : Type 0 where
  pub bytes : List ℕ
  pub closed : IsClosed kinds writable shard bytes found
  pub heads_are : HeadsAre found.head.p heads (blocks_of found.head closed.groups)
  pub told : IfSome image (λ f. f ≡ bytes)
