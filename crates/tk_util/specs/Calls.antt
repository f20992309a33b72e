-- What one call on a hash file leaves.
use Rattle.std.specs.Prelude.{◌≡◌, ℕ, ◌+◌, ◌^◌, Bool, true, false, List, [], ◌∷◌, ◌++◌, length, Option, Some, None, sum_by, if◌then◌else◌}
use Rattle.tk_model.specs.Records.{find, replay}
use Rattle.tk_model.specs.Entries.{group_of}
use Rattle.tk_model.specs.declared.record.Order.TheVariants.{Hash}
use Rattle.tk_model.specs.declared.record.Group.{Group}
use Rattle.tk_model.specs.declared.record.Action.{Action}
use Rattle.tk_model.specs.declared.record.Change.{Change}
use Rattle.tk_model.specs.declared.record.ShardOf.{ShardOf}
use Rattle.tk_model.specs.declared.error.OpenError.{OpenError}
use Rattle.tk_model.specs.declared.error.OpenError.TheVariants as errors
use Rattle.tk_status.specs.declared.Status.{Status}
use Rattle.tk_proc.specs.Runs.{status_unless_long}
use Rattle.tk_disk.specs.Crash.{Within}
use Rattle.tk_store.specs.Store.{extent_of, is_over}
use Rattle.tk_store.specs.OneRecord.{call_changes}
use Rattle.tk_block.specs.declared.head.StaticHead.{StaticHead}
use Rattle.tk_append.specs.Log.{closed_text}
use Rattle.tk_append.specs.Restored.{IsKept}
use Rattle.tk_append.specs.Opening.{first_fault}
use Rattle.tk_util.specs.declared.call.Stop.{Stop}
use Rattle.tk_util.specs.declared.call.Stop.TheVariants.{Refused, Fault, NoMemory}

-- a file that is no part of a set
abbrev pub alone : ShardOf
alone = record { index = 0; of = 1 }

-- a file is a hash file that an opening accepts, and holds these groups
pub record HoldsDatabase (writable : Bool) (f : List ℕ) : Type 0 where
  pub accepted : first_fault (1 ∷ []) writable alone f ≡ None
  pub head : StaticHead
  pub groups : List Group
  pub next : ℕ
  pub file : f ≡ closed_text head groups next

-- where each image of a file has the header and the blocks of its groups, each later image has them
abbrev pub Spares : (f : List ℕ) → (left leaves : List ℕ → Type 0) → Type 0
Spares f left leaves = (holds : HoldsDatabase true f) → ((d : List ℕ) → left d → IsKept holds.head holds.groups d) → (c : List ℕ) → leaves c → IsKept holds.head holds.groups c

-- a disk was read at most: it holds what it held, and a crash leaves nothing that it didn't before
pub record IsStill (before after : Option (List ℕ)) (left leaves : List ℕ → Type 0) : Type 0 where
  pub same : after ≡ before
  pub crash : Within left leaves

-- the bytes that changes need pass the limit of a file
abbrev pub exceeds_limit : (f : List ℕ) → List Change → Bool
exceeds_limit f changes = is_over (length f) (sum_by (extent_of 1) changes) (2 ^ 40) changes

-- the file of these groups after a call under the next number: where it was opened for writing it has a group more, if something changed, and the next number is one more
abbrev pub called_file : (writable : Bool) → StaticHead → List Group → (next : ℕ) → List Change → List ℕ
called_file writable h groups next changes = if writable then closed_text h (groups ++ group_of next changes) (next + 1) else closed_text h groups next

module _ {P : Type 0} (acts : P → List ℕ → Option (List ℕ) → Action) (turns : P → List ℕ → Option (List ℕ) → P) where
  -- the call of a processor at a key was made on the records of these groups
  pub record MadeOn (h : StaticHead) (groups : List Group) (next : ℕ) (writable : Bool) (key : List ℕ) (old new : P) (after : Option (List ℕ)) (status : Status) : Type 0 where
    pub status_is : status ≡ status_unless_long (acts old key (find key (replay Hash groups [])))
    pub turned : new ≡ turns old key (find key (replay Hash groups []))
    pub room : exceeds_limit (closed_text h groups next) (call_changes acts old key (replay Hash groups [])) ≡ false
    pub after_is : after ≡ Some (called_file writable h groups next (call_changes acts old key (replay Hash groups [])))

  pub record Made (writable : Bool) (f key : List ℕ) (old new : P) (after : Option (List ℕ)) (status : Status) : Type 0 where
    pub holds : HoldsDatabase writable f
    pub made : MadeOn holds.head holds.groups holds.next writable key old new after status

module _ {P : Type 0} (acts : P → List ℕ → Option (List ℕ) → Action) where
  -- there was no room for it
  pub record NoRoomOn (h : StaticHead) (groups : List Group) (next : ℕ) (key : List ℕ) (old : P) (after : Option (List ℕ)) : Type 0 where
    pub full : exceeds_limit (closed_text h groups next) (call_changes acts old key (replay Hash groups [])) ≡ true
    pub after_is : after ≡ Some (closed_text h groups next)

  pub record NoRoom (writable : Bool) (f key : List ℕ) (old : P) (after : Option (List ℕ)) : Type 0 where
    pub holds : HoldsDatabase writable f
    pub full : NoRoomOn holds.head holds.groups holds.next key old after

-- the place by which a refusal is told: 0 where there is no header
abbrev pub place_of : OpenError → ℕ
place_of errors.NotADatabase = 0
place_of (errors.BrokenAt place) = place
place_of errors.Fault = 0
place_of errors.NoMemory = 0

-- the file was refused, at the first place that fails
pub record RefusedAt (writable : Bool) (f : List ℕ) (place : ℕ) : Type 0 where
  pub cause : OpenError
  pub fault : first_fault (1 ∷ []) writable alone f ≡ Some cause
  pub place_is : place ≡ place_of cause

-- why a call was not made, where the file was not opened
abbrev pub StopTells : OpenError → Stop → Type 0
StopTells errors.NotADatabase stop = stop ≡ Refused 0
StopTells (errors.BrokenAt place) stop = stop ≡ Refused place
StopTells errors.Fault stop = stop ≡ Fault
StopTells errors.NoMemory stop = stop ≡ NoMemory
