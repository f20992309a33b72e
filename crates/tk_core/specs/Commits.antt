-- What a call asks of what a caller holds, key by key.
use Rattle.std.specs.Prelude.{◌≡◌, ◌||◌, ◌<◌, ℕ, Bool, true, false, List, [], ◌∷◌, is_some}
use Rattle.tk_model.specs.Records.{find}
use Rattle.tk_model.specs.Entries.{is_keep, is_legal, after_entry, changes_of}
use Rattle.tk_model.specs.OrderedRecords.{OrderedRecords}
use Rattle.tk_model.specs.declared.record.Action.{Action}
use Rattle.tk_model.specs.declared.record.Pair.{Pair}
use Rattle.tk_model.specs.declared.record.Touch.{Touch}
use Rattle.tk_model.specs.declared.record.Entry.{Entry}
use Rattle.tk_core.specs.declared.frame.Frame.{Frame}
use Rattle.tk_core.specs.declared.machine.Row.{Row}
use Rattle.tk_core.specs.Lists.{has}
use Rattle.tk_core.specs.Caller.{Caller, knows_broken}
use Rattle.tk_core.specs.Covers.{CoversReads, CoversWrites, Writes, store_of}
use Rattle.tk_core.specs.Needs.{Concerns}
use Rattle.tk_core.specs.Rule.{map_after}
use Rattle.tk_core.specs.Program.{CoreState, caller_of}

-- what a row holds: its caller, without the histories
abbrev pub hand : Row → Caller
hand r = caller_of [] r

-- the store is out with the caller, and known as unbroken
abbrev pub Ready : Caller → ℕ → Type 0
Ready v i = (has i v.out ≡ true) × (knows_broken v i ≡ false)

abbrev pub ReadyAll : Frame → Caller → Type 0
ReadyAll f v = (i : ℕ) → i < f.stores → Ready v i

-- the key is covered for writing, and its store is ready
abbrev pub MayChange : Frame → Caller → List ℕ → Type 0
MayChange f v k = Writes f v.held k × Ready v (store_of f k)

-- the key has a record in one of two maps
abbrev pub is_there : List ℕ → List Pair → List Pair → Bool
is_there k m n = is_some (find k m) || is_some (find k n)

-- an action, on the way from one map to another, changes no key that may not be changed
abbrev pub MayAct : Frame → Caller → List Pair → List Pair → List ℕ → Action → Type 0
MayAct f v m n k a = is_keep a ≡ false → is_there k m n ≡ true → MayChange f v k

abbrev pub MayActEach : Frame → Caller → List Pair → List Pair → List Touch → Type 0
MayActEach f v m n [] = Unit {0}
MayActEach f v m n (t ∷ ts) = MayAct f v m n t.key t.action × MayActEach f v m n ts

-- the call's changes are covered, and the stores that it concerns are ready
pub record MayWrite (f : Frame) (v : Caller) (m : List Pair) (e : Entry) : Type 0 where
  pub writes : CoversWrites f v.held (changes_of f.order m e)
  pub out : (i : ℕ) → i < f.stores → Concerns f m e i → Ready v i

-- the call is legal on this map, and all that it needs is covered and ready
pub record MayMake (f : Frame) (v : Caller) (m : List Pair) (e : Entry) : Type 0 where
  pub fits : is_legal f.order m e ≡ true
  pub reads : CoversReads f v.held e
  pub may_write : MayWrite f v m e

-- the records after the whole history
abbrev pub records_of : CoreState → OrderedRecords
records_of c = record { order = c.frame.order; pairs = map_after c.frame [] c.log }

abbrev pub after_call : Entry → OrderedRecords → OrderedRecords
after_call e r = record { order = r.order; pairs = after_entry r.order e r.pairs }
