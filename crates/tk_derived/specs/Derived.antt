-- What a call by a row of the reply table tells its caller.
use Rattle.std.specs.Prelude.{◌≡◌, ◌⊎◌, ℕ, Bool, true, false, List, Option, Some, None, is_some, unwrap_or}
use Rattle.tk_status.specs.declared.Status.{Status}
use Rattle.tk_status.specs.declared.Status.TheVariants as statuses
use Rattle.tk_model.specs.Records.{find}
use Rattle.tk_model.specs.declared.record.Entry.{Entry}
use Rattle.tk_model.specs.declared.record.Group.{Group}
use Rattle.tk_model.specs.declared.record.Pair.{Pair}
use Rattle.tk_store.specs.Store.{First, StoreView, StoreConstants}
use Rattle.tk_locks.specs.View.{View}
use Rattle.tk_dbm.specs.declared.answer.Answer.{Answer}
use Rattle.tk_dbm.specs.declared.dbm.Dbm.{Dbm}
use Rattle.tk_dbm.specs.Setting.{Setting, records_at, AllTell, uses_key}
use Rattle.tk_dbm.specs.Calls.{Called, is_system}
use Rattle.tk_dbm.specs.Room.{IsFull, AllHaveRoom}
use Rattle.tk_dbm.specs.Dbm.{its, setting}
use Rattle.tk_derived.specs.Rows.{Row, row_entry, row_status, made_status}

-- a status of the reply table by which a call says no
abbrev pub is_no : Status → Bool
is_no statuses.Success = false
is_no (statuses.System faults) = false
is_no statuses.NotImplemented = false
is_no statuses.Precondition = false
is_no statuses.InvalidArgument = true
is_no statuses.NotFound = true
is_no statuses.Infeasible = true
is_no statuses.Duplication = true
is_no (statuses.Broken faults) = false
is_no statuses.NoMemory = false
is_no (statuses.Full size need limit) = false
is_no statuses.Limit = false
is_no (statuses.TooLong length) = false

-- the statuses behind which a call with a number tells no value
abbrev pub is_mute : Status → Bool
is_mute statuses.Success = false
is_mute (statuses.System faults) = true
is_mute statuses.NotImplemented = false
is_mute statuses.Precondition = false
is_mute statuses.InvalidArgument = false
is_mute statuses.NotFound = false
is_mute statuses.Infeasible = false
is_mute statuses.Duplication = false
is_mute (statuses.Broken faults) = false
is_mute statuses.NoMemory = false
is_mute (statuses.Full size need limit) = false
is_mute statuses.Limit = false
is_mute (statuses.TooLong length) = true

-- the database succeeded, and the call by its row says no
pub record SaysNo (inner : Status) (a : Answer) : Type 0 where
  pub success : inner ≡ statuses.Success
  pub number : is_some a.number ≡ true
  pub no : is_no a.status ≡ true

-- The call is one of the database. With a number its entry and its status are those of its row at the value before that number, or the status is System.
pub record Derived (s : Setting) (full : List Entry → Entry → ℕ → ℕ → ℕ → Type 0) (room : List Entry → Entry → Type 0)
    (writes : Bool) (key : List ℕ) (row : Option (List ℕ) → Row) (v : View) (a : Answer) (w : View) : Type 0 where
  -- what the database answered; a refusal of it is the call's
  pub inner : Status
  pub called : Called s full room writes (uses_key s key) (made_status key row) (row_entry key row) v (record { status = inner; number = a.number }) w
  pub status : (a.status ≡ inner) ⊎ SaysNo inner a
  pub replied : (n : ℕ) → a.number ≡ Some n → AllTell s (uses_key s key)
      → (a.status ≡ row_status key row (records_at s w.caller n)) ⊎ (is_system a.status ≡ true)

-- An out parameter: the value of the row at the value before the call's number, and as it was where there is none.
pub record IsTold {A : Type 0} (s : Setting) (key : List ℕ) (value : Option (List ℕ) → Option A) (a : Answer) (w : View) (old new : A) : Type 0 where
  pub unnumbered : a.number ≡ None → new ≡ old
  pub mute : is_mute a.status ≡ true → new ≡ old
  pub told : (n : ℕ) → a.number ≡ Some n → is_mute a.status ≡ false → AllTell s (uses_key s key)
      → new ≡ unwrap_or (value (find key (records_at s w.caller n))) old

-- the same, of a database
module _ {T : Type 0} (law : List Pair → Bool) (stands : T → First → List Group → ℕ → Type 0) (store_view : T → StoreView) (constants : T → StoreConstants) (faults : T → ℕ) (d : Dbm T) where
  abbrev pub Replies : (writes : Bool) (key : List ℕ) (row : Option (List ℕ) → Row) → View → Answer → View → Type 0
  Replies writes key row v a w = Derived (setting law store_view faults d) (IsFull stands store_view constants (its d)) (AllHaveRoom stands store_view constants (its d)) writes key row v a w
