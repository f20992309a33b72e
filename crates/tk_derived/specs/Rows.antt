-- What each call of one record answers and does, by the value at its key.
use Rattle.std.specs.Prelude.{ℕ, Bool, List, [], ◌∷◌, Option, Some, ℤ, if◌then◌else◌}
use Rattle.tk_status.specs.declared.Status.{Status}
use Rattle.tk_status.specs.declared.Status.TheVariants.{TooLong}
use Rattle.tk_model.specs.Records.{find}
use Rattle.tk_model.specs.Entries.{stored}
use Rattle.tk_model.specs.declared.record.Action.{Action}
use Rattle.tk_model.specs.declared.record.Pair.{Pair}
use Rattle.tk_model.specs.declared.record.Entry.{Entry}
use Rattle.tk_proc.specs.Replies.{Reply, get_reply, set_reply, remove_reply, append_reply, exchange_reply}
use Rattle.tk_proc.specs.Increments.{increment_reply}
use Rattle.tk_proc.specs.Runs.{is_long, unless_long, status_unless_long}
use Rattle.tk_proc.specs.declared.exchange.Expected.{Expected}
use Rattle.tk_proc.specs.declared.exchange.Desired.{Desired}
use Rattle.tk_dbm.specs.OneKey.{one}

-- what a call answers at a value, and what becomes of the record
pub record Row : Type 0 where
  pub status : Status
  pub action : Action

abbrev pub row_of : Reply → Row
row_of r = record { status = r.status; action = r.action }

abbrev pub get_row : Option (List ℕ) → Row
get_row was = row_of (get_reply was)

abbrev pub set_row : (value : List ℕ) (overwrite : Bool) → Option (List ℕ) → Row
set_row x overwrite was = row_of (set_reply x overwrite was)

abbrev pub remove_row : Option (List ℕ) → Row
remove_row was = row_of (remove_reply was)

abbrev pub append_row : (value delimiter : List ℕ) → Option (List ℕ) → Row
append_row x d was = row_of (append_reply x d was)

abbrev pub exchange_row : Expected → Desired → Option (List ℕ) → Row
exchange_row e d was = row_of (exchange_reply e d was)

abbrev pub increment_row : (n initial : ℤ) → Option (List ℕ) → Row
increment_row n initial was = record { status = (increment_reply n initial was).status; action = (increment_reply n initial was).action }

-- what an out parameter is told: the value that was read, the number, and of an exchange each value or none
abbrev pub get_value : Option (List ℕ) → Option (List ℕ)
get_value was = (get_reply was).value

abbrev pub increment_value : (n initial : ℤ) → Option (List ℕ) → Option ℤ
increment_value n initial was = (increment_reply n initial was).number

abbrev pub exchange_value : Expected → Desired → Option (List ℕ) → Option (List (Option (List ℕ)))
exchange_value e d was = Some ((exchange_reply e d was).value ∷ [])

-- the call at a key on given records; a value that is too long is not stored
module _ (key : List ℕ) (row : Option (List ℕ) → Row) where
  abbrev pub row_entry : List Pair → Entry
  row_entry m = one key (find key m) (unless_long (row (find key m)).action)

  -- what it answers there
  abbrev pub row_status : List Pair → Status
  row_status m = if is_long (row (find key m)).action then TooLong (stored (row (find key m)).action) else (row (find key m)).status

  -- what the database answers it with there
  abbrev pub made_status : List Pair → Status
  made_status m = status_unless_long (row (find key m)).action
