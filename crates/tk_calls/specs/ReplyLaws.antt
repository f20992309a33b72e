-- What every reply keeps.
use Rattle.std.specs.Prelude.{◌≡◌, Bool, true, false, List}
use Rattle.tk_status.specs.declared.Status.{Status}
use Rattle.tk_status.specs.declared.Status.TheVariants as statuses
use Rattle.tk_model.specs.Entries.{all_were}
use Rattle.tk_model.specs.declared.record.Order.{Order}
use Rattle.tk_model.specs.declared.record.Pair.{Pair}
use Rattle.tk_calls.specs.declared.call.Call.{Call}
use Rattle.tk_calls.specs.declared.call.Plan.{Plan}
use Rattle.tk_calls.specs.declared.call.Position.{Position}
use Rattle.tk_calls.specs.Planned.{planned}
use Rattle.tk_calls.specs.Replies.{reply_of}

-- a status that the records alone bring
abbrev pub is_reply : Status → Bool
is_reply statuses.Success = true
is_reply statuses.NotFound = true
is_reply statuses.Duplication = true
is_reply statuses.Infeasible = true
is_reply statuses.InvalidArgument = true
is_reply (statuses.TooLong length) = true
is_reply (statuses.System faults) = false
is_reply statuses.NotImplemented = false
is_reply statuses.Precondition = false
is_reply (statuses.Broken faults) = false
is_reply statuses.NoMemory = false
is_reply (statuses.Full size need limit) = false
is_reply statuses.Limit = false

abbrev pub RepliesAreCalm : Type 0
RepliesAreCalm = (o : Order) (c : Call) (p : Position) (m : List Pair) → is_reply (reply_of o c p m).status ≡ true

-- touches that were planned say the value in the map so far
abbrev pub RepliesSayWhatStandsThere : Type 0
RepliesSayWhatStandsThere = (o : Order) (ps : List Plan) (m : List Pair) → all_were o (planned o ps m) m ≡ true
