-- Where the reply of a processor counts.
use Rattle.std.specs.Prelude.{Bool, true, false, ◌&&◌, is_some, if◌then◌else◌}
use Rattle.tk_status.specs.declared.Status.{Status}
use Rattle.tk_status.specs.declared.Status.TheVariants as statuses
use Rattle.tk_dbm.specs.declared.answer.Answer.{Answer}
use Rattle.tk_derived.specs.Derived.{is_no}

abbrev pub is_success : Status → Bool
is_success statuses.Success = true
is_success (statuses.System faults) = false
is_success statuses.NotImplemented = false
is_success statuses.Precondition = false
is_success statuses.InvalidArgument = false
is_success statuses.NotFound = false
is_success statuses.Infeasible = false
is_success statuses.Duplication = false
is_success (statuses.Broken faults) = false
is_success statuses.NoMemory = false
is_success (statuses.Full size need limit) = false
is_success statuses.Limit = false
is_success (statuses.TooLong length) = false

-- the call has a number and succeeded
abbrev pub succeeded : Answer → Bool
succeeded a = is_some a.number && is_success a.status

-- the answer, with a no of the processor in place of success
abbrev pub answered : Answer → Status → Answer
answered a st = if succeeded a && is_no st then record { status = st; number = a.number } else a
