-- The numbers and names of statuses.
use Rattle.std.specs.Prelude.{ℕ, List, codes}
use Rattle.tk_status.specs.declared.Status.{Status}
use Rattle.tk_status.specs.declared.Status.TheVariants as statuses

abbrev pub number_of : Status → ℕ
number_of statuses.Success = 0
number_of (statuses.System faults) = 2
number_of statuses.NotImplemented = 3
number_of statuses.Precondition = 4
number_of statuses.InvalidArgument = 5
number_of statuses.NotFound = 7
number_of statuses.Infeasible = 9
number_of statuses.Duplication = 10
number_of (statuses.Broken faults) = 11
number_of statuses.NoMemory = 20
number_of (statuses.Full size need limit) = 21
number_of statuses.Limit = 22
number_of (statuses.TooLong length) = 23

unfoldable pub text_of : Status → List ℕ
text_of statuses.Success = codes "SUCCESS"
text_of (statuses.System faults) = codes "SYSTEM_ERROR"
text_of statuses.NotImplemented = codes "NOT_IMPLEMENTED_ERROR"
text_of statuses.Precondition = codes "PRECONDITION_ERROR"
text_of statuses.InvalidArgument = codes "INVALID_ARGUMENT_ERROR"
text_of statuses.NotFound = codes "NOT_FOUND_ERROR"
text_of statuses.Infeasible = codes "INFEASIBLE_ERROR"
text_of statuses.Duplication = codes "DUPLICATION_ERROR"
text_of (statuses.Broken faults) = codes "BROKEN_DATA_ERROR"
text_of statuses.NoMemory = codes "NO_MEMORY"
text_of (statuses.Full size need limit) = codes "FULL"
text_of statuses.Limit = codes "LIMIT"
text_of (statuses.TooLong length) = codes "TOO_LONG"
