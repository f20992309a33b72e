-- How a command ends, by its call and by giving its disk back.
use Rattle.std.specs.Prelude.{Result, Ok, Err}
use Rattle.tk_disk.specs.declared.disk.DiskError.{DiskError}
use Rattle.tk_status.specs.declared.Status.{Status}
use Rattle.tk_status.specs.declared.finish.Finish.{Finish}
use Rattle.tk_status.specs.Finish.{ended, refused_at, answered, ended_by}
use Rattle.tk_util.specs.declared.call.Stop.{Stop}
use Rattle.tk_util.specs.declared.call.Stop.TheVariants as stops

-- where the disk was not given back, that is a fault
abbrev pub given_end : Finish → Result (Unit {0}) DiskError → Finish
given_end finish (Ok given) = finish
given_end finish (Err e) = ended 4

-- a refusal stays, whatever giving the disk back answered
abbrev pub call_end : Result Status Stop → Result (Unit {0}) DiskError → Finish
call_end (Ok status) given = given_end (ended_by status) given
call_end (Err (stops.Refused place)) given = refused_at 0 place
call_end (Err stops.Full) given = given_end (answered 21) given
call_end (Err stops.Fault) given = ended 4
call_end (Err stops.NoMemory) given = given_end (ended 5) given
