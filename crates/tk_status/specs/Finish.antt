-- The ends of commands.
use Rattle.std.specs.Prelude.{ℕ, ◌==◌, if◌then◌else◌}
use Rattle.tk_status.specs.Statuses.{number_of}
use Rattle.tk_status.specs.declared.Status.{Status}
use Rattle.tk_status.specs.declared.finish.Finish.{Finish}

-- ended with this status and nothing more to tell
abbrev pub ended : (status : ℕ) → Finish
ended status = record { status = status; line = 0; file = 0; place = 0; answer = 0 }

-- a file was refused at a place
abbrev pub refused_at : (file place : ℕ) → Finish
refused_at file place = record { status = 3; line = 0; file = file; place = place; answer = 0 }

-- a file that was to be written new has bytes
abbrev pub exists_at : (file : ℕ) → Finish
exists_at file = record { status = 7; line = 0; file = file; place = 0; answer = 0 }

-- a call answered the status of this number, which is not success
abbrev pub answered : (answer : ℕ) → Finish
answered answer = record { status = 6; line = 0; file = 0; place = 0; answer = answer }

-- a call ended with a status
abbrev pub ended_by : Status → Finish
ended_by s = if number_of s == 0 then ended 0 else answered (number_of s)
