-- A file of the system, by the names that contracts call its counts.
use Rattle.std.specs.Prelude.{ℕ}
use Rattle.tk_disk.specs.declared.file.FileDisk.{FileDisk}

-- how often a call has failed
abbrev pub file_faults : FileDisk → ℕ
file_faults d = d.faults

-- how many bytes reads have given
abbrev pub file_taken : FileDisk → ℕ
file_taken d = d.taken
