-- A folder over a directory, by the names that contracts call its parts.
use Rattle.std.specs.Prelude.{ℕ, List, Bool, false, Option, None, Some}
use Rattle.tk_disk.specs.declared.dir_folder.DirFolder.{DirFolder}
use Rattle.tk_disk.specs.declared.dir_folder.Visit.{Visit}
use Rattle.tk_disk.specs.Places.{held_at}

-- what is known of a name, where it was ever asked for
abbrev pub visit_is_out : Option Visit → Bool
visit_is_out None = false
visit_is_out (Some visit) = visit.out

abbrev pub visit_faults : Option Visit → ℕ
visit_faults None = 0
visit_faults (Some visit) = visit.faults

-- the disk of this name is out
abbrev pub dir_is_out : {R : Type 0} → DirFolder R → List ℕ → Bool
dir_is_out f name = visit_is_out (held_at f.places.items name)

-- the count of faults of the disk last given back under a name
abbrev pub dir_disk_faults : {R : Type 0} → DirFolder R → List ℕ → ℕ
dir_disk_faults f name = visit_faults (held_at f.places.items name)

-- how often a call has failed
abbrev pub dir_faults : {R : Type 0} → DirFolder R → ℕ
dir_faults f = f.faults
