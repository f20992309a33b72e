-- The answers of all workers, in the order of the script.
use Rattle.std.specs.Prelude.{ℕ, ◌<◌, List, [], ◌∷◌, get_or, set, None}
use Rattle.tk_status.specs.declared.Status.{Status}
use Rattle.tk_status.specs.declared.Status.TheVariants as statuses
use Rattle.tk_batch.specs.declared.line.Line.{Line}
use Rattle.tk_batch.specs.declared.line.Out.{Out}

-- a line without a number has no fields
abbrev pub refused : Status → Out
refused status = record { number = None; status = status; fields = [] }

-- the next answer of a worker; memory was wanting where it has none
abbrev pub first_out : List Out → Out
first_out [] = refused statuses.NoMemory
first_out (o ∷ os) = o

abbrev pub rest_of : {A : Type 0} → List A → List A
rest_of [] = []
rest_of (x ∷ xs) = xs

-- for each line the next answer that its worker has, of the workers' lists
abbrev pub woven_outs : List Line → List (List Out) → List Out
woven_outs [] xs = []
woven_outs (l ∷ ls) xs = first_out (get_or xs l.worker []) ∷ woven_outs ls (set xs l.worker (rest_of (get_or xs l.worker [])))

-- each line has one of so many workers
abbrev pub HaveWorkers : ℕ → List Line → Type 0
HaveWorkers n [] = Unit {0}
HaveWorkers n (l ∷ ls) = (l.worker < n) × HaveWorkers n ls
