-- What is known when all workers ended and their passes were joined.
use Rattle.std.specs.Prelude.{◌≡◌, ◌≤◌, ℕ, suc, Bool, true, cond, ◌==◌, List, [], ◌∷◌, length, map, get_or, set, sum_by}
use mathlib.Core.List.{IsPrefix}
use Rattle.tk_status.specs.declared.Status.TheVariants as statuses
use Rattle.tk_model.specs.Entries.{legal}
use Rattle.tk_model.specs.declared.record.Pair.{Pair}
use Rattle.tk_model.specs.declared.record.Entry.{Entry}
use Rattle.tk_core.specs.Lists.{has, count, times, once_below}
use Rattle.tk_calls.specs.declared.call.Call.{Call}
use Rattle.tk_batch.specs.declared.line.Line.{Line}
use Rattle.tk_batch.specs.declared.line.Out.{Out}
use Rattle.tk_calls.specs.declared.call.Position.{Position}
use Rattle.tk_calls.specs.declared.call.Position.TheVariants.{Nowhere}
use Rattle.tk_batch.specs.Told.{Setting, Done, Deed, Told, Follows, StaysOut, numbered, broken}
use Rattle.tk_batch.specs.Woven.{HaveWorkers, refused, rest_of, woven_outs}

-- the calls of a worker
abbrev pub calls_of : ℕ → List Line → List Call
calls_of w [] = []
calls_of w (l ∷ ls) = cond (l.worker == w) (l.call ∷ calls_of w ls) (calls_of w ls)

abbrev pub want : Done
want = record { out = refused statuses.NoMemory; broke = [] }

-- the calls with what became of them; where a worker stopped, memory was wanting
abbrev pub deeds : List Call → List Done → List Deed
deeds [] ds = []
deeds (c ∷ cs) [] = record { call = c; done = want } ∷ deeds cs []
deeds (c ∷ cs) (d ∷ ds) = record { call = c; done = d } ∷ deeds cs ds

abbrev pub first_done : List Done → Done
first_done [] = want
first_done (d ∷ ds) = d

-- what became of each line: the next that its worker has, of the workers' lists
abbrev pub woven : List Line → List (List Done) → List Done
woven [] xs = []
woven (l ∷ ls) xs = first_done (get_or xs l.worker []) ∷ woven ls (set xs l.worker (rest_of (get_or xs l.worker [])))

-- what a worker leaves: what its pass has seen, made, broken, met broken and seen fail, and its answers
pub record Left : Type 0 where
  pub seen : List Entry
  pub mine : List (ℕ × Entry)
  pub broke : List ℕ
  pub met : List ℕ
  pub rose : ℕ → Bool
  pub outs : List Out

-- the worker made these calls, each at its place in the history that its pass has seen
pub record Worked (s : Setting) (m : List Pair) (cs : List Call) (x : Left) : Type 0 where
  pub done : List Done
  pub printed : map (λ d. d.out) done ≡ x.outs
  pub few : length done ≤ length cs
  pub end : Position
  pub follows : Follows s m x.seen x.rose (λ j. has j x.met) Nowhere 0 (deeds cs done) end
  pub out_of_memory : StaysOut (deeds cs done)
  pub mine : (n : ℕ) → times n x.mine ≡ numbered n done
  pub broke : (j : ℕ) → count j x.broke ≡ broken j done

-- each worker from the number w on made its calls, and its pass has seen a front of the history, and knows of stores what is so
abbrev pub AllWorked : (s : Setting) (m : List Pair) (log : List Entry) (rose spoilt : ℕ → Bool) (script : List Line) → ℕ → List Left → Type 0
AllWorked s m log rose spoilt script w [] = Unit {0}
AllWorked s m log rose spoilt script w (x ∷ xs) =
    Worked s m (calls_of w script) x
    × IsPrefix x.seen log
    × ((j : ℕ) → x.rose j ≡ true → rose j ≡ true)
    × ((j : ℕ) → has j x.met ≡ true → spoilt j ≡ true)
    × AllWorked s m log rose spoilt script (suc w) xs

-- The passes of the workers have all numbers between them, and each broken store once.
pub record Joined (s : Setting) (m : List Pair) (log : List Entry) (rose : ℕ → Bool) (script : List Line) (xs : List Left) : Type 0 where
  pub lawful : legal s.order m log ≡ true
  pub spoilt : ℕ → Bool
  pub workers : HaveWorkers (length xs) script
  pub worked : AllWorked s m log rose spoilt script 0 xs
  pub mine : (n : ℕ) → sum_by (λ x. times n x.mine) xs ≡ once_below n (length log)
  pub broke : (j : ℕ) → sum_by (λ x. count j x.broke) xs ≡ cond (spoilt j) 1 0

abbrev pub FactsTell : Type 0
FactsTell = (s : Setting) (m : List Pair) (log : List Entry) (rose : ℕ → Bool) (script : List Line) (xs : List Left)
    → Joined s m log rose script xs → Told s m rose script (woven_outs script (map (λ x. x.outs) xs))
