-- What a pass knows: the core's caller, and beside it what the core does not speak of.
use Rattle.std.specs.Prelude.{ℕ, ◌==◌, ◌≤◌, List, [], ◌∷◌, Option, None, cond}
use Rattle.tk_model.specs.declared.record.Entry.{Entry}
use Rattle.tk_core.specs.Caller.{Caller}
use Rattle.tk_core.specs.Moves.{spent}
use Rattle.tk_core.specs.Steps.{first_caller}

pub record View : Type 0 where
  pub caller : Caller
  -- the counts of faults that it saw of stores, the newest first
  pub counts : List (ℕ × ℕ)
  -- the kept counts that it found or gave, the newest first; None of an unbroken store
  pub marks : List (ℕ × Option ℕ)
  -- after a join, and until the next look: the shorter of what both had seen
  pub other : List Entry

-- the newest count of a store
abbrev pub noted : ℕ → List (ℕ × ℕ) → ℕ
noted i [] = 0
noted i (p ∷ ps) = cond (i == p.0) p.1 (noted i ps)

-- the newest mark of a store
abbrev pub marked : ℕ → List (ℕ × Option ℕ) → Option ℕ
marked i [] = None
marked i (p ∷ ps) = cond (i == p.0) p.1 (marked i ps)

-- no count is above these
abbrev pub Under : (ℕ → ℕ) → List (ℕ × ℕ) → Type 0
Under floor [] = Unit {0}
Under floor (p ∷ ps) = (p.1 ≤ floor p.0) × Under floor ps

abbrev pub first_view : View
first_view = record { caller = first_caller; counts = []; marks = []; other = [] }

abbrev pub nobody : View
nobody = record { caller = spent; counts = []; marks = []; other = [] }

abbrev pub with_caller : Caller → View → View
with_caller w v = record v { caller = w }

abbrev pub with_count : ℕ → ℕ → View → View
with_count i n v = record v { counts = (i, n) ∷ v.counts }

-- the counts of one store
abbrev pub of_store : ℕ → List (ℕ × ℕ) → List (ℕ × ℕ)
of_store i [] = []
of_store i (p ∷ ps) = cond (i == p.0) (p ∷ of_store i ps) (of_store i ps)

abbrev pub with_mark : ℕ → Option ℕ → View → View
with_mark i b v = record v { marks = (i, b) ∷ v.marks }
