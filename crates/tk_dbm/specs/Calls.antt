-- What each call of a database tells its caller.
use Rattle.std.specs.Prelude.{◌≡◌, ◌⊎◌, ◌+◌, ◌<◌, ◌&&◌, ◌||◌, ℕ, Bool, true, false, not, List, [], ◌∷◌, ◌++◌, length, take, Option, Some, None, Contains, is_some}
use mathlib.Core.List.{IsPrefix}
use Rattle.tk_status.specs.declared.Status.{Status}
use Rattle.tk_status.specs.declared.Status.TheVariants as statuses
use Rattle.tk_model.specs.Counts.{Rose}
use Rattle.tk_model.specs.declared.record.Pair.{Pair}
use Rattle.tk_model.specs.declared.record.Entry.{Entry}
use Rattle.tk_core.specs.Caller.{Caller}
use Rattle.tk_core.specs.Lists.{has}
use Rattle.tk_core.specs.Rule.{IsLawful}
use Rattle.tk_locks.specs.Rule.{Risen}
use Rattle.tk_locks.specs.View.{View}
use Rattle.tk_dbm.specs.declared.answer.Answer.{Answer}
use Rattle.tk_dbm.specs.Setting.{Setting, records_at, records_seen, AllTell, newest}

abbrev pub is_system : Status → Bool
is_system statuses.Success = false
is_system (statuses.System faults) = true
is_system statuses.NotImplemented = false
is_system statuses.Precondition = false
is_system statuses.InvalidArgument = false
is_system statuses.NotFound = false
is_system statuses.Infeasible = false
is_system statuses.Duplication = false
is_system (statuses.Broken faults) = false
is_system statuses.NoMemory = false
is_system (statuses.Full size need limit) = false
is_system statuses.Limit = false
is_system (statuses.TooLong length) = false

-- the statuses that a call with a number may have
abbrev pub has_place : Status → Bool
has_place statuses.Success = true
has_place (statuses.System faults) = true
has_place statuses.NotImplemented = false
has_place statuses.Precondition = false
has_place statuses.InvalidArgument = false
has_place statuses.NotFound = true
has_place statuses.Infeasible = false
has_place statuses.Duplication = false
has_place (statuses.Broken faults) = false
has_place statuses.NoMemory = false
has_place (statuses.Full size need limit) = false
has_place statuses.Limit = false
has_place (statuses.TooLong length) = true

-- What a call saw of stores: counts of faults and marks of brokenness, the newest first. more: the stores that it broke. found: those that it found broken.
module _ (s : Setting) (counts : List (ℕ × ℕ)) (marks : List (ℕ × Option ℕ)) (more found : List ℕ) where
  -- no count of the store rose in this call
  abbrev pub IsSteady : ℕ → Type 0
  IsSteady j = (a b : ℕ) → Contains counts (j, a) → Contains counts (j, b) → a ≡ b

  -- the faults of a store rose in this call; the count is that of the first such store in order, and is kept of each store that the call broke
  pub record Failed (faults : ℕ) : Type 0 where
    pub store : ℕ
    pub broken : has store more ≡ true
    pub before : ℕ
    pub began : Contains counts (store, before)
    pub ended : newest store counts ≡ Some faults
    pub risen : Rose before faults
    pub order : (j : ℕ) → j < store → has j more ≡ true → IsSteady j
    pub kept : (j : ℕ) → has j more ≡ true → newest j marks ≡ Some (Some faults)
    pub none : found ≡ []

  -- a store that the call took is broken; the count is the one that is kept of the first such store in order
  pub record FoundBroken (faults : ℕ) : Type 0 where
    pub store : ℕ
    pub met : has store found ≡ true
    pub kept : newest store marks ≡ Some (Some faults)
    pub risen : Risen s.frame s.begun faults
    pub order : (j : ℕ) → j < store → has j found ≡ false
    pub none : more ≡ []

  abbrev pub ByStatus : Status → Type 0
  ByStatus statuses.Success = (more ≡ []) × (found ≡ [])
  ByStatus (statuses.System faults) = Failed faults
  ByStatus statuses.NotImplemented = (more ≡ []) × (found ≡ [])
  ByStatus statuses.Precondition = (more ≡ []) × (found ≡ [])
  ByStatus statuses.InvalidArgument = (more ≡ []) × (found ≡ [])
  ByStatus statuses.NotFound = (more ≡ []) × (found ≡ [])
  ByStatus statuses.Infeasible = (more ≡ []) × (found ≡ [])
  ByStatus statuses.Duplication = (more ≡ []) × (found ≡ [])
  ByStatus (statuses.Broken faults) = FoundBroken faults
  ByStatus statuses.NoMemory = (more ≡ []) × (found ≡ [])
  ByStatus (statuses.Full size need limit) = (more ≡ []) × (found ≡ [])
  ByStatus statuses.Limit = (more ≡ []) × (found ≡ [])
  ByStatus (statuses.TooLong length) = (more ≡ []) × (found ≡ [])

-- What becomes of the stores that a pass knows: it took, found broken and broke stores of the call alone. It broke some exactly where the status is System, and found some broken exactly where it is Broken.
pub record Stores (s : Setting) (uses : ℕ → Bool) (v : View) (status : Status) (w : View) : Type 0 where
  pub counts : List (ℕ × ℕ)
  pub marks : List (ℕ × Option ℕ)
  pub more : List ℕ
  pub found : List ℕ
  pub counts_are : w.counts ≡ counts ++ v.counts
  pub marks_are : w.marks ≡ marks ++ v.marks
  pub broke_is : w.caller.broke ≡ more ++ v.caller.broke
  pub met_is : w.caller.met ≡ found ++ v.caller.met
  pub own : (j : ℕ) → (is_some (newest j counts) || is_some (newest j marks) || has j more || has j found) ≡ true → uses j ≡ true
  pub by_status : ByStatus s counts marks more found status

-- The call stands in the history at its number, the last that its pass has seen, after all that the pass saw before. Where its stores tell their records it is this call on the records before it.
pub record HasNumber (s : Setting) (uses : ℕ → Bool) (entry : List Pair → Entry) (v w : Caller) (n : ℕ) : Type 0 where
  pub call : Entry
  pub front : IsPrefix v.seen (take n w.seen)
  pub seen : w.seen ≡ take n w.seen ++ call ∷ []
  pub place : length w.seen ≡ n + 1
  pub lawful : IsLawful s.frame (λ m. s.law m ≡ true) s.first w.seen
  pub mine : w.mine ≡ (n, call) ∷ v.mine
  pub allowance : v.allowance ≡ w.allowance + 1
  pub entry_is : AllTell s uses → call ≡ entry (records_at s w n)

-- Why a call has no number. full: after these calls a store has no room for this one, with these numbers.
module _ (s : Setting) (full : List Entry → Entry → ℕ → ℕ → ℕ → Type 0) (writes : Bool) (uses : ℕ → Bool) (entry : List Pair → Entry) (v w : Caller) where
  abbrev pub Cause : Status → Type 0
  Cause statuses.Precondition = (writes && not s.writable) ≡ true
  Cause statuses.Limit = v.allowance ≡ 0
  Cause (statuses.Broken faults) = Unit {0}
  Cause (statuses.System faults) = Unit {0}
  Cause (statuses.Full size need limit) = AllTell s uses → full w.seen (entry (records_seen s w)) size need limit
  Cause statuses.NoMemory = Unit {0}
  Cause statuses.Success = ⊥
  Cause statuses.NotImplemented = ⊥
  Cause statuses.InvalidArgument = ⊥
  Cause statuses.NotFound = ⊥
  Cause statuses.Infeasible = ⊥
  Cause statuses.Duplication = ⊥
  Cause (statuses.TooLong length) = ⊥

  -- nothing was done, and the cause is one of the point that the pass has seen then; for Broken and System `Stores` has the cause
  pub record HasPoint (status : Status) : Type 0 where
    pub front : IsPrefix v.seen w.seen
    pub mine : w.mine ≡ v.mine
    pub allowance : w.allowance ≡ v.allowance
    pub cause : Cause status

-- How a call ended. writes: it may change records. status and entry: what it answers and does on given records. full, room: after these calls a store has no room, or each has room, for this one.
pub record Ends (s : Setting) (full : List Entry → Entry → ℕ → ℕ → ℕ → Type 0) (room : List Entry → Entry → Type 0)
    (writes : Bool) (uses : ℕ → Bool) (status : List Pair → Status) (entry : List Pair → Entry) (v : View) (a : Answer) (w : View) : Type 0 where
  pub stores : Stores s uses v a.status w
  pub made : (n : ℕ) → a.number ≡ Some n → HasNumber s uses entry v.caller w.caller n
  pub placed : (n : ℕ) → a.number ≡ Some n → has_place a.status ≡ true
  pub status_is : (n : ℕ) → a.number ≡ Some n → AllTell s uses → (a.status ≡ status (records_at s w.caller n)) ⊎ (is_system a.status ≡ true)
  pub had_room : (n : ℕ) → a.number ≡ Some n → AllTell s uses → room (take n w.caller.seen) (entry (records_at s w.caller n))
  pub not_made : a.number ≡ None → HasPoint s full writes uses entry v.caller w.caller a.status

-- A call, by what it ended with and what it was refused for before it took a lock.
pub record Called (s : Setting) (full : List Entry → Entry → ℕ → ℕ → ℕ → Type 0) (room : List Entry → Entry → Type 0)
    (writes : Bool) (uses : ℕ → Bool) (status : List Pair → Status) (entry : List Pair → Entry) (v : View) (a : Answer) (w : View) : Type 0 where
  pub ends : Ends s full room writes uses status entry v a w
  pub refused : (writes && not s.writable) ≡ true → (a.number ≡ None) × (a.status ≡ statuses.Precondition)
  pub limited : (writes && not s.writable) ≡ false → v.caller.allowance ≡ 0 → (a.number ≡ None) × (a.status ≡ statuses.Limit)
  pub idle : w.caller.held ≡ []
