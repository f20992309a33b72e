-- What is told of a script: one history, in which each line has its place.
use Rattle.std.specs.Prelude.{◌≡◌, ◌≢◌, ◌⊎◌, ◌+◌, ◌≤◌, ℕ, Bool, true, false, ltb, cond, ◌==◌, List, [], ◌∷◌, length, map, take, slice_get, Option, Some, None, All}
use Rattle.tk_status.specs.declared.Status.{Status}
use Rattle.tk_status.specs.declared.Status.TheVariants as statuses
use Rattle.tk_model.specs.Entries.{legal, replay_entries}
use Rattle.tk_model.specs.declared.record.Order.{Order}
use Rattle.tk_model.specs.declared.record.Pair.{Pair}
use Rattle.tk_model.specs.declared.record.Entry.{Entry}
use Rattle.tk_core.specs.Lists.{has, count, once_below}
use Rattle.tk_calls.specs.declared.call.Call.{Call}
use Rattle.tk_batch.specs.declared.line.Line.{Line}
use Rattle.tk_batch.specs.declared.line.Out.{Out}
use Rattle.tk_calls.specs.declared.call.Position.{Position}
use Rattle.tk_calls.specs.declared.call.Position.TheVariants.{Nowhere}
use Rattle.tk_calls.specs.declared.call.LineReply.{LineReply}
use Rattle.tk_calls.specs.Replies.{reply_of}
use Rattle.tk_batch.specs.Woven.{refused}
use Rattle.tk_calls.specs.Calls.{early, uses}

-- what a run is told when it begins
pub record Setting : Type 0 where
  pub order : Order
  pub writable : Bool
  pub stores : ℕ
  -- some file is over its limit with this call, after the calls so far
  pub over : List Entry → Entry → Bool
  -- such a call is always answered so
  pub exact : Bool

-- what became of a line: what is printed, and the stores that it broke
pub record Done : Type 0 where
  pub out : Out
  pub broke : List ℕ

pub record Deed : Type 0 where
  pub call : Call
  pub done : Done

abbrev pub none_of : Option (List ℕ) → Option (List ℕ)
none_of field = None

-- a line whose call stands in the history, and one whose store failed when the call was done: its fields are empty
abbrev pub answered : ℕ → LineReply → Out
answered n r = record { number = Some n; status = r.status; fields = r.fields }

abbrev pub failed : ℕ → ℕ → LineReply → Out
failed n faults r = record { number = Some n; status = statuses.System faults; fields = map none_of r.fields }

abbrev pub is_system : Status → Bool
is_system statuses.Success = false
is_system (statuses.System faults) = true
is_system statuses.NotImplemented = false
is_system statuses.Precondition = false
is_system statuses.InvalidArgument = false
is_system statuses.NotFound = false
is_system statuses.Infeasible = false
is_system statuses.Duplication = false
is_system (statuses.Broken faults) = false
is_system statuses.NoMemory = false
is_system (statuses.Full size need limit) = false
is_system statuses.Limit = false
is_system (statuses.TooLong length) = false

abbrev pub is_no_memory : Status → Bool
is_no_memory statuses.Success = false
is_no_memory (statuses.System faults) = false
is_no_memory statuses.NotImplemented = false
is_no_memory statuses.Precondition = false
is_no_memory statuses.InvalidArgument = false
is_no_memory statuses.NotFound = false
is_no_memory statuses.Infeasible = false
is_no_memory statuses.Duplication = false
is_no_memory (statuses.Broken faults) = false
is_no_memory statuses.NoMemory = true
is_no_memory (statuses.Full size need limit) = false
is_no_memory statuses.Limit = false
is_no_memory (statuses.TooLong length) = false

-- the lines of a worker, in their order, each with what became of it
abbrev pub deeds_of : ℕ → List Line → List Done → List Deed
deeds_of w [] ds = []
deeds_of w (l ∷ ls) [] = []
deeds_of w (l ∷ ls) (d ∷ ds) = cond (l.worker == w) (record { call = l.call; done = d } ∷ deeds_of w ls ds) (deeds_of w ls ds)

-- 1 where the line has this number
abbrev pub has_number : ℕ → Option ℕ → ℕ
has_number n None = 0
has_number n (Some k) = cond (n == k) 1 0

-- how many lines have this number
abbrev pub numbered : ℕ → List Done → ℕ
numbered n [] = 0
numbered n (d ∷ ds) = has_number n d.out.number + numbered n ds

-- how many lines broke this store
abbrev pub broken : ℕ → List Done → ℕ
broken j [] = 0
broken j (d ∷ ds) = count j d.broke + broken j ds

-- after a line that wants memory each line does
abbrev pub StaysOut : List Deed → Type 0
StaysOut [] = Unit {0}
StaysOut (d ∷ ds) = (is_no_memory d.done.out.status ≡ true → All (λ e. e.done.out ≡ refused statuses.NoMemory) ds) × StaysOut ds

-- m: the records at the start. log: the history. rose: the faults of a store rose in this run. spoilt: a line broke the store.
module _ (s : Setting) (m : List Pair) (log : List Entry) (rose spoilt : ℕ → Bool) where
  -- the records after the calls with numbers below n
  abbrev pub map_at : ℕ → List Pair
  map_at n = replay_entries s.order (take n log) m

  -- what a call replies at the point n
  abbrev pub reply_at : Call → Position → ℕ → LineReply
  reply_at c p n = reply_of s.order c p (map_at n)

  -- why a call has no number, at a point
  abbrev pub HasCause : Call → Position → ℕ → Status → Type 0
  HasCause c p n (statuses.Broken faults) = (j : ℕ) × (uses s.order s.stores c p j ≡ true) × (spoilt j ≡ true)
  HasCause c p n (statuses.System faults) = (j : ℕ) × (uses s.order s.stores c p j ≡ true) × (rose j ≡ true)
  HasCause c p n (statuses.Full size need limit) = s.over (take n log) (reply_at c p n).entry ≡ true
  HasCause c p n statuses.Success = ⊥
  HasCause c p n statuses.NotImplemented = ⊥
  HasCause c p n statuses.Precondition = ⊥
  HasCause c p n statuses.InvalidArgument = ⊥
  HasCause c p n statuses.NotFound = ⊥
  HasCause c p n statuses.Infeasible = ⊥
  HasCause c p n statuses.Duplication = ⊥
  HasCause c p n statuses.NoMemory = ⊥
  HasCause c p n statuses.Limit = ⊥
  HasCause c p n (statuses.TooLong length) = ⊥

  -- Between a line and the next, the worker's iterator goes from p to q, and its point from k to l.

  -- want of memory
  pub record Wants (d : Deed) (p : Position) (k : ℕ) (q : Position) (l : ℕ) : Type 0 where
    pub out : d.done.out ≡ refused statuses.NoMemory
    pub stays : (q ≡ p) × (l ≡ k)

  -- the database isn't asked
  pub record IsUnasked (d : Deed) (p : Position) (k : ℕ) (q : Position) (l : ℕ) : Type 0 where
    pub status : Status
    pub early_is : early s.order s.writable d.call p ≡ Some status
    pub out : d.done.out ≡ refused status
    pub stays : (q ≡ p) × (l ≡ k)

  -- no number, by a cause at the point l
  pub record IsRefused (d : Deed) (p : Position) (k : ℕ) (q : Position) (l : ℕ) : Type 0 where
    pub asked : early s.order s.writable d.call p ≡ None
    pub status : Status
    pub out : d.done.out ≡ refused status
    pub later : k ≤ l
    pub inside : l ≤ length log
    pub cause : HasCause d.call p l status
    pub stays : q ≡ p

  -- the number n: the call stands there, and replied so on the records before it
  pub record IsMade (d : Deed) (p : Position) (k : ℕ) (q : Position) (l : ℕ) : Type 0 where
    pub asked : early s.order s.writable d.call p ≡ None
    pub number : ℕ
    pub later : k ≤ number
    pub stands : slice_get log number ≡ Some (reply_at d.call p number).entry
    pub out : d.done.out ≡ answered number (reply_at d.call p number)
    pub fits : s.exact ≡ true → s.over (take number log) (reply_at d.call p number).entry ≡ false
    pub moves : (q ≡ (reply_at d.call p number).position) × (l ≡ number + 1)

  -- the same, but a store failed when the call was done
  pub record IsFailed (d : Deed) (p : Position) (k : ℕ) (q : Position) (l : ℕ) : Type 0 where
    pub asked : early s.order s.writable d.call p ≡ None
    pub number : ℕ
    pub faults : ℕ
    pub later : k ≤ number
    pub stands : slice_get log number ≡ Some (reply_at d.call p number).entry
    pub out : d.done.out ≡ failed number faults (reply_at d.call p number)
    pub cause : (j : ℕ) × (uses s.order s.stores d.call p j ≡ true) × (rose j ≡ true)
    pub moves : (q ≡ p) × (l ≡ number + 1)

  -- a line of SYSTEM_ERROR broke stores of its call, and no other line did
  pub record Breaks (d : Deed) (p : Position) : Type 0 where
    pub some : is_system d.done.out.status ≡ true → d.done.broke ≢ []
    pub none : is_system d.done.out.status ≡ false → d.done.broke ≡ []
    pub own : (j : ℕ) → has j d.done.broke ≡ true → uses s.order s.stores d.call p j ≡ true

  abbrev pub IsLine : Deed → Position → ℕ → Position → ℕ → Type 0
  IsLine d p k q l = Breaks d p × (Wants d p k q l ⊎ (IsUnasked d p k q l ⊎ (IsRefused d p k q l ⊎ (IsMade d p k q l ⊎ IsFailed d p k q l))))

  -- a worker's lines one after the other, from the place and the point at which it begins to the place at which it ends
  abbrev pub Follows : Position → ℕ → List Deed → Position → Type 0
  Follows p k [] q = (q ≡ p) × (k ≤ length log)
  Follows p k (d ∷ ds) q = (r : Position) × (l : ℕ) × IsLine d p k r l × Follows r l ds q

-- The lines of a script were told so: there is one legal history, and of each line is known which stores it broke.
pub record Told (s : Setting) (m : List Pair) (rose : ℕ → Bool) (script : List Line) (outs : List Out) : Type 0 where
  pub log : List Entry
  pub done : List Done
  pub lawful : legal s.order m log ≡ true
  -- one output line for each line
  pub printed : map (λ d. d.out) done ≡ outs
  pub each : length done ≡ length script
  -- the numbers are those below the history's length, each once
  pub once : (n : ℕ) → numbered n done ≡ once_below n (length log)
  -- no store was broken by two lines
  pub apart : (j : ℕ) → broken j done ≤ 1
  -- each worker's lines follow one another
  pub follows : (w : ℕ) → (q : Position) × Follows s m log rose (λ j. ltb 0 (broken j done)) Nowhere 0 (deeds_of w script done) q
  pub out_of_memory : (w : ℕ) → StaysOut (deeds_of w script done)
