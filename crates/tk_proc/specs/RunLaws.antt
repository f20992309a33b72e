-- What every run of a processor keeps.
use Rattle.std.specs.Prelude.{◌≡◌, ℕ, ◌≤◌, Bool, true, List, [], ◌∷◌, length, Option, Some, None}
use Rattle.tk_status.specs.declared.Status.TheVariants.{NotFound, TooLong}
use Rattle.tk_proc.specs.Runs.{keys_entry, each_entry, next_entry, action_changes, counted, unless_long, status_unless_long}
use Rattle.tk_proc.specs.Runs.{run_status, run_state, each_status, each_state, next_status, next_state}
use Rattle.tk_model.specs.Records.{find, named, Rising, AllHeld}
use Rattle.tk_model.specs.Entries.{is_legal, changes_of}
use Rattle.tk_model.specs.declared.record.Order.{Order}
use Rattle.tk_model.specs.declared.record.Way.{Way}
use Rattle.tk_model.specs.declared.record.Bound.{Bound}
use Rattle.tk_model.specs.declared.record.Pair.{Pair}
use Rattle.tk_model.specs.declared.record.Action.{Action}

-- keys that a file can hold
abbrev pub AllShort : List (List ℕ) → Type 0
AllShort [] = Unit {0}
AllShort (k ∷ ks) = (length k ≤ 65535) × AllShort ks

module _ {S : Type 0} (acts : S → List ℕ → Option (List ℕ) → Action) (turns : S → List ℕ → Option (List ℕ) → S) where
  -- the call that a run makes is legal where it was run
  pub record RunsAreLegal (o : Order) : Type 0 where
    pub keys : (writable : Bool) (s : S) (ks : List (List ℕ)) (m : List Pair) → AllShort ks → is_legal o m (keys_entry acts turns o writable s ks m) ≡ true
    pub each : (writable : Bool) (s : S) (m : List Pair) → Rising o m → AllHeld m → is_legal o m (each_entry acts turns o writable s m) ≡ true
    pub next : (writable : Bool) (s : S) (way : Way) (bound : Bound) (m : List Pair) → AllHeld m → is_legal o m (next_entry acts turns o writable s way bound m) ≡ true

  -- a run at one key changes that key alone
  pub record OneKeyChanges (o : Order) : Type 0 where
    pub changes : (writable : Bool) (s : S) (k : List ℕ) (m : List Pair) → Rising o m
        → changes_of o m (keys_entry acts turns o writable s (k ∷ []) m) ≡ action_changes k (find k m) (unless_long (counted writable (acts s k (find k m))))

  -- what a run answers, and the processor after it
  pub record RunsAnswer (o : Order) : Type 0 where
    -- at one key
    pub one_status : (writable : Bool) (s : S) (k : List ℕ) (m : List Pair) → run_status acts turns o writable s (k ∷ []) m ≡ status_unless_long (counted writable (acts s k (find k m)))
    pub one_state : (writable : Bool) (s : S) (k : List ℕ) (m : List Pair) → run_state acts turns o writable s (k ∷ []) m ≡ turns s k (find k m)
    -- a run that meets a value that is too long changes nothing
    pub keys_long : (writable : Bool) (s : S) (ks : List (List ℕ)) (m : List Pair) (n : ℕ) → run_status acts turns o writable s ks m ≡ TooLong n → changes_of o m (keys_entry acts turns o writable s ks m) ≡ []
    pub each_long : (writable : Bool) (s : S) (m : List Pair) (n : ℕ) → each_status acts turns o writable s m ≡ TooLong n → changes_of o m (each_entry acts turns o writable s m) ≡ []
    -- of no records: the two calls without one
    pub each_none : (writable : Bool) (s : S) → each_state acts turns o writable s [] ≡ turns (turns s [] None) [] None
    -- at the record that a bound names: as a run at its key
    pub next_status_is : (writable : Bool) (s : S) (way : Way) (bound : Bound) (m : List Pair) (p : Pair) → Rising o m → named o way bound m ≡ Some p
        → next_status acts turns o writable s way bound m ≡ run_status acts turns o writable s (p.key ∷ []) m
    pub next_state_is : (writable : Bool) (s : S) (way : Way) (bound : Bound) (m : List Pair) (p : Pair) → Rising o m → named o way bound m ≡ Some p
        → next_state acts turns o s way bound m ≡ run_state acts turns o writable s (p.key ∷ []) m
    -- where a bound names none
    pub none_status : (writable : Bool) (s : S) (way : Way) (bound : Bound) (m : List Pair) → named o way bound m ≡ None → next_status acts turns o writable s way bound m ≡ NotFound
    pub none_state : (writable : Bool) (s : S) (way : Way) (bound : Bound) (m : List Pair) → named o way bound m ≡ None → next_state acts turns o s way bound m ≡ s
