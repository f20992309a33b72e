-- The run of a record processor over keys, as the call that it makes.
use Rattle.std.specs.Prelude.{ℕ, Bool, nat_lt, List, [], ◌∷◌, map, Option, Some, None, if◌then◌else◌}
use Rattle.tk_status.specs.declared.Status.{Status}
use Rattle.tk_status.specs.declared.Status.TheVariants.{Success, NotFound, TooLong}
use Rattle.tk_model.specs.Records.{find, named}
use Rattle.tk_model.specs.Entries.{touched, stored}
use Rattle.tk_model.specs.declared.record.Order.{Order}
use Rattle.tk_model.specs.declared.record.Way.{Way}
use Rattle.tk_model.specs.declared.record.Bound.{Bound}
use Rattle.tk_model.specs.declared.record.Pair.{Pair}
use Rattle.tk_model.specs.declared.record.Touch.{Touch}
use Rattle.tk_model.specs.declared.record.Action.{Action}
use Rattle.tk_model.specs.declared.record.Action.TheVariants.{Keep, Put, Drop}
use Rattle.tk_model.specs.declared.record.Change.{Change}
use Rattle.tk_model.specs.declared.record.Change.TheVariants as changes
use Rattle.tk_model.specs.declared.record.Entry.{Entry}
use Rattle.tk_model.specs.declared.record.Entry.TheVariants as entries

-- in a call that doesn't write, each action counts as keeping
abbrev pub counted : (writable : Bool) → Action → Action
counted writable a = if writable then a else Keep

-- the action stores more than a call may store
abbrev pub is_long : Action → Bool
is_long a = nat_lt 16777215 (stored a)

-- the length of the first value that is too long
abbrev pub first_long : List Touch → Option ℕ
first_long [] = None
first_long (t ∷ ts) = if is_long t.action then Some (stored t.action) else first_long ts

-- a touch that keeps what is there
abbrev pub kept : List Pair → List ℕ → Touch
kept m k = record { key = k; was = find k m; action = Keep }

abbrev pub status_by : Option ℕ → Status
status_by None = Success
status_by (Some length) = TooLong length

abbrev pub touches_by : Option ℕ → List (List ℕ) → List Pair → List Touch → List Touch
touches_by None ks m ts = ts
touches_by (Some length) ks m ts = map (kept m) ks

abbrev pub keys_of : List Pair → List (List ℕ)
keys_of m = map (λ p. p.key) m

-- the answer of a call on one record that is there
abbrev pub unless_long : Action → Action
unless_long a = if is_long a then Keep else a

abbrev pub status_unless_long : Action → Status
status_unless_long a = if is_long a then TooLong (stored a) else Success

-- the net changes of one action at a key
abbrev pub action_changes : List ℕ → Option (List ℕ) → Action → List Change
action_changes k was Keep = []
action_changes k was (Put v) = changes.Put (record { key = k; value = v }) ∷ []
action_changes k (Some u) Drop = changes.Drop k ∷ []
action_changes k None Drop = []

module _ {S : Type 0} (acts : S → List ℕ → Option (List ℕ) → Action) (turns : S → List ℕ → Option (List ℕ) → S) where
  -- the touches in turn: each key with the value in the map so far and the action, which moves that map
  abbrev pub run_touches : Order → (writable : Bool) → S → List (List ℕ) → List Pair → List Touch
  run_touches o w s [] m = []
  run_touches o w s (k ∷ ks) m =
      record { key = k; was = find k m; action = counted w (acts s k (find k m)) }
      ∷ run_touches o w (turns s k (find k m)) ks (touched o k (counted w (acts s k (find k m))) m)

  -- the processor after that
  abbrev pub run_state : Order → (writable : Bool) → S → List (List ℕ) → List Pair → S
  run_state o w s [] m = s
  run_state o w s (k ∷ ks) m = run_state o w (turns s k (find k m)) ks (touched o k (counted w (acts s k (find k m))) m)

  -- success, or a value that is too long
  abbrev pub run_status : Order → (writable : Bool) → S → List (List ℕ) → List Pair → Status
  run_status o w s ks m = status_by (first_long (run_touches o w s ks m))

  -- the touches that count: all keep where a value is too long
  abbrev pub run_counts : Order → (writable : Bool) → S → List (List ℕ) → List Pair → List Touch
  run_counts o w s ks m = touches_by (first_long (run_touches o w s ks m)) ks m (run_touches o w s ks m)

  -- a call at some keys
  abbrev pub keys_entry : Order → (writable : Bool) → S → List (List ℕ) → List Pair → Entry
  keys_entry o w s ks m = entries.Proc (run_counts o w s ks m)

  -- a call at all records in order, between two calls without a record
  abbrev pub each_entry : Order → (writable : Bool) → S → List Pair → Entry
  each_entry o w s m = entries.Each (run_counts o w (turns s [] None) (keys_of m) m)

  abbrev pub each_status : Order → (writable : Bool) → S → List Pair → Status
  each_status o w s m = run_status o w (turns s [] None) (keys_of m) m

  abbrev pub each_state : Order → (writable : Bool) → S → List Pair → S
  each_state o w s m = turns (run_state o w (turns s [] None) (keys_of m) m) [] None

  -- a call at the record that a bound names, where there is one
  abbrev pub found_entry : (writable : Bool) → S → Way → Bound → Option Pair → Entry
  found_entry w s way bound None = entries.Next way bound None Keep
  found_entry w s way bound (Some p) = entries.Next way bound (Some p) (unless_long (counted w (acts s p.key (Some p.value))))

  abbrev pub found_status : (writable : Bool) → S → Option Pair → Status
  found_status w s None = NotFound
  found_status w s (Some p) = status_unless_long (counted w (acts s p.key (Some p.value)))

  abbrev pub found_state : S → Option Pair → S
  found_state s None = s
  found_state s (Some p) = turns s p.key (Some p.value)

  abbrev pub next_entry : Order → (writable : Bool) → S → Way → Bound → List Pair → Entry
  next_entry o w s way bound m = found_entry w s way bound (named o way bound m)

  abbrev pub next_status : Order → (writable : Bool) → S → Way → Bound → List Pair → Status
  next_status o w s way bound m = found_status w s (named o way bound m)

  abbrev pub next_state : Order → S → Way → Bound → List Pair → S
  next_state o s way bound m = found_state s (named o way bound m)
