-- A database that was closed.
use Rattle.std.specs.Prelude.{◌≡◌, ◌+◌, ◌<◌, ◌≤◌, ◌^◌, ℕ, Bool, true, List, [], ◌++◌, length, slice_get, cond, Some, None, is_some}
use mathlib.Core.List.{IsPrefix}
use mathlib.Core.Option.{some}
use lib.ListN.{get_elem?}
use Rattle.tk_model.specs.Counts.{Rose}
use Rattle.tk_model.specs.declared.record.Pair.{Pair}
use Rattle.tk_model.specs.declared.record.Group.{Group}
use Rattle.tk_model.specs.declared.record.Entry.{Entry}
use Rattle.tk_store.specs.Store.{First, StoreView, StoreConstants, groups_made_by, ended_by}
use Rattle.tk_core.specs.Caller.{weight}
use Rattle.tk_core.specs.Lists.{has, count, times, once_below, InPlace}
use Rattle.tk_core.specs.Rule.{IsLawful, groups_of, hard_groups}
use Rattle.tk_locks.specs.declared.home.Home.{Home}
use Rattle.tk_locks.specs.Rule.{Ground, Began, records_in, count_at, Risen}
use Rattle.tk_locks.specs.View.{View, Under, of_store}
use Rattle.tk_dbm.specs.declared.close.Closed.{Closed}
use Rattle.tk_dbm.specs.Fates.{Fate, Spoilt, Ended, Faulted, Wanted, is_spoilt, close_status}
use Rattle.tk_dbm.specs.Setting.{rose}

module _ {T : Type 0} (law : List Pair → Bool) (stands : T → First → List Group → ℕ → Type 0) (store_view : T → StoreView) (constants : T → StoreConstants) (faults : T → ℕ) (g : Ground T) where
  abbrev pub groups_in : List Entry → ℕ → List Group
  groups_in log i = groups_of g.frame (records_in g.frame.order store_view g.start) log i

  -- how many of them hard synchronisations made safe
  abbrev pub safe_in : List Entry → ℕ → ℕ
  safe_in log i = hard_groups g.frame (records_in g.frame.order store_view g.start) log i

  -- the number with which a file is ended: the base and one for each call
  abbrev pub next_after : List Entry → ℕ
  next_after log = g.frame.base + length log

  -- the groups that are in a file once it was ended: those of the history, and a mark where the store makes marks
  abbrev pub groups_ended : List Entry → ℕ → T → List Group
  groups_ended log i x = groups_in log i ++ groups_made_by (constants x) (next_after log) []

  -- the store i was closed, and is else as it was made
  pub record IsShut (i : ℕ) (x : T) : Type 0 where
    pub closed : (store_view x).closed ≡ true
    pub same : (h : Home T) → get_elem? g.start i ≡ some (Some h) → constants x ≡ constants h.store
    pub tells : (h : Home T) → get_elem? g.start i ≡ some (Some h) → is_some (store_view x).map ≡ is_some (store_view h.store).map

  -- the store i was ended with all its groups, which are all safe
  pub record IsEnded (log : List Entry) (i : ℕ) (x : T) : Type 0 where
    pub shut : IsShut i x
    pub stands_now : is_some (store_view x).map ≡ true → (first : First) → Began stands g.start i first → stands x first (groups_ended log i x) (length (groups_ended log i x))
    pub whole : (first : First) × (since : List Group) × stands x first since (length since)
    pub ended : (store_view x).ended ≡ ended_by (constants x) (next_after log)

  -- memory was wanting: the store i stands for its groups, and its file wasn't ended
  pub record IsUnended (log : List Entry) (i : ℕ) (x : T) : Type 0 where
    pub shut : IsShut i x
    pub stands_now : is_some (store_view x).map ≡ true → (first : First) → Began stands g.start i first → (hard : ℕ) × (safe_in log i ≤ hard) × stands x first (groups_in log i) hard
    pub whole : (first : First) × (since : List Group) × (hard : ℕ) × stands x first since hard
    pub ended : (store_view x).ended ≡ None

  -- the faults of the store i rose in this call
  pub record HasFailed (v : View) (i n : ℕ) (x : T) : Type 0 where
    pub shut : IsShut i x
    pub before : ℕ
    pub since : count_at faults g.start i ≤ before
    pub counts : Under (λ _. before) (of_store i v.counts)
    pub risen : Rose before n
    pub told : faults x ≡ n
    pub ended : (store_view x).ended ≡ None

  -- a broken store has a kept count, which has risen since the database was made
  abbrev pub HasFate : List Entry → View → ℕ → Fate → T → Type 0
  HasFate log v i (Spoilt kept) x = Risen g.frame (count_at faults g.start) kept
  HasFate log v i Ended x = IsEnded log i x
  HasFate log v i (Faulted n) x = HasFailed v i n x
  HasFate log v i Wanted x = IsUnended log i x

  -- a store that came back: which it is, and what became of it
  pub record CameBack (log : List Entry) (v : View) (i : ℕ) (fate : Fate) (x : T) : Type 0 where
    pub low : i < g.frame.stores
    pub fate_is : HasFate log v i fate x
    -- one that the pass met broken is broken
    pub met : has i v.caller.met ≡ true → is_spoilt fate ≡ true
    -- its count has not fallen since the database was made, nor since the pass saw it
    pub since : count_at faults g.start i ≤ faults x
    pub counts : Under (λ _. faults x) (of_store i v.counts)
    pub risen : rose (count_at faults g.start) v i ≡ true → Rose (count_at faults g.start i) (faults x)

  -- with a whole pass: the history is the pass's own, each store came back, and the pass broke exactly those that are broken
  pub record IsAll (log : List Entry) (v : View) (places : List ℕ) (fs : List Fate) : Type 0 where
    pub once : (n : ℕ) → times n v.caller.mine ≡ once_below n (length log)
    pub all : length v.caller.mine ≡ length log
    pub long : length places ≡ g.frame.stores
    pub there : (i : ℕ) → i < g.frame.stores → slice_get places i ≡ Some i
    pub broke : (i : ℕ) (fate : Fate) → slice_get fs i ≡ Some fate → count i v.caller.broke ≡ cond (is_spoilt fate) 1 0

  -- The stores that came back stand in order, and each was ended unless it was broken. The status tells the first failure.
  pub record IsClosed (v : View) (c : Closed T) : Type 0 where
    pub log : List Entry
    pub calls : c.calls ≡ length log
    pub few : c.calls ≤ 2 ^ 62
    pub lawful : IsLawful g.frame (λ m. law m ≡ true) (records_in g.frame.order store_view g.start) log
    -- the history begins with what the pass saw, and has its calls at their numbers
    pub seen : IsPrefix v.caller.seen log
    pub placed : InPlace log v.caller.mine
    pub places : List ℕ
    pub fs : List Fate
    pub long : (length places ≡ length c.stores) × (length fs ≡ length c.stores)
    pub rising : (a b i j : ℕ) → a < b → slice_get places a ≡ Some i → slice_get places b ≡ Some j → i < j
    pub each : (k i : ℕ) (fate : Fate) (x : T) → slice_get places k ≡ Some i → slice_get fs k ≡ Some fate → slice_get c.stores k ≡ Some x → CameBack log v i fate x
    pub status : c.status ≡ close_status fs
    pub whole : weight v.caller ≡ 2 ^ 62 → IsAll log v places fs
