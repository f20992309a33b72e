-- The running table: its words, slots and views show a state that meets the core's rule.
use Rattle.std.specs.Prelude.{◌≡◌, ◌+◌, ◌<◌, ◌≤◌, ℕ, zero, suc, Bool, true, false, List, [], ◌∷◌, length, map, slice_index_or, Option, Some, None, is_some}
use mathlib.Core.List.{IsPrefix}
use mathlib.Core.Option as maybe
use mathlib.Core.Option.{some}
use lib.ListN.{get_elem?}
use Rattle.atomic_table.specs.Table.{State}
use Rattle.tk_model.specs.Records.{put}
use Rattle.tk_model.specs.declared.record.Order.{Order}
use Rattle.tk_model.specs.declared.record.Pair.{Pair}
use Rattle.tk_model.specs.declared.record.Group.{Group}
use Rattle.tk_model.specs.declared.record.Entry.{Entry}
use Rattle.tk_model.specs.Counts.{Rose}
use Rattle.tk_store.specs.Store.{First, StoreView, StoreConstants}
use Rattle.tk_core.specs.declared.frame.Frame.{Frame}
use Rattle.tk_core.specs.Caller.{Caller}
use Rattle.tk_core.specs.Covers.{store_lock}
use Rattle.tk_core.specs.Rule.{Sound}
use Rattle.tk_locks.specs.declared.home.Home.{Home}
use Rattle.tk_locks.specs.declared.table.Origin.{Origin}
use Rattle.tk_locks.specs.View.{View, noted, marked, Under}

abbrev pub mark : ℕ → ℕ
mark zero = 0
mark (suc n) = 1

abbrev pub callers_of : List View → List Caller
callers_of vs = map (λ (v : View). v.caller) vs

-- what the table was told at its start
pub record Ground (T : Type 0) : Type 0 where
  pub frame : Frame
  pub start : List (Option (Home T))

abbrev pub ground_of : {T : Type 0} → Origin T → Ground T
ground_of o = record { frame = o.frame; start = o.start.value.items }

abbrev pub put_all : Order → List Pair → List Pair → List Pair
put_all o [] m = m
put_all o (p ∷ ps) m = put o p (put_all o ps m)

abbrev pub told : Option (List Pair) → List Pair
told None = []
told (Some m) = m

-- the records of all stores at the start, where they tell them
abbrev pub records_in : {T : Type 0} → Order → (T → StoreView) → List (Option (Home T)) → List Pair
records_in o store_view [] = []
records_in o store_view (None ∷ hs) = records_in o store_view hs
records_in o store_view (Some h ∷ hs) = put_all o (told (store_view h.store).map) (records_in o store_view hs)

-- the count of the store i at the start
abbrev pub count_at : {T : Type 0} → (T → ℕ) → List (Option (Home T)) → ℕ → ℕ
count_at faults [] i = 0
count_at faults (None ∷ hs) zero = 0
count_at faults (Some h ∷ hs) zero = faults h.store
count_at faults (h ∷ hs) (suc i) = count_at faults hs i

-- the store i stood for this at the start
abbrev pub Began : {T : Type 0} → (T → First → List Group → ℕ → Type 0) → List (Option (Home T)) → ℕ → First → Type 0
Began {T} stands start i first = (h : Home T) × (get_elem? start i ≡ some (Some h)) × stands h.store first [] 0

-- whatever the store i stood for at the start, it stands for these groups since, of which at least so many are safe, and wasn't closed
pub record IsGood {T : Type 0} (stands : T → First → List Group → ℕ → Type 0) (store_view : T → StoreView) (constants : T → StoreConstants) (start : List (Option (Home T))) (i : ℕ) (x : T) (gs : List Group) (n : ℕ) : Type 0 where
  -- where its records are told
  pub stands_now : is_some (store_view x).map ≡ true → (first : First) → Began stands start i first → (hard : ℕ) × (n ≤ hard) × stands x first gs hard
  pub whole : (first : First) × (since : List Group) × (hard : ℕ) × stands x first since hard
  -- what never changes is as it was, and so is whether its records are told
  pub natured : (h : Home T) → get_elem? start i ≡ some (Some h) → (constants x ≡ constants h.store) × (is_some (store_view x).map ≡ is_some (store_view h.store).map)
  pub unclosed : (store_view x).closed ≡ false

unfoldable pub good_of : {T : Type 0} → (T → First → List Group → ℕ → Type 0) → (T → StoreView) → (T → StoreConstants) → Ground T → ℕ → T → List Group → ℕ → Type 0
good_of stands store_view constants g i x gs n = IsGood stands store_view constants g.start i x gs n

-- the count has risen from the one that a store had at the start
abbrev pub Risen : Frame → (ℕ → ℕ) → ℕ → Type 0
Risen f begun n = (q : ℕ) × (q < f.stores) × Rose (begun q) n

-- what passes saw of the stores' counts
pub record Counts (f : Frame) (owner floor : ℕ → ℕ) (kept : ℕ → Option ℕ) (j : ℕ) (v : View) : Type 0 where
  pub under : Under floor v.counts
  pub own : (i : ℕ) → owner (store_lock f i) ≡ suc j → noted i v.counts ≡ floor i
  pub mark : (i : ℕ) → owner (store_lock f i) ≡ suc j → marked i v.marks ≡ kept i

-- a group may have the number of the next call, where the store may be written
abbrev pub next_fits : {T : Type 0} → (T → StoreView) → (T → StoreConstants) → Ground T → T → ℕ → Type 0
next_fits store_view constants g x n = (constants x).writable ≡ true → (store_view x).floor ≤ g.frame.base + n

module _ {T : Type 0} where
  -- a store that lies in its slot is good for the groups
  abbrev pub Standing : (ℕ → T → List Group → ℕ → Type 0) → List (maybe.Option (Option (Home T))) → ℕ → List Group → ℕ → Type 0
  Standing good homes i gs n = (h : Home T) → get_elem? homes i ≡ some (some (Some h)) → good i h.store gs n

  -- the store lies in its slot, with its mark, its count is not below the floor, and a group of the next number may follow
  abbrev pub IsHome : (T → ℕ → Type 0) → (T → ℕ) → List (maybe.Option (Option (Home T))) → (ℕ → Option ℕ) → (ℕ → ℕ) → ℕ → ℕ → Type 0
  IsHome may faults homes kept floor n i = (h : Home T) × (get_elem? homes i ≡ some (some (Some h))) × (h.broken ≡ kept i) × (floor i ≤ faults h.store) × (h.broken ≡ None → may h.store n)

  -- the words and slots show the length of the history, who has a lock, and where each store is
  pub record Shows (may : T → ℕ → Type 0) (faults : T → ℕ) (f : Frame) (words : List ℕ) (homes : List (maybe.Option (Option (Home T)))) (log : List Entry) (owner : ℕ → ℕ) (kept : ℕ → Option ℕ) (away : ℕ → Bool) (floor : ℕ → ℕ) : Type 0 where
    pub wide : length words ≡ (f.stripes + f.stores) + 1
    pub slots : length homes ≡ f.stores
    pub count : slice_index_or words 0 0 ≡ length log
    pub flags : (l : ℕ) → l < f.stripes + f.stores → slice_index_or words (l + 1) 0 ≡ mark (owner l)
    -- a store whose lock is free lies in its slot
    pub home : (i : ℕ) → i < f.stores → owner (store_lock f i) ≡ 0 → IsHome may faults homes kept floor (length log) i
    -- a store that is out left its slot empty
    pub out : (i : ℕ) → i < f.stores → away i ≡ true → get_elem? homes i ≡ some (some None)

  pub record RuleOf (law : List Pair → Type 0) (m : List Pair) (good : ℕ → T → List Group → ℕ → Type 0) (may : T → ℕ → Type 0) (faults : T → ℕ) (begun : ℕ → ℕ) (f : Frame) (s : State (Option (Home T)) View) : Type 0 where
    pub log : List Entry
    pub owner : ℕ → ℕ
    pub spoilt : ℕ → Bool
    pub kept : ℕ → Option ℕ
    pub away : ℕ → Bool
    pub floor : ℕ → ℕ
    pub sound : Sound f law m log owner spoilt away (Standing good s.homes) (callers_of s.views)
    pub shows : Shows may faults f s.words s.homes log owner kept away floor
    -- a broken store has a kept count, which has risen since the start
    pub broken_is : (i : ℕ) → is_some (kept i) ≡ spoilt i
    pub risen : (i n : ℕ) → kept i ≡ Some n → Risen f begun n
    -- no count fell since the start
    pub since : (i : ℕ) → begun i ≤ floor i
    pub counts : (j : ℕ) (v : View) → get_elem? s.views j ≡ some v → Counts f owner floor kept j v
    pub other : (j : ℕ) (v : View) → get_elem? s.views j ≡ some v → IsPrefix v.other log

  abbrev pub Rule : (List Pair → Bool) → (T → First → List Group → ℕ → Type 0) → (T → StoreView) → (T → StoreConstants) → (T → ℕ) → Ground T → State (Option (Home T)) View → Type 0
  Rule law stands store_view constants faults g s = RuleOf (λ m. law m ≡ true) (records_in g.frame.order store_view g.start) (good_of stands store_view constants g) (next_fits store_view constants g) faults (count_at faults g.start) g.frame s
