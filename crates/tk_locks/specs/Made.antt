-- A table at its start, and at its end.
use Rattle.std.specs.Prelude.{◌≡◌, ◌<◌, ◌≤◌, ◌^◌, ℕ, Bool, true, false, List, [], ◌∷◌, length, Option, Some, None, is_some, cond}
use mathlib.Core.List.{IsPrefix}
use mathlib.Core.Option.{some}
use lib.ListN.{get_elem?}
use Rattle.tk_model.specs.Entries.{shard_records}
use Rattle.tk_model.specs.Records.{Rising}
use Rattle.tk_model.specs.declared.record.Order.TheVariants.{Hash}
use Rattle.tk_model.specs.declared.record.Pair.{Pair}
use Rattle.tk_model.specs.declared.record.Group.{Group}
use Rattle.tk_model.specs.declared.record.Entry.{Entry}
use Rattle.tk_store.specs.Store.{First, StoreView, StoreConstants}
use Rattle.tk_core.specs.declared.frame.Frame.{Frame}
use Rattle.tk_core.specs.Caller.{weight}
use Rattle.tk_core.specs.Lists.{has, count, times, once_below, InPlace}
use Rattle.tk_core.specs.Rule.{IsLawful, shard, groups_of, hard_groups}
use Rattle.tk_locks.specs.declared.home.Home.{Home}
use Rattle.tk_locks.specs.View.{View, Under, of_store}
use Rattle.tk_locks.specs.Rule.{Began, records_in, Risen}

-- each store is there, unbroken and not closed, in the set's order, and has the records of its shard alone where it tells them; the contents meet the law
pub record Fresh {T : Type 0} (law : List Pair → Bool) (stands : T → First → List Group → ℕ → Type 0) (store_view : T → StoreView) (constants : T → StoreConstants) (f : Frame) (xs : List (Option (Home T))) : Type 0 where
  pub long : length xs ≡ f.stores
  pub there : (i : ℕ) (x : Option (Home T)) → get_elem? xs i ≡ some x → (h : Home T) × (x ≡ Some h) × (h.broken ≡ None) × ((store_view h.store).closed ≡ false) × ((constants h.store).writable ≡ true → (store_view h.store).floor ≤ f.base) × ((first : First) × stands h.store first [] 0)
  pub order : (i : ℕ) (h : Home T) → get_elem? xs i ≡ some (Some h) → (constants h.store).order ≡ f.order
  pub shards : (i : ℕ) (first : First) (b : Began stands xs i first) → is_some (store_view b.0.store).map ≡ true → first.records ≡ shard_records (shard f i) (records_in f.order store_view xs)
  pub rising : Rising f.order (records_in f.order store_view xs)
  pub lawful : law (records_in f.order store_view xs) ≡ true

-- the sizes of a table of these stores
abbrev pub frame_of : {T : Type 0} → (T → StoreConstants) → List T → ℕ → ℕ → Frame
frame_of constants [] stripes base = record { stripes = stripes; stores = 0; order = Hash; base = base }
frame_of constants (x ∷ xs) stripes base = record { stripes = stripes; stores = length (x ∷ xs); order = (constants x).order; base = base }

-- the store i, as the history left it at home
pub record IsLeft {T : Type 0} (f : Frame) (m : List Pair) (good : ℕ → T → List Group → ℕ → Type 0) (next : T → ℕ → Type 0) (faults : T → ℕ) (begun : ℕ → ℕ) (v : View) (log : List Entry) (i : ℕ) (h : Home T) : Type 0 where
  pub low : i < f.stores
  -- unbroken, it is good for its groups, and a group of the next number may follow
  pub stands : h.broken ≡ None → good i h.store (groups_of f m log i) (hard_groups f m log i)
  pub follows : h.broken ≡ None → next h.store (length log)
  -- broken, its kept count has risen since the start
  pub risen : (n : ℕ) → h.broken ≡ Some n → Risen f begun n
  -- a store that the pass met broken is broken
  pub met : has i v.caller.met ≡ true → is_some h.broken ≡ true
  -- its count has not fallen since the start, nor since the pass saw it
  pub since : begun i ≤ faults h.store
  pub counts : Under (λ _. faults h.store) (of_store i v.counts)

-- what who has the whole weight finds besides: the whole history is its own, and each store is there
pub record IsWhole {T : Type 0} (f : Frame) (v : View) (log : List Entry) (places : List ℕ) (hs : List (Home T)) : Type 0 where
  pub numbers : (k : ℕ) → times k v.caller.mine ≡ once_below k (length log)
  pub all : length v.caller.mine ≡ length log
  pub long : length hs ≡ f.stores
  pub there : (i : ℕ) → i < f.stores → get_elem? places i ≡ some i
  -- it broke just the stores that are broken, each once
  pub broke : (i : ℕ) → i < f.stores → (h : Home T) × (get_elem? hs i ≡ some h) × (count i v.caller.broke ≡ cond (is_some h.broken) 1 0)

-- what an idle pass finds at the end: the history, which begins with what it saw, and stores by rising numbers
pub record AtEnd {T : Type 0} (f : Frame) (law : List Pair → Type 0) (m : List Pair) (good : ℕ → T → List Group → ℕ → Type 0) (next : T → ℕ → Type 0) (faults : T → ℕ) (begun : ℕ → ℕ) (v : View) (calls : ℕ) (hs : List (Home T)) : Type 0 where
  pub log : List Entry
  pub lawful : IsLawful f law m log
  pub calls_are : calls ≡ length log
  pub few : calls ≤ 2 ^ 62
  pub seen : IsPrefix v.caller.seen log
  pub placed : InPlace log v.caller.mine
  pub places : List ℕ
  pub each_placed : length places ≡ length hs
  pub rising : (a b i j : ℕ) → a < b → get_elem? places a ≡ some i → get_elem? places b ≡ some j → i < j
  pub each : (k i : ℕ) (h : Home T) → get_elem? places k ≡ some i → get_elem? hs k ≡ some h → IsLeft f m good next faults begun v log i h
  pub whole : weight v.caller ≡ 2 ^ 62 → IsWhole f v log places hs
