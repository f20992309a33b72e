-- What a database is told when it is made, and what its passes show.
use Rattle.std.specs.Prelude.{◌≡◌, ◌+◌, ◌<◌, ℕ, zero, suc, Bool, true, false, ◌&&◌, ◌||◌, ◌==◌, nat_le, List, [], ◌∷◌, take, Option, Some, None, is_some, if◌then◌else◌}
use Rattle.tk_model.specs.Counts.{capped}
use Rattle.tk_model.specs.Hashes.{mix_of, shard_of}
use Rattle.tk_model.specs.declared.record.Pair.{Pair}
use mathlib.Core.Option.{some}
use lib.ListN.{get_elem?}
use Rattle.tk_store.specs.Store.{StoreView, StoreConstants}
use Rattle.tk_core.specs.declared.frame.Frame.{Frame}
use Rattle.tk_core.specs.Caller.{Caller}
use Rattle.tk_core.specs.Rule.{map_after}
use Rattle.tk_locks.specs.declared.home.Home.{Home}
use Rattle.tk_locks.specs.Rule.{Ground, records_in, count_at}
use Rattle.tk_locks.specs.View.{View}

pub record Setting : Type 0 where
  -- how many stripes and stores there are, the order of the keys, and the base of the groups' numbers
  pub frame : Frame
  -- the records when the database was made, and what the stores ask of records
  pub first : List Pair
  pub law : List Pair → Bool
  pub writable : Bool
  -- which stores tell their records, and the counts of faults when the database was made
  pub tells : ℕ → Bool
  pub begun : ℕ → ℕ

-- the store i tells its records
abbrev pub tells_at : {T : Type 0} → (T → StoreView) → List (Option (Home T)) → ℕ → Bool
tells_at store_view [] i = false
tells_at store_view (None ∷ hs) zero = false
tells_at store_view (Some h ∷ hs) zero = is_some (store_view h.store).map
tells_at store_view (h ∷ hs) (suc i) = tells_at store_view hs i

abbrev pub setting_of : {T : Type 0} → (List Pair → Bool) → (T → StoreView) → (T → ℕ) → Ground T → Bool → Setting
setting_of law store_view faults g writable = record {
  frame = g.frame;
  first = records_in g.frame.order store_view g.start;
  law = law;
  writable = writable;
  tells = tells_at store_view g.start;
  begun = count_at faults g.start;
}

-- the records before the call with the number n, which the caller has seen
abbrev pub records_at : Setting → Caller → ℕ → List Pair
records_at s w n = map_after s.frame s.first (take n w.seen)

-- the records after all that the caller has seen
abbrev pub records_seen : Setting → Caller → List Pair
records_seen s w = map_after s.frame s.first w.seen

-- the store of a call at one key
abbrev pub uses_key : Setting → List ℕ → ℕ → Bool
uses_key s k j = j == shard_of (mix_of k) s.frame.stores

-- each store of the call tells its records
abbrev pub AllTell : Setting → (ℕ → Bool) → Type 0
AllTell s uses = (j : ℕ) → j < s.frame.stores → uses j ≡ true → s.tells j ≡ true

-- a count of the store is above this one, or stands at its greatest number
abbrev pub has_risen : (before j : ℕ) → List (ℕ × ℕ) → Bool
has_risen before j [] = false
has_risen before j (c ∷ cs) = ((c.0 == j) && nat_le (capped (before + 1)) c.1) || has_risen before j cs

-- the pass saw more faults of the store than there were when the database was made
abbrev pub rose : (begun : ℕ → ℕ) → View → ℕ → Bool
rose begun v j = has_risen (begun j) j v.counts

-- the newest that was seen of a store
abbrev pub newest : {A : Type 0} → ℕ → List (ℕ × A) → Option A
newest j [] = None
newest j (p ∷ ps) = if p.0 == j then Some p.1 else newest j ps

-- a database that may write has stores that were opened for writing
abbrev pub IsWritable : {T : Type 0} → (T → StoreConstants) → Ground T → Bool → Type 0
IsWritable {T} constants g writable = writable ≡ true → (i : ℕ) (h : Home T) → get_elem? g.start i ≡ some (Some h) → (constants h.store).writable ≡ true
