-- What the calls of a table need and tell, by its stores' type and by what it was told at its start.
use Rattle.std.specs.Prelude.{◌≡◌, ℕ, Bool, true, List}
use Rattle.tk_model.specs.declared.record.Pair.{Pair}
use Rattle.tk_model.specs.declared.record.Group.{Group}
use Rattle.tk_model.specs.declared.record.Entry.{Entry}
use Rattle.tk_store.specs.Store.{First, StoreView, StoreConstants}
use Rattle.tk_core.specs.Caller.{Caller}
use Rattle.tk_core.specs.Needs.{MayCommit}
use Rattle.tk_locks.specs.declared.home.Home.{Home}
use Rattle.tk_locks.specs.View.{View}
use Rattle.tk_locks.specs.Rule.{Ground, records_in, good_of, next_fits, count_at}
use Rattle.tk_locks.specs.Steps.{TookStripe, Missed, Saw, Committed, Fits, GotStore}
use Rattle.tk_locks.specs.Made.{AtEnd}

module _ {T : Type 0} (law : List Pair → Bool) (shown : T → StoreView) (g : Ground T) where
  abbrev first_map : List Pair
  first_map = records_in g.frame.order shown g.start

  abbrev pub TakesStripe : ℕ → View → View → Type 0
  TakesStripe l v w = TookStripe g.frame (λ m. law m ≡ true) first_map l v w

  abbrev pub Misses : ℕ → View → View → Type 0
  Misses l v w = Missed g.frame (λ m. law m ≡ true) first_map l v w

  abbrev pub Looks : View → ℕ → View → Type 0
  Looks v n w = Saw g.frame (λ m. law m ≡ true) first_map v n w

  abbrev pub MayMake : Entry → Caller → Type 0
  MayMake e v = MayCommit g.frame (λ m. law m ≡ true) first_map e v

  abbrev pub Makes : Entry → View → ℕ → View → Type 0
  Makes e v n w = Committed g.frame (λ m. law m ≡ true) first_map e v n w

module _ {T : Type 0} (law : List Pair → Bool) (stands : T → First → List Group → ℕ → Type 0) (shown : T → StoreView) (constants : T → StoreConstants) (faults : T → ℕ) (g : Ground T) where
  abbrev map_then : List Pair
  map_then = records_in g.frame.order shown g.start

  -- the store is good for what the caller owes it
  abbrev pub IsOwed : ℕ → Caller → Home T → Type 0
  IsOwed i v h = Fits g.frame (λ m. law m ≡ true) map_then (good_of stands shown constants g) (next_fits shown constants g) faults (count_at faults g.start) i v h

  abbrev pub TakesStore : ℕ → View → Home T → View → Type 0
  TakesStore i v h w = GotStore g.frame (λ m. law m ≡ true) map_then (good_of stands shown constants g) (next_fits shown constants g) faults (count_at faults g.start) i v h w

  -- what an idle pass finds when the table is dissolved
  abbrev pub Finds : View → ℕ → List (Home T) → Type 0
  Finds v n hs = AtEnd g.frame (λ m. law m ≡ true) map_then (good_of stands shown constants g) (next_fits shown constants g) faults (count_at faults g.start) v n hs
