-- What becomes of stores that are ended one after another.
use Rattle.std.specs.Prelude.{◌≡◌, ◌≤◌, ℕ, true, false, List, [], ◌∷◌, ◌++◌, length, Option, Some, None, is_some}
use Rattle.std.specs.Option.{option_or}
use Rattle.tk_status.specs.declared.Status.{Status}
use Rattle.tk_status.specs.declared.Status.TheVariants as statuses
use Rattle.tk_model.specs.Counts.{Rose}
use Rattle.tk_model.specs.declared.record.Group.{Group}
use Rattle.tk_store.specs.declared.error.StoreError.{StoreError}
use Rattle.tk_store.specs.declared.error.StoreError.TheVariants as errors
use Rattle.tk_store.specs.Store.{First, StoreView, StoreConstants, IsWhole, Keeps, groups_made_by, ended_by}
use Rattle.tk_locks.specs.declared.home.Home.{Home}
use Rattle.tk_dbm.specs.Fates.{Fate, Spoilt, Ended, Faulted, Wanted, first_failure, first_broken, close_status}

module _ {T : Type 0} (stands : T → First → List Group → ℕ → Type 0) (store_view : T → StoreView) (constants : T → StoreConstants) where
  -- the store may be ended with this number
  pub record MayEnd (next : ℕ) (x : T) : Type 0 where
    pub whole : IsWhole stands x
    pub unclosed : (store_view x).closed ≡ false
    pub number : (constants x).writable ≡ true → (store_view x).floor ≤ next

  -- each store that isn't broken may
  abbrev pub AllMayEnd : (next : ℕ) → List (Home T) → Type 0
  AllMayEnd next [] = Unit {0}
  AllMayEnd next (h ∷ hs) = (h.broken ≡ None → MayEnd next h.store) × AllMayEnd next hs

-- how a close fails where the store has this count
abbrev pub failure_with : (faults : ℕ) → StoreError → Status
failure_with faults errors.Fault = statuses.System faults
failure_with faults (errors.Full size need limit) = statuses.NoMemory
failure_with faults errors.NoMemory = statuses.NoMemory

module _ {T : Type 0} (stands : T → First → List Group → ℕ → Type 0) (store_view : T → StoreView) (constants : T → StoreConstants) (faults : T → ℕ) (next : ℕ) where
  -- from a store to what is closed of it
  pub record Shuts (x y : T) : Type 0 where
    pub closed : (store_view y).closed ≡ true
    pub same : constants y ≡ constants x
    pub tells : is_some (store_view y).map ≡ is_some (store_view x).map
    pub later : faults x ≤ faults y

  -- it stands for all that it stood for, with the mark of its end, and all of it is safe
  abbrev pub StandsEnded : T → T → Type 0
  StandsEnded x y = (first : First) (since : List Group) (hard : ℕ) → stands x first since hard → stands y first (since ++ groups_made_by (constants x) next []) (length (since ++ groups_made_by (constants x) next []))

  -- a store that isn't broken
  abbrev pub Closes : T → Fate → T → Type 0
  Closes x (Spoilt kept) y = ⊥
  Closes x Ended y = Shuts x y × StandsEnded x y × ((store_view y).ended ≡ ended_by (constants x) next)
  Closes x (Faulted n) y = Shuts x y × Rose (faults x) (faults y) × (faults y ≡ n) × ((store_view y).ended ≡ None)
  Closes x Wanted y = Shuts x y × Keeps stands x y × ((store_view y).ended ≡ None)

  pub record EndsFile (x : T) (failed : Option Status) (y : T) : Type 0 where
    pub fate : Fate
    pub closes : Closes x fate y
    pub failed_is : failed ≡ first_failure (fate ∷ [])

  -- a broken store stays as it is
  abbrev pub Ends : Home T → Fate → T → Type 0
  Ends h (Spoilt kept) y = (h.broken ≡ Some kept) × (y ≡ h.store)
  Ends h Ended y = (h.broken ≡ None) × Closes h.store Ended y
  Ends h (Faulted n) y = (h.broken ≡ None) × Closes h.store (Faulted n) y
  Ends h Wanted y = (h.broken ≡ None) × Closes h.store Wanted y

  -- one store, where this failure and this broken store came first so far
  pub record EndsOne (failed broken : Option Status) (h : Home T) (failed' broken' : Option Status) (y : T) : Type 0 where
    pub fate : Fate
    pub ends : Ends h fate y
    pub failed_is : failed' ≡ option_or failed (first_failure (fate ∷ []))
    pub broken_is : broken' ≡ option_or broken (first_broken (fate ∷ []))

  -- each of them, in order
  abbrev pub AllEnd : List (Home T) → List Fate → List T → Type 0
  AllEnd [] [] [] = Unit {0}
  AllEnd [] [] (y ∷ ys) = ⊥
  AllEnd [] (e ∷ es) ys = ⊥
  AllEnd (h ∷ hs) [] ys = ⊥
  AllEnd (h ∷ hs) (e ∷ es) [] = ⊥
  AllEnd (h ∷ hs) (e ∷ es) (y ∷ ys) = Ends h e y × AllEnd hs es ys

  abbrev pub EndsAll : List (Home T) → List T → Status → Type 0
  EndsAll hs ys status = (fs : List Fate) × AllEnd hs fs ys × (status ≡ close_status fs)
