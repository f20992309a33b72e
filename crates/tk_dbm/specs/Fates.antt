-- What becomes of each store when a database is closed, and what the close answers.
use Rattle.std.specs.Prelude.{ℕ, Bool, true, false, List, [], ◌∷◌, Option, Some, None, unwrap_or}
use Rattle.tk_status.specs.declared.Status.{Status}
use Rattle.tk_status.specs.declared.Status.TheVariants as statuses

pub data Fate : Type 0 where
  -- it was broken, with this kept count
  Spoilt : (kept : ℕ) → Fate
  -- its file was ended
  Ended : Fate
  -- it failed, with this count of faults
  Faulted : (faults : ℕ) → Fate
  -- memory was wanting
  Wanted : Fate

abbrev pub is_spoilt : Fate → Bool
is_spoilt (Spoilt kept) = true
is_spoilt Ended = false
is_spoilt (Faulted faults) = false
is_spoilt Wanted = false

abbrev pub first_failure : List Fate → Option Status
first_failure [] = None
first_failure (Spoilt kept ∷ fs) = first_failure fs
first_failure (Ended ∷ fs) = first_failure fs
first_failure (Faulted faults ∷ fs) = Some (statuses.System faults)
first_failure (Wanted ∷ fs) = Some statuses.NoMemory

abbrev pub first_broken : List Fate → Option Status
first_broken [] = None
first_broken (Spoilt kept ∷ fs) = Some (statuses.Broken kept)
first_broken (Ended ∷ fs) = first_broken fs
first_broken (Faulted faults ∷ fs) = first_broken fs
first_broken (Wanted ∷ fs) = first_broken fs

-- the first failure, or Broken where none failed and a store was broken, or Success
abbrev pub close_status : List Fate → Status
close_status fs = unwrap_or (first_failure fs) (unwrap_or (first_broken fs) statuses.Success)
