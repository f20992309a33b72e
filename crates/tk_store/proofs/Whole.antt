-- A store that stands for something goes on to do so, and grows by what a group needs.
use Rattle.std.proofs.Common.{◌≡◌, ℕ, List, [], ◌∷◌, Result, Ok, Err, OnOk, refl, sum_by, ◌≤◌, ◌+◌, max, arith}
use Rattle.tk_model.specs.declared.record.Group.{Group}
use Rattle.tk_model.specs.declared.record.Change.{Change}
use Rattle.tk_store.specs.declared.error.StoreError.{StoreError}
use Rattle.tk_store.specs.declared.error.StoreError.TheVariants as errors
use Rattle.tk_store.specs.Store.{StoreConstants, First, IsWhole, OkOrFault, UnlessFault, extents_need, extent_of, floor_after}
use Rattle.tk_model.specs.Entries.{group_of}

pub stays_whole : {S T : Type 0} (stands : S → First → List Group → ℕ → Type 0) (new : S) (result : Result T StoreError) (first : First) (since : List Group) (hard : ℕ) → OkOrFault result
    → OnOk result (stands new first since hard) → UnlessFault result (IsWhole stands new)
stays_whole stands new (Ok v) first since hard a st = (first, since, hard, st)
stays_whole stands new (Err errors.Fault) first since hard a st = tt
stays_whole stands new (Err (errors.Full size need limit)) first since hard a st = absurd a
stays_whole stands new (Err errors.NoMemory) first since hard a st = absurd a

-- a list with changes needs the sum of their extents
pub sum_needed : (n : StoreConstants) (v : ℕ) (cs : List Change) → (cs ≡ [] → ⊥) → extents_need n v cs ≡ sum_by (extent_of v) cs
sum_needed n v [] some = absurd (some refl)
sum_needed n v (c ∷ cs) some = refl

floor_within : (floor number : ℕ) (cs : List Change) → floor_after floor (group_of number cs) ≤ max floor (number + 1)
floor_within floor number [] = omega arith
floor_within floor number (c ∷ cs) = omega arith

-- the next number is the one before, or one more than the group's
pub stays_near : {T : Type 0} (result : Result T StoreError) (floor number now : ℕ) (cs : List Change) → OkOrFault result → OnOk result (now ≡ floor_after floor (group_of number cs))
    → UnlessFault result (now ≤ max floor (number + 1))
stays_near (Ok v) floor number now cs a e = rw e (floor_within floor number cs)
stays_near (Err errors.Fault) floor number now cs a e = tt
stays_near (Err (errors.Full size need limit)) floor number now cs a e = absurd a
stays_near (Err errors.NoMemory) floor number now cs a e = absurd a
