-- What repeats in the contracts of a hash store.
use Rattle.std.specs.Prelude.{◌≡◌, ℕ, ◌++◌, List, [], Result, IfErr}
use Rattle.tk_disk.specs.Crash.{Torn, LeavesOnly}
use Rattle.tk_model.specs.declared.record.Group.{Group}
use Rattle.tk_model.specs.declared.error.OpenError.TheVariants as errors
use Rattle.tk_model.specs.declared.error.Unopened.{Unopened}
use Rattle.tk_store.specs.declared.error.StoreError.{StoreError}
use Rattle.tk_store.specs.Store.{First, HasCause, groups_made_by}
use Rattle.tk_hash.specs.Hash.{hash_disk, hash_constants}
use Rattle.tk_hash.specs.declared.store.HashStore.{HashStore}
use Rattle.tk_block.specs.Sizes.{closing_place, closing_size}

-- whatever the store stands for
abbrev pub FromStands : {S : Type 0} → (stands : S → First → List Group → ℕ → Type 0) → S → (First → List Group → ℕ → Type 0) → Type 0
FromStands stands s P = (first : First) (since : List Group) (hard : ℕ) → stands s first since hard → P first since hard

-- a fault comes only where the disk's count of faults rose
abbrev pub HashCause : {D T : Type 0} → (fault_count : D → ℕ) → (old new : HashStore D) → Result T StoreError → Type 0
HashCause fault_count old new result = HasCause (fault_count (hash_disk old)) (fault_count (hash_disk new)) result

-- the groups behind a closing with this next number
abbrev pub with_close : {D : Type 0} → HashStore D → (next : ℕ) → (since : List Group) → List Group
with_close s next since = since ++ groups_made_by (hash_constants s) next []

-- an opening that marks the file leaves its closing part torn at most
abbrev pub MarkTornOnly : {D : Type 0} → (may_leave : D → List ℕ → Type 0) → (moment : D → ℕ) → (left_since : D → ℕ → List ℕ → Type 0) → (old new : D) → Type 0
MarkTornOnly may_leave moment left_since old new = LeavesOnly moment left_since old new (λ c. (d : List ℕ) × may_leave old d × Torn closing_place closing_size d c)

-- an opening that is refused, and not by a fault
abbrev pub UnlessFaulty : {D T : Type 0} → Result T (Unopened D) → (Unopened D → Type 0) → Type 0
UnlessFaulty result P = IfErr result (λ u. (u.cause ≡ errors.Fault → ⊥) → P u)
