-- A store of any kind: what its own kind says of it.
use Rattle.std.specs.Prelude.{ℕ, List, Option}
use Rattle.tk_disk.specs.Past.{Past}
use Rattle.tk_model.specs.declared.record.Pair.{Pair}
use Rattle.tk_model.specs.declared.record.Group.{Group}
use Rattle.tk_model.specs.declared.record.Change.{Change}
use Rattle.tk_store.specs.Store.{StoreConstants, StoreView, First}
use Rattle.tk_hash.specs.Hash.{hash_disk, hash_constants, hash_view, HashUntouched, HashStands, HashReserved, HashSafe, HashKeptSince}
use Rattle.tk_mem.specs.TinyStored.{stored_disk, stored_constants, stored_view, StoredReserved, StoredStands, StoredUntouched}
use Rattle.tk_shard.specs.declared.any_store.AnyStore.{AnyStore}
use Rattle.tk_shard.specs.declared.any_store.AnyStore.TheVariants.{Hash, Tiny}

module _ {D : Type 0} where
  abbrev pub any_disk : AnyStore D → D
  any_disk (Hash s) = hash_disk s
  any_disk (Tiny s) = stored_disk s

  abbrev pub any_constants : AnyStore D → StoreConstants
  any_constants (Hash s) = hash_constants s
  any_constants (Tiny s) = stored_constants s

  abbrev pub any_moment : (D → ℕ) → AnyStore D → ℕ
  any_moment moment (Hash s) = moment (hash_disk s)
  any_moment moment (Tiny s) = 0

  module _ (image : D → Option (List ℕ)) where
    abbrev pub any_view : AnyStore D → StoreView
    any_view (Hash s) = hash_view image s
    any_view (Tiny s) = stored_view s

    abbrev pub AnyReserved : AnyStore D → List Change → Type 0
    AnyReserved (Hash s) = HashReserved image s
    AnyReserved (Tiny s) = StoredReserved s

    abbrev pub AnySafe : (left_since : D → ℕ → List ℕ → Type 0) (left_with : D → ℕ → Past × List ℕ → Type 0) → AnyStore D → ℕ → First → List Group → ℕ → Type 0
    AnySafe left_since left_with (Hash s) = HashSafe image left_since left_with s
    AnySafe left_since left_with (Tiny s) = λ t first since n. Unit {0}

    module _ (may_leave : D → List ℕ → Type 0) (past : D → Past) where
      abbrev pub AnyStands : AnyStore D → First → List Group → ℕ → Type 0
      AnyStands (Hash s) = HashStands image may_leave past s
      AnyStands (Tiny s) = StoredStands image may_leave s

      module _ (moment : D → ℕ) (left_since : D → ℕ → List ℕ → Type 0) (left_with : D → ℕ → Past × List ℕ → Type 0) where
        abbrev pub AnyKeptSince : AnyStore D → ℕ → ℕ → First → List Group → ℕ → Type 0
        AnyKeptSince (Hash s) = HashKeptSince image may_leave past moment left_since left_with s
        AnyKeptSince (Tiny s) = λ t n. StoredStands image may_leave s

        -- nothing was written from one state to another, of one kind
        abbrev pub AnyUntouched : AnyStore D → AnyStore D → Type 0
        AnyUntouched (Hash a) (Hash b) = HashUntouched image may_leave past moment left_since left_with a b
        AnyUntouched (Hash a) (Tiny b) = ⊥
        AnyUntouched (Tiny a) (Hash b) = ⊥
        AnyUntouched (Tiny a) (Tiny b) = StoredUntouched a b
