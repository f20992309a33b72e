-- What a call of one kind of store does, said of a store of any kind.
use Rattle.std.proofs.Common.{◌≡◌, ℕ, List, sym, subst}
use Rattle.std.specs.Prelude.{Option}
use Rattle.tk_disk.specs.Past.{Past}
use Rattle.tk_store.specs.Store.{OnlyLooks}
use Rattle.tk_hash.specs.declared.store.HashStore.{HashStore}
use Rattle.tk_hash.specs.Hash.{hash_disk, hash_constants, hash_view, HashUntouched, HashStands, HashKeptSince}
use Rattle.tk_mem.specs.declared.tiny_store.TinyStore.{TinyStore}
use Rattle.tk_mem.specs.TinyStored.{stored_disk, stored_constants, stored_view, StoredStands, StoredUntouched}
use Rattle.tk_shard.specs.AnyStore.{any_disk, any_constants, any_view, any_moment, AnyStands, AnyKeptSince, AnyUntouched}
use Rattle.tk_shard.specs.declared.any_store.AnyStore.{AnyStore}
use Rattle.tk_shard.specs.declared.any_store.AnyStore.TheVariants.{Hash, Tiny}

module _ {D : Type 0} (image : D → Option (List ℕ)) (may_leave : D → List ℕ → Type 0) (past : D → Past) (moment : D → ℕ) (left_since : D → ℕ → List ℕ → Type 0) (left_with : D → ℕ → Past × List ℕ → Type 0) (taken : D → ℕ) where
  abbrev pub AnyLooks : AnyStore D → AnyStore D → Type 0
  AnyLooks old new =
      OnlyLooks any_constants (any_view image) (AnyStands image may_leave past) (AnyKeptSince image may_leave past moment left_since left_with) (AnyUntouched image may_leave past moment left_since left_with) (any_moment moment) (λ s. taken (any_disk s)) old new

  pub hash_looks : (s : AnyStore D) (old new : HashStore D) → s ≡ Hash old
      → OnlyLooks hash_constants (hash_view image) (HashStands image may_leave past) (HashKeptSince image may_leave past moment left_since left_with) (HashUntouched image may_leave past moment left_since left_with) (λ h. moment (hash_disk h)) (λ h. taken (hash_disk h)) old new
      → AnyLooks s (Hash new)
  hash_looks s old new is l = subst (λ (x : AnyStore D). AnyLooks x (Hash new)) (sym is) (record {
    same_nature = l.same_nature;
    same_shown = l.same_shown;
    keeps = l.keeps;
    keeps_since = l.keeps_since;
    writes_nothing = l.writes_nothing;
    later = l.later;
    more_taken = l.more_taken;
  })

  pub tiny_looks : (s : AnyStore D) (old new : TinyStore D) → s ≡ Tiny old
      → OnlyLooks stored_constants stored_view (StoredStands image may_leave) (λ h t n. StoredStands image may_leave h) StoredUntouched (λ h. 0) (λ h. taken (stored_disk h)) old new
      → AnyLooks s (Tiny new)
  tiny_looks s old new is l = subst (λ (x : AnyStore D). AnyLooks x (Tiny new)) (sym is) (record {
    same_nature = l.same_nature;
    same_shown = l.same_shown;
    keeps = l.keeps;
    keeps_since = l.keeps_since;
    writes_nothing = l.writes_nothing;
    later = l.later;
    more_taken = l.more_taken;
  })
