-- The locks of keys, and which locks a call needs.
use Rattle.std.specs.Prelude.{◌≡◌, ◌⊎◌, ◌+◌, ◌<◌, ◌≤◌, ℕ, Bool, true, false, List, [], ◌∷◌}
use Rattle.tk_model.specs.Hashes.{mix_of, shard_of}
use Rattle.tk_model.specs.Entries.{is_keep}
use Rattle.tk_hashnum.specs.Stripes.{stripe_of}
use Rattle.tk_model.specs.declared.record.Change.{Change}
use Rattle.tk_model.specs.declared.record.Change.TheVariants as changes
use Rattle.tk_model.specs.declared.record.Touch.{Touch}
use Rattle.tk_model.specs.declared.record.Entry.{Entry}
use Rattle.tk_model.specs.declared.record.Entry.TheVariants as entries
use Rattle.tk_core.specs.declared.frame.Frame.{Frame}
use Rattle.tk_core.specs.Lists.{has}

-- the sizes that a table may have
pub record IsFrame (f : Frame) : Type 0 where
  pub stores : (1 ≤ f.stores) × (f.stores ≤ 64)
  pub stripes : (16 ≤ f.stripes) × (f.stripes ≤ 1024)

-- the lock of a key's stripe
abbrev pub stripe_lock : Frame → List ℕ → ℕ
stripe_lock f k = stripe_of (mix_of k) f.stripes

-- the store of a key
abbrev pub store_of : Frame → List ℕ → ℕ
store_of f k = shard_of (mix_of k) f.stores

-- the lock of a store: after those of all stripes
abbrev pub store_lock : Frame → ℕ → ℕ
store_lock f i = f.stripes + i

-- a key is covered for reading by its stripe or its store, and for writing by both
abbrev pub Reads : Frame → List ℕ → List ℕ → Type 0
Reads f held k = (has (stripe_lock f k) held ≡ true) ⊎ (has (store_lock f (store_of f k)) held ≡ true)

abbrev pub Writes : Frame → List ℕ → List ℕ → Type 0
Writes f held k = (has (stripe_lock f k) held ≡ true) × (has (store_lock f (store_of f k)) held ≡ true)

abbrev pub HoldsStores : Frame → List ℕ → Type 0
HoldsStores f held = (i : ℕ) → i < f.stores → has (store_lock f i) held ≡ true

-- all stripes and all stores
abbrev pub HoldsAll : Frame → List ℕ → Type 0
HoldsAll f held = (l : ℕ) → l < f.stripes + f.stores → has l held ≡ true

abbrev pub ReadsEach : Frame → List ℕ → List Touch → Type 0
ReadsEach f held [] = Unit {0}
ReadsEach f held (t ∷ ts) = Reads f held t.key × ReadsEach f held ts

-- what a search for a record needs, where it keeps all and where it may change what it finds
abbrev pub Searches : Frame → List ℕ → Bool → Type 0
Searches f held true = HoldsStores f held
Searches f held false = HoldsAll f held

-- the locks cover what the call looks at
abbrev pub CoversReads : Frame → List ℕ → Entry → Type 0
CoversReads f held (entries.Proc ts) = ReadsEach f held ts
CoversReads f held (entries.Next w b found a) = Searches f held (is_keep a)
CoversReads f held (entries.Each ts) = HoldsAll f held
CoversReads f held (entries.Count n) = HoldsStores f held
CoversReads f held entries.Clear = HoldsAll f held
CoversReads f held (entries.Sync hard) = HoldsStores f held

-- the locks cover each of these changes
abbrev pub CoversWrites : Frame → List ℕ → List Change → Type 0
CoversWrites f held [] = Unit {0}
CoversWrites f held (changes.Put p ∷ cs) = Writes f held p.key × CoversWrites f held cs
CoversWrites f held (changes.Drop k ∷ cs) = Writes f held k × CoversWrites f held cs
CoversWrites f held (changes.Clear ∷ cs) = HoldsAll f held × CoversWrites f held cs
