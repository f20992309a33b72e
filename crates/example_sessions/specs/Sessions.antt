-- What the functions of this program ask of its store, its database and a pass.
use Rattle.std.specs.Prelude.{◌≡◌, ◌≤◌, ◌^◌, ℕ, true, false, List, [], Option, None}
use Rattle.tk_model.specs.declared.record.Group.{Group}
use Rattle.tk_disk.specs.declared.file.FileDisk.{FileDisk}
use Rattle.tk_disk.specs.Past.{Past, settled_on}
use Rattle.tk_store.specs.Store.{First}
use Rattle.tk_hash.specs.declared.store.HashStore.{HashStore}
use Rattle.tk_hash.specs.Hash.{HashStands, hash_view, hash_constants}
use Rattle.tk_dbm.specs.declared.dbm.Dbm.{Dbm}
use Rattle.tk_dbm.specs.declared.pass.Pass.{Pass}
use Rattle.tk_dbm.specs.Dbm.{IsIdleOf}

-- a real file tells nothing: neither what it holds, nor what a crash leaves, nor what was written
abbrev pub told : FileDisk → Option (List ℕ)
told d = None

abbrev pub Leaves : FileDisk → List ℕ → Type 0
Leaves d left = ⊥

abbrev pub past : FileDisk → Past
past d = settled_on []

abbrev pub Stands : HashStore FileDisk → First → List Group → ℕ → Type 0
Stands s first since hard = HashStands told Leaves past s first since hard

-- the store was just opened, for writing
pub record IsOpened (s : HashStore FileDisk) : Type 0 where
  pub first : First
  pub stands_now : Stands s first [] 0
  pub unclosed : (hash_view told s).closed ≡ false
  pub writable : (hash_constants s).writable ≡ true
  pub floor : (hash_view told s).floor ≤ (hash_constants s).next
  pub next : (hash_constants s).next ≤ 2 ^ 62

-- the pass is one of the database and holds no lock
abbrev pub IsOurs : Dbm (HashStore FileDisk) → Pass → Type 0
IsOurs db pass = IsIdleOf (λ m. true) Stands (hash_view told) hash_constants db pass
