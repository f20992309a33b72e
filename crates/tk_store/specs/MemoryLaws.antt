-- The laws of a store in memory.
use Rattle.std.specs.Prelude.{◌≡◌, ℕ, ◌≤◌, List, length, IfSome, Some, None, false}
use Rattle.std.proofs.Common.{arith, refl}
use Rattle.tk_model.specs.declared.record.Group.{Group}
use Rattle.tk_model.specs.declared.record.Change.{Change}
use Rattle.tk_model.specs.Records.{replay, Rising, AllHeld}
use Rattle.tk_store.specs.Store.{First, floor_after, extents_need}
use Rattle.tk_store.specs.Memory.{mem_constants, mem_view, MemStands}
use Rattle.tk_store.specs.declared.memory.MemStore.{MemStore}

pub mem_replays : (s : MemStore) (first : First) (since : List Group) (hard : ℕ) → MemStands s first since hard → IfSome (mem_view s).map (λ m. m ≡ replay (mem_constants s).order since first.records)
mem_replays s first since hard st = st.map

pub mem_rising : (s : MemStore) (first : First) (since : List Group) (hard : ℕ) → MemStands s first since hard → Rising (mem_constants s).order first.records
mem_rising s first since hard st = st.rising

pub mem_held : (s : MemStore) (first : First) (since : List Group) (hard : ℕ) → MemStands s first since hard → IfSome (mem_view s).map AllHeld
mem_held s first since hard st = st.fit

pub mem_numbered : (s : MemStore) (first : First) (since : List Group) (hard : ℕ) → MemStands s first since hard → (mem_view s).floor ≡ floor_after (mem_constants s).next since
mem_numbered s first since hard st = st.floor

pub mem_synced : (s : MemStore) (first : First) (since : List Group) (hard : ℕ) → MemStands s first since hard → hard ≤ length since
mem_synced s first since hard st = st.synced

pub mem_by_extents : (s : MemStore) (v : ℕ) (cs : List Change) → (mem_constants s).extents ≡ Some v → (mem_view s).needs cs ≡ Some (extents_need (mem_constants s) v cs)
mem_by_extents s v cs e = cc

pub mem_unended : (s : MemStore) → (mem_view s).closed ≡ false → (mem_view s).ended ≡ None
mem_unended s unclosed = rw unclosed refl

pub mem_values : (s : MemStore) → (16777215 ≤ (mem_constants s).longest_value) × ((mem_constants s).longest_value ≤ 33554431)
mem_values s = (omega arith, omega arith)
