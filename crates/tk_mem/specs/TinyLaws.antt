-- The laws of records in memory as a store.
use Rattle.std.specs.Prelude.{◌≡◌, ℕ, ◌≤◌, List, length, IfSome, Some, None, false}
use Rattle.std.proofs.Common.{arith, refl}
use Rattle.tk_model.specs.declared.record.Group.{Group}
use Rattle.tk_model.specs.declared.record.Change.{Change}
use Rattle.tk_model.specs.Records.{replay, Rising, AllHeld}
use Rattle.tk_store.specs.Store.{First, floor_after, extents_need}
use Rattle.tk_mem.specs.Tiny.{tiny_constants, tiny_view, TinyStands}
use Rattle.tk_mem.specs.declared.tiny_records.TinyRecords.{TinyRecords}

pub tiny_replays : (s : TinyRecords) (first : First) (since : List Group) (hard : ℕ) → TinyStands s first since hard → IfSome (tiny_view s).map (λ m. m ≡ replay (tiny_constants s).order since first.records)
tiny_replays s first since hard st = st.map

pub tiny_rising : (s : TinyRecords) (first : First) (since : List Group) (hard : ℕ) → TinyStands s first since hard → Rising (tiny_constants s).order first.records
tiny_rising s first since hard st = st.rising

pub tiny_held : (s : TinyRecords) (first : First) (since : List Group) (hard : ℕ) → TinyStands s first since hard → IfSome (tiny_view s).map AllHeld
tiny_held s first since hard st = st.fit

pub tiny_numbered : (s : TinyRecords) (first : First) (since : List Group) (hard : ℕ) → TinyStands s first since hard → (tiny_view s).floor ≡ floor_after (tiny_constants s).next since
tiny_numbered s first since hard st = st.floor

pub tiny_synced : (s : TinyRecords) (first : First) (since : List Group) (hard : ℕ) → TinyStands s first since hard → hard ≤ length since
tiny_synced s first since hard st = st.synced

pub tiny_by_extents : (s : TinyRecords) (v : ℕ) (cs : List Change) → (tiny_constants s).extents ≡ Some v → (tiny_view s).needs cs ≡ Some (extents_need (tiny_constants s) v cs)
tiny_by_extents s v cs e = cc

pub tiny_unended : (s : TinyRecords) → (tiny_view s).closed ≡ false → (tiny_view s).ended ≡ None
tiny_unended s unclosed = rw unclosed refl

pub tiny_values : (s : TinyRecords) → (16777215 ≤ (tiny_constants s).longest_value) × ((tiny_constants s).longest_value ≤ 33554431)
tiny_values s = (omega arith, omega arith)
