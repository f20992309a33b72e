-- Records in memory as a store.
use Rattle.std.specs.Prelude.{◌≡◌, ℕ, ◌+◌, ◌-◌, ◌≤◌, ◌^◌, ◌&&◌, if◌then◌else◌, min, false, not, List, [], length, Option, Some, None}
use Rattle.tk_model.specs.declared.record.Group.{Group}
use Rattle.tk_model.specs.declared.record.Change.{Change}
use Rattle.tk_model.specs.declared.record.Order.TheVariants.{Hash}
use Rattle.tk_model.specs.Records.{after, replay, Rising, AllHeld}
use Rattle.tk_store.specs.Store.{StoreConstants, StoreView, First, Records, AllFitWithin, floor_after, is_empty}
use Rattle.tk_mem.specs.Undo.{text_size}
use Rattle.tk_mem.specs.TinyView.{next_of}
use Rattle.tk_mem.specs.declared.tiny_records.TinyRecords.{TinyRecords}

abbrev pub floor_of : Option ℕ → ℕ
floor_of None = 0
floor_of (Some n) = n + 1

abbrev pub tiny_constants : TinyRecords → StoreConstants
tiny_constants s = record { order = Hash; limit = min s.limit (2 ^ 40); next = 0; longest_value = 33554431; writable = s.writable; marks = false; extents = None; header = []; log = None }

-- the size is the length of the records' flat text, and a group needs what that grows by
abbrev pub tiny_view : TinyRecords → StoreView
tiny_view s = record {
  map = Some s.map.pairs;
  size = text_size s.map.pairs;
  floor = floor_of s.last;
  held_back = false;
  closed = s.closed;
  ended = if s.closed && s.writable then Some s.end else None;
  cost = λ k. None;
  needs = λ cs. Some (text_size (after Hash cs s.map.pairs) - text_size s.map.pairs);
  log_size = 0;
}

-- the records that the list leads to are prepared
pub record TinyReserved (s : TinyRecords) (cs : List Change) : Type 0 where
  pub next : next_of s.map ≡ after Hash cs s.map.pairs
  pub size : s.next_size ≡ text_size (next_of s.map)
  pub fit : AllFitWithin 33554431 cs
  pub grows : s.grows ≡ not (is_empty cs)

pub record TinyStands (s : TinyRecords) (first : First) (since : List Group) (hard : ℕ) : Type 0 where
  pub map : s.map.pairs ≡ replay Hash since first.records
  pub fit : AllHeld s.map.pairs
  pub rising : Rising Hash first.records
  pub floor : floor_of s.last ≡ floor_after 0 since
  pub synced : hard ≤ length since
  pub held : first.held ≡ Records
