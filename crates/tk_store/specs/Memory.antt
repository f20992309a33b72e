-- A store in memory, as its trait's members see it.
use Rattle.std.specs.Prelude.{◌≡◌, ℕ, ◌+◌, ◌-◌, ◌≤◌, ◌^◌, ◌&&◌, if◌then◌else◌, min, false, not, List, [], length, Option, Some, None}
use Rattle.tk_model.specs.declared.record.Group.{Group}
use Rattle.tk_model.specs.declared.record.Change.{Change}
use Rattle.tk_model.specs.Records.{after, replay, Rising, AllFit, AllHeld}
use Rattle.tk_store.specs.Store.{StoreConstants, StoreView, First, Records, floor_after, is_empty}
use Rattle.tk_store.specs.declared.memory.MemStore.{MemStore}

abbrev pub floor_of : Option ℕ → ℕ
floor_of None = 0
floor_of (Some n) = n + 1

abbrev pub mem_constants : MemStore → StoreConstants
mem_constants s = record { order = s.order; limit = min s.room (2 ^ 40); next = 0; longest_value = 33554431; writable = s.writable; marks = false; extents = None; header = []; log = None }

-- the store counts records
abbrev pub mem_view : MemStore → StoreView
mem_view s = record { map = Some s.pairs; size = length s.pairs; floor = floor_of s.last; held_back = false; closed = s.closed; ended = if s.closed && s.writable then Some s.end else None; cost = λ k. None; needs = λ cs. Some (length (after s.order cs s.pairs) - length s.pairs); log_size = 0 }

-- the records that the list leads to are staged
pub record MemReserved (s : MemStore) (cs : List Change) : Type 0 where
  pub reserved_group : s.reserved_group ≡ after s.order cs s.pairs
  pub fit : AllFit cs
  pub grows : s.grows ≡ not (is_empty cs)

pub record MemStands (s : MemStore) (first : First) (since : List Group) (hard : ℕ) : Type 0 where
  pub map : s.pairs ≡ replay s.order since first.records
  pub fit : AllHeld s.pairs
  pub rising : Rising s.order first.records
  pub floor : floor_of s.last ≡ floor_after 0 since
  pub synced : hard ≤ length since
  pub held : first.held ≡ Records
