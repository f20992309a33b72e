-- Which calls a store has room for, after a history.
use Rattle.std.specs.Prelude.{◌≢◌, ◌⊎◌, ◌<◌, ℕ, List, [], filter}
use Rattle.tk_model.specs.Entries.{changes_of, is_in_shard}
use Rattle.tk_model.specs.declared.record.Change.{Change}
use Rattle.tk_model.specs.declared.record.Entry.{Entry}
use Rattle.tk_model.specs.declared.record.Group.{Group}
use Rattle.tk_store.specs.Store.{First, StoreView, StoreConstants, HasRoom, PassesLimit, PassesLog}
use Rattle.tk_core.specs.Rule.{map_after, shard, groups_of, hard_groups}
use Rattle.tk_locks.specs.Rule.{Ground, records_in, good_of}

module _ {T : Type 0} (stands : T → First → List Group → ℕ → Type 0) (store_view : T → StoreView) (constants : T → StoreConstants) (g : Ground T) where
  -- what a call changes in the store i, after these calls
  abbrev pub changes_on : List Entry → Entry → ℕ → List Change
  changes_on past e i = filter (is_in_shard (shard g.frame i)) (changes_of g.frame.order (map_after g.frame (records_in g.frame.order store_view g.start) past) e)

  -- the store i may be so after these calls
  abbrev pub IsAfter : ℕ → List Entry → T → Type 0
  IsAfter i past x = let m = records_in g.frame.order store_view g.start in
      good_of stands store_view constants g i x (groups_of g.frame m past i) (hard_groups g.frame m past i)

  abbrev pub HasRoomAt : List Entry → Entry → ℕ → Type 0
  HasRoomAt past e i = (x : T) × IsAfter i past x × HasRoom (constants x) (store_view x) (changes_on past e i)

  -- each store that the call changes has room for it
  abbrev pub AllHaveRoom : List Entry → Entry → Type 0
  AllHaveRoom past e = (i : ℕ) → i < g.frame.stores → changes_on past e i ≢ [] → HasRoomAt past e i

  -- the store i has no room, with these numbers, its own or those of its log
  abbrev pub IsOver : List Entry → Entry → ℕ → (size need limit : ℕ) → Type 0
  IsOver past e i size need limit = (x : T) × IsAfter i past x
      × (PassesLimit (constants x) (store_view x) (changes_on past e i) size need limit ⊎ PassesLog (constants x).log (store_view x).log_size (changes_on past e i) size need limit)

  -- the numbers are those of the first store in order that has no room
  pub record IsFull (past : List Entry) (e : Entry) (size need limit : ℕ) : Type 0 where
    pub store : ℕ
    pub low : store < g.frame.stores
    pub changed : changes_on past e store ≢ []
    pub over : IsOver past e store size need limit
    pub order : (i : ℕ) → i < store → changes_on past e i ≢ [] → HasRoomAt past e i
