-- Records in memory with a file as a store.
use Rattle.std.specs.Prelude.{◌≡◌, ◌⊎◌, ℕ, ◌≤◌, ◌^◌, Bool, true, false, List, [], Option, Some, None, IfSome}
use Rattle.tk_disk.specs.Crash.{Only}
use Rattle.tk_flat.specs.Flat.{flat_text}
use Rattle.tk_model.specs.Records.{after, replay}
use Rattle.tk_model.specs.declared.record.Order.TheVariants.{Hash}
use Rattle.tk_model.specs.declared.record.Pair.{Pair}
use Rattle.tk_model.specs.declared.record.Group.{Group}
use Rattle.tk_model.specs.declared.record.Change.{Change}
use Rattle.tk_store.specs.Store.{StoreConstants, StoreView, First, Records}
use Rattle.tk_mem.specs.Undo.{text_size}
use Rattle.tk_mem.specs.Tiny.{TinyReserved, TinyStands, tiny_constants, tiny_view}
use Rattle.tk_mem.specs.declared.tiny_store.Stage.{Stage}
use Rattle.tk_mem.specs.declared.tiny_store.Stage.TheVariants.{Running, Closed, Ended}
use Rattle.tk_mem.specs.declared.tiny_store.TinyStore.{TinyStore}

-- the file of records at an opening: a new one is empty
abbrev pub IsOpeningOf : List Pair → List ℕ → Type 0
IsOpeningOf pairs f = (f ≡ flat_text pairs) ⊎ ((f ≡ []) × (pairs ≡ []))

-- the flat text of the records is no longer than a file can be
abbrev pub FitsFile : List Pair → Type 0
FitsFile pairs = text_size pairs ≤ 2 ^ 40

-- what the file holds: the opening's text until the store ended it, and then that of the records, durable where it was written
abbrev pub HoldsText : {D : Type 0} → (image : D → Option (List ℕ)) → (may_leave : D → List ℕ → Type 0) → (ended : Option ℕ) → (first now : List Pair) → D → Type 0
HoldsText image may_leave None first now disk = IfSome (image disk) (IsOpeningOf first)
HoldsText image may_leave (Some next) first now disk =
    IfSome (image disk) (λ f. f ≡ flat_text now) × (FitsFile now → IfSome (image disk) (λ f. Only f (may_leave disk)))

abbrev pub is_closed : Stage → Bool
is_closed Running = false
is_closed Closed = true
is_closed (Ended next) = true

-- the next number that the file was ended with
abbrev pub ended_in : Stage → Option ℕ
ended_in Running = None
ended_in Closed = None
ended_in (Ended next) = Some next

module _ {D : Type 0} where
  -- the names that contracts call its parts
  abbrev pub stored_disk : TinyStore D → D
  stored_disk s = s.disk

  abbrev pub stored_pairs : TinyStore D → List Pair
  stored_pairs s = s.records.map.pairs

  abbrev pub stored_constants : TinyStore D → StoreConstants
  stored_constants s = tiny_constants s.records

  abbrev pub stored_view : TinyStore D → StoreView
  stored_view s = record {
    map = (tiny_view s.records).map;
    size = (tiny_view s.records).size;
    floor = (tiny_view s.records).floor;
    held_back = false;
    closed = is_closed s.stage;
    ended = ended_in s.stage;
    cost = λ k. None;
    needs = (tiny_view s.records).needs;
    log_size = 0;
  }

  -- the opening of the records that it has
  abbrev pub opening_of : TinyStore D → First
  opening_of s = record { records = stored_pairs s; held = Records }

  -- the records that the list leads to are prepared, and fit a file
  pub record StoredReserved (s : TinyStore D) (cs : List Change) : Type 0 where
    pub records : TinyReserved s.records cs
    pub fits : (cs ≡ []) ⊎ FitsFile (after Hash cs s.records.map.pairs)

  pub record StoredStands (image : D → Option (List ℕ)) (may_leave : D → List ℕ → Type 0) (s : TinyStore D) (first : First) (since : List Group) (hard : ℕ) : Type 0 where
    pub records : TinyStands s.records first since hard
    pub unclosed : s.records.closed ≡ false
    -- where the records don't fit a file, no change was made
    pub fits : (since ≡ []) ⊎ FitsFile (replay Hash since first.records)
    pub file : HoldsText image may_leave (ended_in s.stage) first.records (replay Hash since first.records) s.disk

  -- nothing was written from one state to another
  abbrev pub StoredUntouched : TinyStore D → TinyStore D → Type 0
  StoredUntouched old new = new.disk ≡ old.disk
