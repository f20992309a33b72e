-- A call that visits several stores: what it needs, and what it leaves.
use Rattle.std.specs.Prelude.{◌≡◌, ◌≢◌, ◌⊎◌, ◌+◌, ◌<◌, ◌≤◌, ◌||◌, ◌^◌, ℕ, Bool, true, false, List, [], ◌∷◌, ◌++◌, length, take, filter, Option, Some, None, Contains, Result, is_some}
use mathlib.Core.Option.{some}
use lib.ListN.{get_elem?}
use Rattle.tk_status.specs.declared.Status.{Status}
use Rattle.tk_status.specs.declared.Status.TheVariants as statuses
use Rattle.tk_model.specs.Counts.{Rose}
use Rattle.tk_model.specs.Records.{find, Rising, IsClearAlone}
use Rattle.tk_model.specs.Entries.{changes_of, is_in_shard, is_legal, shard_records}
use Rattle.tk_model.specs.declared.record.Change.{Change}
use Rattle.tk_model.specs.declared.record.Pair.{Pair}
use Rattle.tk_model.specs.declared.record.Group.{Group}
use Rattle.tk_model.specs.declared.record.Entry.{Entry}
use Rattle.tk_model.specs.declared.record.Entry.TheVariants as entries
use Rattle.tk_store.specs.declared.error.StoreError.{StoreError}
use Rattle.tk_store.specs.Store.{First, StoreView, StoreConstants, AllFitWithin, NeverFull, TellsFull}
use Rattle.tk_core.specs.declared.frame.Frame.{Frame}
use Rattle.tk_core.specs.Caller.{Caller, knows_broken}
use Rattle.tk_core.specs.Covers.{Reads, CoversReads, CoversWrites, store_lock}
use Rattle.tk_core.specs.Lists.{has, AllBelow}
use Rattle.tk_core.specs.Needs.{KeepsLaw, Concerns}
use Rattle.tk_core.specs.Rule.{Still, map_after, shard, groups_of, hard_groups, is_hard}
use Rattle.tk_locks.specs.declared.home.Home.{Home}
use Rattle.tk_locks.specs.Rule.{Ground, Risen, records_in, good_of, next_fits, count_at}
use Rattle.tk_locks.specs.Steps.{MayMark}
use Rattle.tk_locks.specs.View.{View, noted}
use Rattle.tk_dbm.specs.declared.answer.Answer.{Answer}
use Rattle.tk_dbm.specs.declared.visit.Part.{Part}
use Rattle.tk_dbm.specs.declared.visit.Work.{Work}
use Rattle.tk_dbm.specs.declared.visit.Work.TheVariants.{Count, Sync, Change as Changing, Keep as Keeping}
use Rattle.tk_dbm.specs.Setting.{Setting, records_at, newest}
use Rattle.tk_dbm.specs.Calls.{ByStatus, is_system}
use Rattle.tk_dbm.specs.Parts.{MadeNothing, MadeAt, MayStop}
use Rattle.tk_dbm.specs.Room.{changes_on, HasRoomAt, IsOver}

abbrev pub stores_of : List Part → List ℕ
stores_of [] = []
stores_of (p ∷ ps) = p.store ∷ stores_of ps

-- each store's lock is above those that are held, and above those of the stores before it
abbrev pub Climbs : Frame → List ℕ → List ℕ → Type 0
Climbs f [] held = Unit {0}
Climbs f (i ∷ is) held = (i < f.stores) × AllBelow (store_lock f i) held × Climbs f is (store_lock f i ∷ held)

-- no store whose lock it holds is known as broken
abbrev pub AllUnbroken : Frame → Caller → Type 0
AllUnbroken f v = (i : ℕ) → has (store_lock f i) v.held ≡ true → knows_broken v i ≡ false

-- these locks, those of these stores, and maybe more
abbrev pub HoldsMore : Frame → List ℕ → List ℕ → List ℕ → Type 0
HoldsMore f is held more = ((l : ℕ) → has l held ≡ true → has l more ≡ true) × ((i : ℕ) → has i is ≡ true → has (store_lock f i) more ≡ true)

-- these locks cover the call
pub record IsCovered (f : Frame) (m : List Pair) (e : Entry) (locks : List ℕ) : Type 0 where
  pub reads : CoversReads f locks e
  pub writes : CoversWrites f locks (changes_of f.order m e)
  pub stores : (i : ℕ) → i < f.stores → Concerns f m e i → has (store_lock f i) locks ≡ true

-- whatever was done since, the call is legal, keeps the law, and is covered once these stores are taken
pub record MayAsk (s : Setting) (entry : List Pair → Entry) (is : List ℕ) (v : Caller) : Type 0 where
  pub allowance : 0 < v.allowance
  pub legal : (log : List Entry) → Still s.frame s.first log v → is_legal s.frame.order (map_after s.frame s.first log) (entry (map_after s.frame s.first log)) ≡ true
  pub keeps : (log : List Entry) → Still s.frame s.first log v → KeepsLaw s.frame (λ m. s.law m ≡ true) (entry (map_after s.frame s.first log))
  -- on records that agree where these locks cover them it is the same call
  pub alike : (m n : List Pair) → Rising s.frame.order m → Rising s.frame.order n → (more : List ℕ) → HoldsMore s.frame is v.held more → ((k : List ℕ) → Reads s.frame more k → find k m ≡ find k n) → entry m ≡ entry n
  pub covers : (log : List Entry) → Still s.frame s.first log v → (more : List ℕ) → HoldsMore s.frame is v.held more → IsCovered s.frame (map_after s.frame s.first log) (entry (map_after s.frame s.first log)) more

-- what the work makes of the changes of a part, and of the call
abbrev pub Suits : Work → List Change → Entry → Type 0
Suits Count cs e = (cs ≡ []) × (is_hard e ≡ false)
Suits (Sync hard) cs e = (cs ≡ []) × (e ≡ entries.Sync hard)
Suits Changing cs e = (cs ≢ []) × (is_hard e ≡ false)
Suits Keeping cs e = (cs ≡ []) × (is_hard e ≡ false)

-- what is done in a store: one where a call that changes records changes nothing stays as it is
abbrev pub work_at : Work → List Change → Work
work_at Count cs = Count
work_at (Sync hard) cs = Sync hard
work_at Changing [] = Keeping
work_at Changing (c ∷ cs) = Changing
work_at Keeping cs = Keeping

-- its changes are those of the call there, whatever was done since; a count of faults that was seen of the store is not above what the pass knows
pub record IsFit (s : Setting) (work : Work) (entry : List Pair → Entry) (v : View) (p : Part) : Type 0 where
  pub alone : IsClearAlone p.changes
  pub fit : AllFitWithin 16777215 p.changes
  pub suits : (m : List Pair) → Suits (work_at work p.changes) p.changes (entry m)
  pub seen : (n : ℕ) → p.seen ≡ Some n → (n ≤ noted p.store v.counts) × (s.begun p.store ≤ n)
  pub told : (log : List Entry) → Still s.frame s.first log v.caller → s.tells p.store ≡ true
      → p.changes ≡ filter (is_in_shard (shard s.frame p.store)) (changes_of s.frame.order (map_after s.frame s.first log) (entry (map_after s.frame s.first log)))

abbrev pub AllFit : Setting → Work → (List Pair → Entry) → View → List Part → Type 0
AllFit s work entry v [] = Unit {0}
AllFit s work entry v (p ∷ ps) = IsFit s work entry v p × AllFit s work entry v ps

-- only a database that may write changes records
abbrev pub MayWork : Work → Bool → Type 0
MayWork Count writes = Unit {0}
MayWork (Sync hard) writes = Unit {0}
MayWork Changing writes = writes ≡ true
MayWork Keeping writes = Unit {0}

-- no store makes a mark of a group without changes
abbrev pub IsUnmarked : {T : Type 0} → (T → StoreConstants) → Ground T → Type 0
IsUnmarked {T} constants g = (i : ℕ) (h : Home T) → get_elem? g.start i ≡ some (Some h) → (constants h.store).marks ≡ false

abbrev pub MarksSuit : {T : Type 0} → (T → StoreConstants) → Ground T → Work → Type 0
MarksSuit constants g Count = Unit {0}
MarksSuit constants g (Sync hard) = hard ≡ true → IsUnmarked constants g
MarksSuit constants g Changing = Unit {0}
MarksSuit constants g Keeping = Unit {0}

-- what is reserved in a store
abbrev pub IsPrepared : {T : Type 0} → (T → List Change → Type 0) → Work → List Change → T → Type 0
IsPrepared reserved Count cs x = Unit {0}
IsPrepared reserved (Sync hard) cs x = hard ≡ true → reserved x cs
IsPrepared reserved Changing cs x = reserved x cs
IsPrepared reserved Keeping cs x = Unit {0}

-- who reserves nothing is never told that a store is full
abbrev pub TellsFullBy : {U : Type 0} → Work → StoreConstants → StoreView → List Change → Result U StoreError → Type 0
TellsFullBy Count n x cs r = NeverFull r
TellsFullBy (Sync true) n x cs r = TellsFull n x cs r
TellsFullBy (Sync false) n x cs r = NeverFull r
TellsFullBy Changing n x cs r = TellsFull n x cs r
TellsFullBy Keeping n x cs r = NeverFull r

-- the sum with these records, where records are counted
abbrev pub IsSum : Work → (sum more result : ℕ) → Type 0
IsSum Count sum more result = result ≡ sum + more
IsSum (Sync hard) sum more result = Unit {0}
IsSum Changing sum more result = Unit {0}
IsSum Keeping sum more result = Unit {0}

-- how many records these stores have
abbrev pub count_in : Frame → List Pair → List ℕ → ℕ
count_in f m [] = 0
count_in f m (i ∷ is) = length (shard_records (shard f i) m) + count_in f m is

module _ {T : Type 0} (law : List Pair → Bool) (stands : T → First → List Group → ℕ → Type 0) (store_view : T → StoreView) (constants : T → StoreConstants) (faults : T → ℕ) (g : Ground T) where
  -- the call got its number while the store was out, good for the history before; its part is to be made there
  pub record IsDue (reserved : T → List Change → Type 0) (work : Work) (i number : ℕ) (v : View) (x : T) : Type 0 where
    pub low : i < g.frame.stores
    pub holds : has (store_lock g.frame i) v.caller.held ≡ true
    pub stays : MayMark g.frame (count_at faults g.start) i v None
    pub counted : noted i v.counts ≤ faults x
    pub log : List Entry
    pub entry : Entry
    pub changes : List Change
    pub base : v.caller.base ≡ log ++ entry ∷ []
    pub good_then : good_of stands store_view constants g i x (groups_of g.frame (records_in g.frame.order store_view g.start) log i) (hard_groups g.frame (records_in g.frame.order store_view g.start) log i)
    pub prepared : IsPrepared reserved work changes x
    pub suits : Suits work changes entry
    pub told : is_some (store_view x).map ≡ true
        → changes ≡ filter (is_in_shard (shard g.frame i)) (changes_of g.frame.order (map_after g.frame (records_in g.frame.order store_view g.start) log) entry)
    pub number_is : number ≡ g.frame.base + length log
    pub follows : next_fits store_view constants g x (length log)

module _ {T : Type 0} (stands : T → First → List Group → ℕ → Type 0) (store_view : T → StoreView) (constants : T → StoreConstants) (g : Ground T) where
  -- the store is full, or has room, for the work's part
  abbrev pub OverBy : Work → ℕ → List Entry → Entry → (size need limit : ℕ) → Type 0
  OverBy Count i past e size need limit = ⊥
  OverBy (Sync true) i past e size need limit = IsOver stands store_view constants g past e i size need limit
  OverBy (Sync false) i past e size need limit = ⊥
  OverBy Changing i past e size need limit = (changes_on stands store_view constants g past e i ≢ []) × IsOver stands store_view constants g past e i size need limit
  OverBy Keeping i past e size need limit = ⊥

  abbrev pub RoomBy : Work → ℕ → List Entry → Entry → Type 0
  RoomBy Count i past e = Unit {0}
  RoomBy (Sync true) i past e = HasRoomAt stands store_view constants g past e i
  RoomBy (Sync false) i past e = Unit {0}
  RoomBy Changing i past e = changes_on stands store_view constants g past e i ≢ [] → HasRoomAt stands store_view constants g past e i
  RoomBy Keeping i past e = Unit {0}

-- the numbers are those of the first of these stores that is full
pub record NoRoom (s : Setting) (over : ℕ → List Entry → Entry → ℕ → ℕ → ℕ → Type 0) (room : ℕ → List Entry → Entry → Type 0) (is : List ℕ) (past : List Entry) (e : Entry) (size need limit : ℕ) : Type 0 where
  pub store : ℕ
  pub member : has store is ≡ true
  pub passed : s.tells store ≡ true → over store past e size need limit
  pub order : (i : ℕ) → has i is ≡ true → i < store → s.tells i ≡ true → room i past e

-- what the call saw of a store before is the count that its part tells
abbrev pub SteadyAt : List (ℕ × ℕ) → (store : ℕ) → Option ℕ → Type 0
SteadyAt counts i None = (a : ℕ) → Contains counts (i, a) → ⊥
SteadyAt counts i (Some n) = ((a : ℕ) → Contains counts (i, a) → a ≡ n) × Contains counts (i, n)

abbrev pub Steady : List (ℕ × ℕ) → List Part → Type 0
Steady counts [] = Unit {0}
Steady counts (p ∷ ps) = SteadyAt counts p.store p.seen × Steady counts ps

-- What becomes of the stores of these parts, where the call saw counts before.
pub record VisitStores (s : Setting) (ps : List Part) (v : View) (status : Status) (w : View) : Type 0 where
  pub counts : List (ℕ × ℕ)
  pub marks : List (ℕ × Option ℕ)
  pub more : List ℕ
  pub found : List ℕ
  pub counts_are : w.counts ≡ counts ++ v.counts
  pub marks_are : w.marks ≡ marks ++ v.marks
  pub broke_is : w.caller.broke ≡ more ++ v.caller.broke
  pub met_is : w.caller.met ≡ found ++ v.caller.met
  pub own : (j : ℕ) → (is_some (newest j counts) || is_some (newest j marks) || has j more || has j found) ≡ true → has j (stores_of ps) ≡ true
  pub by_status : (before : List (ℕ × ℕ)) → Steady before ps → ByStatus s (counts ++ before) marks more found status

-- what the visits of these stores leave
pub record Visits (s : Setting) (over : ℕ → List Entry → Entry → ℕ → ℕ → ℕ → Type 0) (room : ℕ → List Entry → Entry → Type 0) (entry : List Pair → Entry) (ps : List Part) (v : View) (a : Answer) (w : View) : Type 0 where
  pub stores : VisitStores s ps v a.status w
  pub base : w.caller.base ≡ w.caller.seen
  pub risen : (k : ℕ) → a.status ≡ statuses.System k → Risen s.frame s.begun k
  pub made : (n : ℕ) → a.number ≡ Some n → MadeAt s (entry (records_at s w.caller n)) v.caller w.caller n × Still s.frame s.first (take n w.caller.seen) v.caller × (length v.caller.base ≤ n) × (n < 2 ^ 62)
  pub ended : (n : ℕ) → a.number ≡ Some n → (a.status ≡ statuses.Success) ⊎ (is_system a.status ≡ true)
  pub rooms : (n : ℕ) → a.number ≡ Some n → (i : ℕ) → has i (stores_of ps) ≡ true → s.tells i ≡ true → room i (take n w.caller.seen) (entry (records_at s w.caller n))
  pub not_made : a.number ≡ None → MadeNothing s.frame s.first v.caller w.caller × Still s.frame s.first w.caller.seen v.caller × (length v.caller.base ≤ length w.caller.seen)
      × MayStop (λ size need limit. NoRoom s over room (stores_of ps) w.caller.seen (entry (map_after s.frame s.first w.caller.seen)) size need limit) a.status

-- how a store is given back that was out while the stores behind it were visited: as it was, or as broken with the others, or because it failed
abbrev pub Settled : {T : Type 0} → (T → ℕ) → (before : T) → Answer → Home T → Status → Type 0
Settled faults x a h st = ((h.broken ≡ None) × (st ≡ a.status) × (is_system a.status ≡ false))
    ⊎ (((k : ℕ) × (a.status ≡ statuses.System k) × (st ≡ statuses.System k) × (h.broken ≡ Some k) × (faults h.store ≡ faults x))
    ⊎ ((n : ℕ) × (a.number ≡ Some n) × (is_system a.status ≡ false) × (st ≡ statuses.System (faults h.store)) × (h.broken ≡ Some (faults h.store)) × Rose (faults x) (faults h.store)))
