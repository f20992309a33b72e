-- What the parts of a call at one key need of one another, and what they tell.
use Rattle.std.specs.Prelude.{◌≡◌, ◌≢◌, ◌⊎◌, ◌+◌, ◌<◌, ◌≤◌, ◌==◌, ℕ, Bool, true, false, List, [], ◌∷◌, ◌++◌, length, take, filter, Option, Some, None, is_some}
use mathlib.Core.List.{IsPrefix}
use Rattle.tk_status.specs.declared.Status.{Status}
use Rattle.tk_status.specs.declared.Status.TheVariants as statuses
use Rattle.tk_model.specs.Counts.{Rose}
use Rattle.tk_model.specs.Records.{find}
use Rattle.tk_model.specs.Entries.{changes_of, is_in_shard, is_keep, stored}
use Rattle.tk_model.specs.declared.record.Action.{Action}
use Rattle.tk_model.specs.declared.record.Change.{Change}
use Rattle.tk_model.specs.declared.record.Pair.{Pair}
use Rattle.tk_model.specs.declared.record.Group.{Group}
use Rattle.tk_model.specs.declared.record.Entry.{Entry}
use Rattle.tk_store.specs.Store.{First, StoreView, StoreConstants}
use Rattle.tk_core.specs.declared.frame.Frame.{Frame}
use Rattle.tk_core.specs.Caller.{Caller, weight}
use Rattle.tk_core.specs.Covers.{Reads, store_lock, store_of, stripe_lock}
use Rattle.tk_core.specs.Lists.{has, AllBelow}
use Rattle.tk_core.specs.Moves.{looked}
use Rattle.tk_core.specs.Needs.{KeepsLaw}
use Rattle.tk_core.specs.Rule.{IsLawful, known, map_after, shard, groups_of, hard_groups, is_hard}
use Rattle.tk_locks.specs.declared.home.Home.{Home}
use Rattle.tk_locks.specs.Rule.{Ground, records_in, good_of, next_fits, count_at}
use Rattle.tk_locks.specs.Steps.{Meets, MayMark, GaveStore}
use Rattle.tk_locks.specs.Tells.{IsOwed, Makes}
use Rattle.tk_locks.specs.View.{View, noted}
use Rattle.tk_dbm.specs.declared.answer.Answer.{Answer}
use Rattle.tk_dbm.specs.Setting.{Setting, records_at}
use Rattle.tk_dbm.specs.Calls.{Stores, is_system}
use Rattle.tk_dbm.specs.OneKey.{one}

-- the store's lock is above each that the caller holds
pub record MayVisit (f : Frame) (i : ℕ) (v : Caller) : Type 0 where
  pub low : i < f.stores
  pub rising : AllBelow (store_lock f i) v.held
  pub weighs : 0 < weight v

module _ {T : Type 0} (law : List Pair → Bool) (stands : T → First → List Group → ℕ → Type 0) (store_view : T → StoreView) (constants : T → StoreConstants) (faults : T → ℕ) (g : Ground T) where
  -- the store is out with the pass, and may be given back as it is
  pub record IsOut (i : ℕ) (v : View) (h : Home T) : Type 0 where
    pub low : i < g.frame.stores
    pub holds : has (store_lock g.frame i) v.caller.held ≡ true
    pub owed : IsOwed law stands store_view constants faults g i v.caller h
    pub stays : MayMark g.frame (count_at faults g.start) i v h.broken
    pub counted : noted i v.counts ≤ faults h.store
    pub follows : h.broken ≡ None → next_fits store_view constants g h.store (length v.caller.base)

  -- the store was good for the history before the call that was made last, and has the call's changes reserved
  pub record IsReady (reserved : T → List Change → Type 0) (i number : ℕ) (v : View) (x : T) : Type 0 where
    pub low : i < g.frame.stores
    pub holds : has (store_lock g.frame i) v.caller.held ≡ true
    pub stays : MayMark g.frame (count_at faults g.start) i v None
    pub counted : noted i v.counts ≤ faults x
    pub log : List Entry
    pub entry : Entry
    pub changes : List Change
    pub base : v.caller.base ≡ log ++ entry ∷ []
    pub good_then : good_of stands store_view constants g i x (groups_of g.frame (records_in g.frame.order store_view g.start) log i) (hard_groups g.frame (records_in g.frame.order store_view g.start) log i)
    pub ready : reserved x changes
    pub some : changes ≢ []
    pub soft : is_hard entry ≡ false
    pub told : is_some (store_view x).map ≡ true
        → changes ≡ filter (is_in_shard (shard g.frame i)) (changes_of g.frame.order (map_after g.frame (records_in g.frame.order store_view g.start) log) entry)
    pub number_is : number ≡ g.frame.base + length log
    pub follows : next_fits store_view constants g x (length log)

  -- the call's changes are reserved in the store
  pub record HasChanges (reserved : T → List Change → Type 0) (i : ℕ) (e : Entry) (v : Caller) (x : T) : Type 0 where
    pub changes : List Change
    pub ready : reserved x changes
    pub some : changes ≢ []
    pub soft : is_hard e ≡ false
    pub told : is_some (store_view x).map ≡ true
        → changes ≡ filter (is_in_shard (shard g.frame i)) (changes_of g.frame.order (map_after g.frame (records_in g.frame.order store_view g.start) v.base) e)

  -- the call got its number while the store was out, its group was made, and the store was given back
  pub record MadeThere (e : Entry) (i : ℕ) (v : View) (a : Answer) (w : View) : Type 0 where
    pub n : ℕ
    pub number : a.number ≡ Some n
    pub between : View
    pub makes : Makes law store_view g e v n between
    pub home : Home T
    pub gave : GaveStore faults g.frame i between home w
    pub how : ((home.broken ≡ None) × (a.status ≡ statuses.Success))
        ⊎ ((home.broken ≡ Some (faults home.store)) × (a.status ≡ statuses.System (faults home.store)) × Rose (noted i v.counts) (faults home.store))

  -- the history was looked at while the store was out, and the store given back
  abbrev pub GaveUp : ℕ → View → Home T → View → Type 0
  GaveUp i v h w = (log : List Entry) × Meets g.frame (λ m. law m ≡ true) (records_in g.frame.order store_view g.start) v.caller log
      × GaveStore faults g.frame i (record { caller = looked log v.caller; counts = v.counts; marks = v.marks; other = [] }) h w

-- no store was met
pub record Quiet (v w : View) : Type 0 where
  pub counts : w.counts ≡ v.counts
  pub marks : w.marks ≡ v.marks
  pub broke : w.caller.broke ≡ v.caller.broke
  pub met : w.caller.met ≡ v.caller.met

-- nothing was made, and what the locks cover is as the caller knew it
pub record MadeNothing (f : Frame) (m : List Pair) (v w : Caller) : Type 0 where
  pub front : IsPrefix v.seen w.seen
  pub mine : w.mine ≡ v.mine
  pub allowance : w.allowance ≡ v.allowance
  pub records : (k : List ℕ) → Reads f v.held k → known f m v k ≡ find k (map_after f m w.seen)

-- the call has this number, and what the locks cover was as the caller knew it
pub record MadeAt (s : Setting) (e : Entry) (v w : Caller) (n : ℕ) : Type 0 where
  pub front : IsPrefix v.seen (take n w.seen)
  pub seen : w.seen ≡ take n w.seen ++ e ∷ []
  pub place : length w.seen ≡ n + 1
  pub lawful : IsLawful s.frame (λ m. s.law m ≡ true) s.first w.seen
  pub mine : w.mine ≡ (n, e) ∷ v.mine
  pub allowance : v.allowance ≡ w.allowance + 1
  pub records : (k : List ℕ) → Reads s.frame v.held k → known s.frame s.first v k ≡ find k (records_at s w n)

-- the statuses of a call that stops at a store, and the numbers of one that is full
abbrev pub MayStop : (full : ℕ → ℕ → ℕ → Type 0) → Status → Type 0
MayStop full statuses.Success = ⊥
MayStop full (statuses.System faults) = Unit {0}
MayStop full statuses.NotImplemented = ⊥
MayStop full statuses.Precondition = ⊥
MayStop full statuses.InvalidArgument = ⊥
MayStop full statuses.NotFound = ⊥
MayStop full statuses.Infeasible = ⊥
MayStop full statuses.Duplication = ⊥
MayStop full (statuses.Broken faults) = Unit {0}
MayStop full statuses.NoMemory = Unit {0}
MayStop full (statuses.Full size need limit) = full size need limit
MayStop full statuses.Limit = ⊥
MayStop full (statuses.TooLong length) = ⊥

-- the store i was read, and nothing else came of it
pub record Rests (s : Setting) (i : ℕ) (v w : View) : Type 0 where
  pub stores : Stores s (λ j. j == i) v statuses.Success w
  pub seen : w.caller.seen ≡ v.caller.seen
  pub mine : w.caller.mine ≡ v.caller.mine
  pub allowance : w.caller.allowance ≡ v.caller.allowance

-- the call ended at the store i without a number
pub record Stopped (s : Setting) (i : ℕ) (v : View) (a : Answer) (w : View) : Type 0 where
  pub number : a.number ≡ None
  pub stores : Stores s (λ j. j == i) v a.status w
  pub nothing : MadeNothing s.frame s.first v.caller w.caller
  pub cause : MayStop (λ size need limit. ⊥) a.status

-- the key's value is known under its stripe; where the store tells its records the list has what the call changes, elsewhere the call keeps what is known
pub record MayChange (s : Setting) (e : Entry) (i : ℕ) (cs : List Change) (v : Caller) : Type 0 where
  pub key : List ℕ
  pub was : Option (List ℕ)
  pub action : Action
  pub entry : e ≡ one key was action
  pub here : store_of s.frame key ≡ i
  pub allowance : 0 < v.allowance
  pub stripe : has (stripe_lock s.frame key) v.held ≡ true
  pub known_is : was ≡ known s.frame s.first v key
  pub long : length key ≤ 65535
  pub value : stored action ≤ 16777215
  pub keeps : KeepsLaw s.frame (λ m. s.law m ≡ true) e
  pub told : s.tells i ≡ true → cs ≡ changes_of s.frame.order (map_after s.frame s.first v.base) e
  pub silent : s.tells i ≡ false → is_keep action ≡ true

-- a change at the store i, with a number or without one
pub record Changed (s : Setting) (full : List Entry → Entry → ℕ → ℕ → ℕ → Type 0) (room : List Entry → Entry → Type 0) (i : ℕ) (e : Entry) (v : View) (a : Answer) (w : View) : Type 0 where
  pub stores : Stores s (λ j. j == i) v a.status w
  pub made : (n : ℕ) → a.number ≡ Some n → MadeAt s e v.caller w.caller n
  pub ended : (n : ℕ) → a.number ≡ Some n → (a.status ≡ statuses.Success) ⊎ (is_system a.status ≡ true)
  pub had_room : (n : ℕ) → a.number ≡ Some n → s.tells i ≡ true → room (take n w.caller.seen) e
  pub not_made : a.number ≡ None → MadeNothing s.frame s.first v.caller w.caller
      × MayStop (λ size need limit. s.tells i ≡ true → full w.caller.seen e size need limit) a.status
