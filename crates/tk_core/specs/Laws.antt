-- Each kind of move keeps the rule, and no state that meets the rule has a ring.
use Rattle.std.specs.Prelude.{◌≡◌, ◌<◌, ◌^◌, ℕ, Bool, true, false, List, [], ◌∷◌, ◌++◌, length, filter, cond}
use Rattle.tk_model.specs.declared.record.Group.{Group}
use Rattle.tk_model.specs.declared.record.Pair.{Pair}
use Rattle.tk_model.specs.declared.record.Entry.{Entry}
use Rattle.tk_core.specs.declared.frame.Frame.{Frame}
use Rattle.tk_core.specs.Caller.{Caller, weight, knows_broken}
use Rattle.tk_core.specs.Lists.{has, times, count, once_below}
use Rattle.tk_core.specs.Needs.{MayTake, MayMiss, MayGiveStripe, MayGiveStore, MayLook, MayTakeOut, MayPutBack, MayCommit, MaySplit, MayJoin}
use Rattle.tk_core.specs.Covers.{IsFrame, HoldsStores, Reads, Writes, CoversReads, CoversWrites, store_lock}
use Rattle.tk_core.specs.Steps.{Steps, Runs, RunsFar, start, MayStart}
use Rattle.tk_core.specs.declared.moves.Move.{Move}
use Rattle.tk_model.specs.Records.{find, Rising}
use Rattle.tk_model.specs.Entries.{is_legal, after_entry, changes_of, is_in_shard}
use Rattle.tk_core.specs.Rule.{map_after, groups_of, hard_groups, is_hard, known, owed, owed_hard, shard}
use Rattle.tk_core.specs.Rings.{HasNoRing}
use Rattle.tk_core.specs.States.{State, IsSound, IsCaller, after_take_stripe, after_take_store, after_miss, after_give_stripe, after_give_store, after_look, after_out, after_back, after_commit, after_split, after_join}

abbrev pub NoRings : Frame → Type 0
NoRings f = (s : State) → IsSound f s → HasNoRing s.callers

pub record LocksKeep (f : Frame) : Type 0 where
  pub take_stripe : (s : State) (id : ℕ) (v : Caller) (l : ℕ) → IsSound f s → IsCaller s id v → l < f.stripes → MayTake f s.owner l v → IsSound f (after_take_stripe id v l s)
  pub take_store : (s : State) (id : ℕ) (v : Caller) (i : ℕ) → IsSound f s → IsCaller s id v → MayTake f s.owner (store_lock f i) v → IsSound f (after_take_store f id v i s)
  pub miss : (s : State) (id : ℕ) (v : Caller) (l : ℕ) → IsSound f s → IsCaller s id v → MayMiss f s.owner l v → IsSound f (after_miss id v l s)
  pub give_stripe : (s : State) (id : ℕ) (v : Caller) (l : ℕ) → IsSound f s → IsCaller s id v → MayGiveStripe f l v → IsSound f (after_give_stripe id v l s)
  pub give_store : (s : State) (id : ℕ) (v : Caller) (i : ℕ) → IsSound f s → IsCaller s id v → MayGiveStore f i v → IsSound f (after_give_store f id v i s)

abbrev pub LookKeeps : Frame → Type 0
LookKeeps f = (s : State) (id : ℕ) (v : Caller) → IsSound f s → IsCaller s id v → MayLook v → IsSound f (after_look id v s)

pub record StoresKeep (f : Frame) : Type 0 where
  pub out : (s : State) (id : ℕ) (v : Caller) (i : ℕ) → IsSound f s → IsCaller s id v → MayTakeOut f i v → IsSound f (after_out id v i s)
  pub back : (s : State) (id : ℕ) (v : Caller) (i : ℕ) (is_broken : Bool) (now : List Group → ℕ → Bool) → IsSound f s → IsCaller s id v
      → MayPutBack f s.first s.log (λ gs n. now gs n ≡ true) i is_broken v → IsSound f (after_back id v i is_broken now s)

-- what stores stand for may change alone, where it is the groups that they owe
abbrev pub StandsAnew : Frame → Type 0
StandsAnew f = (s : State) (now : ℕ → List Group → ℕ → Bool) → IsSound f s
    → ((i : ℕ) → i < f.stores → s.spoilt i ≡ false → s.away i ≡ false
    → now i (groups_of f s.first s.log i) (hard_groups f s.first s.log i) ≡ true)
    → IsSound f (record s { stands = now })

abbrev pub CommitKeeps : Frame → Type 0
CommitKeeps f = (s : State) (id : ℕ) (v : Caller) (e : Entry) → IsSound f s → IsCaller s id v → MayCommit f (λ m. s.law m ≡ true) s.first e v → IsSound f (after_commit id v e s)

-- a hard synchronisation that is the last call makes all groups safe
abbrev pub SyncsAll : Frame → Type 0
SyncsAll f = (m : List Pair) (log : List Entry) (e : Entry) (i : ℕ) → is_hard e ≡ true → hard_groups f m (log ++ e ∷ []) i ≡ length (groups_of f m (log ++ e ∷ []) i)

pub record HalvesKeep (f : Frame) : Type 0 where
  pub split : (s : State) (id : ℕ) (v : Caller) → IsSound f s → IsCaller s id v → MaySplit (length s.callers) v → IsSound f (after_split id v s)
  pub join : (s : State) (id other : ℕ) (v u : Caller) → IsSound f s → IsCaller s id v → IsCaller s other u → MayJoin id other v u → IsSound f (after_join id other v u s)

-- no lock is held, the caller's own calls are those of the whole history, and it names each broken store once and no other
pub record HasAll (s : State) (v : Caller) : Type 0 where
  pub free : (l : ℕ) → s.owner l ≡ 0
  pub home : (i : ℕ) → s.away i ≡ false
  pub numbers : (k : ℕ) → times k v.mine ≡ once_below k (length s.log)
  pub all : length v.mine ≡ length s.log
  pub broke : (i : ℕ) → count i v.broke ≡ cond (s.spoilt i) 1 0

-- who has the whole weight, and no lock, has all
abbrev pub WholeHasAll : Frame → Type 0
WholeHasAll f = (s : State) (id : ℕ) (v : Caller) → IsSound f s → IsCaller s id v → weight v ≡ 2 ^ 62 → v.held ≡ [] → HasAll s v

-- the rule holds at the start and after each list of moves that are allowed in turn
pub record AllReached (f : Frame) : Type 0 where
  pub first : (law : List Pair → Bool) (m : List Pair) (stands : ℕ → List Group → ℕ → Bool) → IsFrame f → MayStart f law m stands → IsSound f (start law m stands)
  pub step : (x : Move) (s t : State) → IsSound f s → Steps f x s t → IsSound f t
  pub run : (xs : List Move) (s t : State) → IsSound f s → Runs f xs s t → IsSound f t
  pub far : (xs : List Move) (s t : State) (n : ℕ) → IsSound f s → RunsFar f xs s t n → IsSound f t × HasNoRing t.callers

-- a call is the same on records that agree where its locks cover them, and leaves alone what they don't cover for writing
pub record CoversEnough (f : Frame) : Type 0 where
  pub legal : (held : List ℕ) (e : Entry) (m n : List Pair) → IsFrame f → Rising f.order m → Rising f.order n → ((k : List ℕ) → Reads f held k → find k m ≡ find k n) → CoversReads f held e
      → is_legal f.order m e ≡ is_legal f.order n e
  pub changes : (held : List ℕ) (e : Entry) (m n : List Pair) → IsFrame f → Rising f.order m → Rising f.order n → ((k : List ℕ) → Reads f held k → find k m ≡ find k n) → CoversReads f held e
      → changes_of f.order m e ≡ changes_of f.order n e
  pub keys : (held : List ℕ) (e : Entry) (m : List Pair) → IsFrame f → Rising f.order m → CoversWrites f held (changes_of f.order m e)
      → (k : List ℕ) → (Writes f held k → ⊥) → find k (after_entry f.order e m) ≡ find k m
  pub stores : (held : List ℕ) (e : Entry) (m : List Pair) → CoversWrites f held (changes_of f.order m e)
      → (i : ℕ) → i < f.stores → has (store_lock f i) held ≡ false → filter (is_in_shard (shard f i)) (changes_of f.order m e) ≡ []

-- what a caller of a state that meets the rule knows is so now
pub record CallerKnows (f : Frame) (s : State) (id : ℕ) (v : Caller) : Type 0 where
  -- the records that its locks cover, the groups of the stores whose locks it holds, how many of these are safe, and which
  -- of the stores are broken
  pub records : (k : List ℕ) → Reads f v.held k → known f s.first v k ≡ find k (map_after f s.first s.log)
  pub groups : (i : ℕ) → i < f.stores → has (store_lock f i) v.held ≡ true → owed f s.first v i ≡ groups_of f s.first s.log i
  pub hard : (i : ℕ) → i < f.stores → has (store_lock f i) v.held ≡ true
      → owed_hard f s.first v i ≡ hard_groups f s.first s.log i
  pub broken : (i : ℕ) → has (store_lock f i) v.held ≡ true → knows_broken v i ≡ s.spoilt i
  -- with the locks of all stores, all records
  pub all : HoldsStores f v.held → map_after f s.first v.base ≡ map_after f s.first s.log
  -- nobody else holds a lock of its own
  pub alone : (other : ℕ) (u : Caller) (l : ℕ) → IsCaller s other u → has l v.held ≡ true → has l u.held ≡ true → other ≡ id

abbrev pub CallersKnow : Frame → Type 0
CallersKnow f = (s : State) (id : ℕ) (v : Caller) → IsSound f s → IsCaller s id v → CallerKnows f s id v
