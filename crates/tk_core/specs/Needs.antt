-- What each kind of move needs.
use Rattle.std.specs.Prelude.{◌≡◌, ◌≢◌, ◌⊎◌, ◌+◌, ◌<◌, ◌^◌, ℕ, Bool, true, false, List, [], filter}
use Rattle.tk_model.specs.Records.{Rising}
use Rattle.tk_model.specs.Entries.{is_legal, after_entry, changes_of, is_in_shard}
use Rattle.tk_model.specs.declared.record.Pair.{Pair}
use Rattle.tk_model.specs.declared.record.Group.{Group}
use Rattle.tk_model.specs.declared.record.Entry.{Entry}
use Rattle.tk_core.specs.declared.frame.Frame.{Frame}
use Rattle.tk_core.specs.Lists.{has, AllBelow}
use Rattle.tk_core.specs.Caller.{Caller, weight, knows_broken}
use Rattle.tk_core.specs.Covers.{CoversReads, CoversWrites, store_lock}
use Rattle.tk_core.specs.Rule.{map_after, shard, groups_of, hard_groups, is_hard}

-- take: the lock is free, and is greater than each that the caller holds
pub record MayTake (f : Frame) (owner : ℕ → ℕ) (l : ℕ) (v : Caller) : Type 0 where
  pub live : v.live ≡ true
  pub lock : l < f.stripes + f.stores
  pub free : owner l ≡ 0
  pub rising : AllBelow l v.held
  pub weighs : 0 < weight v

-- miss: the lock is held, and is greater than each that the caller holds
pub record MayMiss (f : Frame) (owner : ℕ → ℕ) (l : ℕ) (v : Caller) : Type 0 where
  pub live : v.live ≡ true
  pub lock : l < f.stripes + f.stores
  pub taken : owner l ≢ 0
  pub rising : AllBelow l v.held

-- a call leads from each map that meets the law to one that does
abbrev pub KeepsLaw : Frame → (List Pair → Type 0) → Entry → Type 0
KeepsLaw f law e = (n : List Pair) → Rising f.order n → law n → is_legal f.order n e ≡ true → law (after_entry f.order e n)

-- a call changes a store, or makes all of it safe
abbrev pub Concerns : Frame → List Pair → Entry → ℕ → Type 0
Concerns f n e i = (filter (is_in_shard (shard f i)) (changes_of f.order n e) ≢ []) ⊎ (is_hard e ≡ true)

-- commit: the call is legal and covered on what the caller knows, and the stores that it concerns are out with the caller and unbroken
pub record MayCommit (f : Frame) (law : List Pair → Type 0) (m : List Pair) (e : Entry) (v : Caller) : Type 0 where
  pub live : v.live ≡ true
  pub allowance : 0 < v.allowance
  pub fits : is_legal f.order (map_after f m v.base) e ≡ true
  pub keeps : KeepsLaw f law e
  pub reads : CoversReads f v.held e
  pub writes : CoversWrites f v.held (changes_of f.order (map_after f m v.base) e)
  pub out : (i : ℕ) → i < f.stores → Concerns f (map_after f m v.base) e i → (has i v.out ≡ true) × (knows_broken v i ≡ false)

-- give, of a stripe: the caller holds the lock
pub record MayGiveStripe (f : Frame) (l : ℕ) (v : Caller) : Type 0 where
  pub live : v.live ≡ true
  pub stripe : l < f.stripes
  pub holds : has l v.held ≡ true

-- give, of a store: the store is at home, too
pub record MayGiveStore (f : Frame) (i : ℕ) (v : Caller) : Type 0 where
  pub live : v.live ≡ true
  pub store : i < f.stores
  pub holds : has (store_lock f i) v.held ≡ true
  pub home : has i v.out ≡ false

-- give, of a lock
abbrev pub MayGive : Frame → ℕ → Caller → Type 0
MayGive f l v = (l < f.stripes → MayGiveStripe f l v) × ((i : ℕ) → l ≡ store_lock f i → MayGiveStore f i v)

-- look
abbrev pub MayLook : Caller → Type 0
MayLook v = v.live ≡ true

-- out: the caller holds the lock, and the store is at home
pub record MayTakeOut (f : Frame) (i : ℕ) (v : Caller) : Type 0 where
  pub live : v.live ≡ true
  pub store : i < f.stores
  pub holds : has (store_lock f i) v.held ≡ true
  pub home : has i v.out ≡ false

-- back: the store is out with the caller, and is given as broken, or isn't broken and stands now for all its groups
pub record MayPutBack (f : Frame) (m : List Pair) (log : List Entry) (now : List Group → ℕ → Type 0) (i : ℕ) (is_broken : Bool) (v : Caller) : Type 0 where
  pub live : v.live ≡ true
  pub store : i < f.stores
  pub out : has i v.out ≡ true
  pub stays : knows_broken v i ≡ true → is_broken ≡ true
  pub stands : is_broken ≡ false → now (groups_of f m log i) (hard_groups f m log i)

-- split: no lock is held, and there is a number for the new caller
pub record MaySplit (callers : ℕ) (v : Caller) : Type 0 where
  pub few : callers < 2 ^ 32
  pub live : v.live ≡ true
  pub held : v.held ≡ []

-- a live caller that holds no lock
abbrev pub IsIdle : Caller → Type 0
IsIdle v = (v.live ≡ true) × (v.held ≡ [])

-- join: of two callers, and neither holds a lock
pub record MayJoin (i j : ℕ) (v u : Caller) : Type 0 where
  pub apart : i ≢ j
  pub live : (v.live ≡ true) × (u.live ≡ true)
  pub held : (v.held ≡ []) × (u.held ≡ [])
