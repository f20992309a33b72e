-- The rule that every state of the core meets. Callers who meet it see one history.
use Rattle.std.specs.Prelude.{◌≡◌, ◌&&◌, ◌^◌, ◌+◌, ◌<◌, ℕ, suc, Bool, true, false, List, [], ◌∷◌, length, Option, Some, cond}
use mathlib.Core.List.{IsPrefix}
use mathlib.Core.Option.{some}
use lib.ListN.{get_elem?}
use Rattle.tk_model.specs.Records.{find, Rising}
use Rattle.tk_model.specs.Entries.{legal, after_entry, replay_entries, parts}
use Rattle.tk_model.specs.declared.record.Order.{Order}
use Rattle.tk_model.specs.declared.record.Pair.{Pair}
use Rattle.tk_model.specs.declared.record.Group.{Group}
use Rattle.tk_model.specs.declared.record.ShardOf.{ShardOf}
use Rattle.tk_model.specs.declared.record.Entry.{Entry}
use Rattle.tk_model.specs.declared.record.Entry.TheVariants as entries
use Rattle.tk_core.specs.declared.frame.Frame.{Frame}
use Rattle.tk_core.specs.Lists.{has, count, AllBelow, total, times, InPlace, once_below}
use Rattle.tk_core.specs.Caller.{Caller, weight, knows_broken}
use Rattle.tk_core.specs.Covers.{IsFrame, Reads, store_lock}

-- the records after a history
abbrev pub map_after : Frame → List Pair → List Entry → List Pair
map_after f m log = replay_entries f.order log m

abbrev pub shard : Frame → ℕ → ShardOf
shard f i = record { index = i; of = f.stores }

-- the groups that a history gives a store
abbrev pub groups_of : Frame → List Pair → List Entry → ℕ → List Group
groups_of f m log i = parts f.order (shard f i) f.base m log

abbrev pub is_hard : Entry → Bool
is_hard (entries.Sync hard) = hard
is_hard (entries.Proc ts) = false
is_hard (entries.Next w b found a) = false
is_hard (entries.Each ts) = false
is_hard (entries.Count n) = false
is_hard entries.Clear = false

abbrev pub has_hard : List Entry → Bool
has_hard [] = false
has_hard (e ∷ es) = cond (is_hard e) true (has_hard es)

-- the calls up to the last hard synchronisation, with it
abbrev pub synced : List Entry → List Entry
synced [] = []
synced (e ∷ es) = cond (has_hard (e ∷ es)) (e ∷ synced es) []

-- how many groups of a store a hard synchronisation has made safe
abbrev pub hard_groups : Frame → List Pair → List Entry → ℕ → ℕ
hard_groups f m log i = length (groups_of f m (synced log) i)

-- each map along the history meets the law
abbrev pub LawAlong : Order → (List Pair → Type 0) → List Pair → List Entry → Type 0
LawAlong o law m [] = law m
LawAlong o law m (e ∷ es) = law m × LawAlong o law (after_entry o e m) es

-- the value that a caller knows at a key which its locks cover
abbrev pub known : Frame → List Pair → Caller → List ℕ → Option (List ℕ)
known f m v k = find k (map_after f m v.base)

-- the groups that a caller knows a store to owe, whose lock it holds
abbrev pub owed : Frame → List Pair → Caller → ℕ → List Group
owed f m v i = groups_of f m v.base i

-- how many of these it knows to be safe
abbrev pub owed_hard : Frame → List Pair → Caller → ℕ → ℕ
owed_hard f m v i = hard_groups f m v.base i

-- what a caller knows is so now: nothing that its locks cover has changed
pub record Still (f : Frame) (m : List Pair) (log : List Entry) (v : Caller) : Type 0 where
  pub records : (k : List ℕ) → Reads f v.held k → known f m v k ≡ find k (map_after f m log)
  pub groups : (i : ℕ) → i < f.stores → has (store_lock f i) v.held ≡ true → owed f m v i ≡ groups_of f m log i
  pub hard : (i : ℕ) → i < f.stores → has (store_lock f i) v.held ≡ true → owed_hard f m v i ≡ hard_groups f m log i

-- the history is legal from the first map on, and each map along it meets the law of the stores
pub record IsLawful (f : Frame) (law : List Pair → Type 0) (m : List Pair) (log : List Entry) : Type 0 where
  pub rising : Rising f.order m
  pub calls : legal f.order m log ≡ true
  pub along : LawAlong f.order law m log

-- a caller that was joined has nothing any more
pub record IsSpent (v : Caller) : Type 0 where
  pub light : weight v ≡ 0
  pub held : v.held ≡ []
  pub broke : v.broke ≡ []

-- law: what the stores ask of the records. m: the first map. log: the history. owner: of each lock, 0 or one more than its holder's number.
-- spoilt: which stores are broken. away: which are out. stands: a store at home stands for these groups, of which so many are safe
module _ (f : Frame) (law : List Pair → Type 0) (m : List Pair) (log : List Entry) (owner : ℕ → ℕ) (spoilt away : ℕ → Bool) (stands : ℕ → List Group → ℕ → Type 0) where
  -- what the rule says of the caller with number j
  pub record Knows (j : ℕ) (v : Caller) : Type 0 where
    pub spent : v.live ≡ false → IsSpent v
    -- a lock that it holds is its own alone
    pub owns : (l : ℕ) → has l v.held ≡ true → owner l ≡ suc j
    -- what it saw is a prefix of the history, and each of its own calls stands there at its number
    pub seen : IsPrefix v.seen log
    pub base : IsPrefix v.base log
    pub placed : InPlace log v.mine
    -- who holds a lock, or broke a store, has made a call or may make one
    pub weighs : (l : ℕ) → has l v.held ≡ true → 0 < weight v
    pub heavy : (i : ℕ) → 0 < count i v.broke → 0 < weight v
    -- what it knows is so
    pub still : Still f m log v
    -- out with it are those stores that are out and whose lock it holds
    pub out : (i : ℕ) → has i v.out ≡ (has (store_lock f i) v.held && away i)
    -- a lock that it waits for has a greater number than each that it holds
    pub wants : (l : ℕ) → v.want ≡ Some l → AllBelow l v.held
    -- what it met broken is broken; of the stores whose lock it holds it knows which are
    pub met : (i : ℕ) → has i v.met ≡ true → spoilt i ≡ true
    pub found : (i : ℕ) → has (store_lock f i) v.held ≡ true → spoilt i ≡ true → knows_broken v i ≡ true
    pub breaking : (i : ℕ) → has i v.breaking ≡ true → has (store_lock f i) v.held ≡ true

  -- the rule
  pub record Sound (callers : List Caller) : Type 0 where
    pub frame : IsFrame f
    -- the history is lawful
    pub history : IsLawful f law m log
    -- a lock with an owner is held by that caller; with `owns`, by no other
    pub holder : (l j : ℕ) → owner l ≡ suc j → (v : Caller) × (get_elem? callers j ≡ some v) × (has l v.held ≡ true)
    -- each number of the history stands once among the callers' own calls
    pub once : (k : ℕ) → total (λ v. times k v.mine) callers ≡ once_below k (length log)
    pub made : total (λ v. length v.mine) callers ≡ length log
    -- the weights are 2^62 in all
    pub weights : total weight callers ≡ 2 ^ 62
    -- what the rule says of each caller
    pub knows : (j : ℕ) (v : Caller) → get_elem? callers j ≡ some v → Knows j v
    -- a store whose lock is free is at home
    pub home : (i : ℕ) → owner (store_lock f i) ≡ 0 → away i ≡ false
    -- a store at home that isn't broken stands for its groups
    pub stores : (i : ℕ) → i < f.stores → spoilt i ≡ false → away i ≡ false → stands i (groups_of f m log i) (hard_groups f m log i)
    -- a broken store stands once among those that the callers broke, and no other stands there
    pub tally : (i : ℕ) → total (λ v. count i v.broke + count i v.breaking) callers ≡ cond (spoilt i) 1 0
