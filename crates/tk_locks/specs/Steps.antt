-- What the steps tell: the core's own functions of a caller, at a history that meets the rule.
use Rattle.std.specs.Prelude.{◌≡◌, ◌≢◌, ◌+◌, ◌-◌, ◌<◌, ◌≤◌, ◌^◌, ℕ, true, false, List, [], ◌∷◌, ◌++◌, length, ltb, cond, Option, Some, None, is_some}
use mathlib.Core.List.{IsPrefix}
use Rattle.atomic_table.specs.Table.{Step, Me, rest}
use Rattle.tk_model.specs.declared.record.Pair.{Pair}
use Rattle.tk_model.specs.declared.record.Group.{Group}
use Rattle.tk_model.specs.declared.record.Entry.{Entry}
use Rattle.tk_core.specs.declared.frame.Frame.{Frame}
use Rattle.tk_core.specs.Caller.{Caller, weight, knows_broken}
use Rattle.tk_core.specs.Covers.{store_lock}
use Rattle.tk_core.specs.Lists.{has, AllBelow}
use Rattle.tk_core.specs.Rule.{IsLawful, Still, owed, owed_hard}
use Rattle.tk_core.specs.Moves.{took_stripe, took_store, missed, committed, gave_stripe, gave_store, looked, took_out, put_back, kept_half, new_half, joined}
use Rattle.tk_locks.specs.declared.home.Home.{Home}
use Rattle.tk_locks.specs.View.{View, noted, with_caller, with_count, with_mark, marked}
use Rattle.tk_locks.specs.Rule.{Risen}

-- the history that a step met: it begins with what the caller saw, and what the caller knew is so
pub record Meets (f : Frame) (law : List Pair → Type 0) (m : List Pair) (v : Caller) (log : List Entry) : Type 0 where
  pub seen : IsPrefix v.seen log
  pub base : IsPrefix v.base log
  pub lawful : IsLawful f law m log
  pub still : Still f m log v

-- the caller may take a lock where it is free
pub record MayWant (f : Frame) (l : ℕ) (v : Caller) : Type 0 where
  pub live : v.live ≡ true
  pub lock : l < f.stripes + f.stores
  pub rising : AllBelow l v.held
  pub weighs : 0 < weight v

module _ (f : Frame) (law : List Pair → Type 0) (m : List Pair) where
  abbrev pub TookStripe : ℕ → View → View → Type 0
  TookStripe l v w = (log : List Entry) × Meets f law m v.caller log × (w ≡ with_caller (took_stripe l log v.caller) v)

  abbrev pub Missed : ℕ → View → View → Type 0
  Missed l v w = w ≡ with_caller (missed l v.caller) v

  abbrev pub Saw : View → ℕ → View → Type 0
  Saw v n w = (log : List Entry) × Meets f law m v.caller log × (length log ≡ n) × IsPrefix v.other log × (w ≡ record { caller = looked log v.caller; counts = v.counts; marks = v.marks; other = [] })

  abbrev pub Committed : Entry → View → ℕ → View → Type 0
  Committed e v n w = (log : List Entry) × Meets f law m v.caller log × IsLawful f law m (log ++ e ∷ []) × (length log ≡ n) × (n < 2 ^ 62) × (w ≡ with_caller (committed log e v.caller) v)

  module _ {S : Type 0} where
    abbrev pub taken : Step S → Me S View → ℕ → Me S View → Type 0
    taken st me n me' = (n ≡ 0 → TookStripe (st.word - 1) me.0 me'.0) × (n ≢ 0 → Missed (st.word - 1) me.0 me'.0) × (me'.1 ≡ me.1)

    abbrev pub seen : Step S → Me S View → ℕ → Me S View → Type 0
    seen st me n me' = Saw me.0 n me'.0 × (me'.1 ≡ me.1)

    abbrev pub made : Entry → Step S → Me S View → ℕ → Me S View → Type 0
    made e st me n me' = Committed e me.0 n me'.0 × (me'.1 ≡ me.1)

  module _ {T : Type 0} (good : ℕ → T → List Group → ℕ → Type 0) (next : T → ℕ → Type 0) (faults : T → ℕ) (begun : ℕ → ℕ) where
    -- the store is good for what the caller owes it
    abbrev pub Fits : ℕ → Caller → Home T → Type 0
    Fits i v h = h.broken ≡ None → good i h.store (owed f m v i) (owed_hard f m v i)

    -- the lock and the store, whose mark and count were seen; the kept count of a broken one has risen
    abbrev pub TookStore : ℕ → View → Home T → View → Type 0
    TookStore i v h w = (log : List Entry) × Meets f law m v.caller log × (w ≡ with_mark i h.broken (with_count i (faults h.store) (with_caller (took_store f i (is_some h.broken) log v.caller) v))) × Fits i w.caller h × (noted i v.counts ≤ faults h.store) × (has i v.caller.out ≡ false) × (h.broken ≡ None → next h.store (length log)) × (begun i ≤ faults h.store) × (knows_broken w.caller i ≡ is_some h.broken) × ((n : ℕ) → h.broken ≡ Some n → Risen f begun n)

    -- the store is with the caller, who knows whether it is broken
    abbrev pub GotStore : ℕ → View → Home T → View → Type 0
    GotStore i v h w = (log : List Entry) × Meets f law m v.caller log × (w ≡ with_mark i h.broken (with_count i (faults h.store) (with_caller (took_out i (took_store f i (is_some h.broken) log v.caller)) v))) × Fits i w.caller h × (noted i v.counts ≤ faults h.store) × (h.broken ≡ None → next h.store (length log)) × (begun i ≤ faults h.store) × (knows_broken w.caller i ≡ is_some h.broken) × ((n : ℕ) → h.broken ≡ Some n → Risen f begun n)

    abbrev pub taken_store : Step (Option (Home T)) → Me (Option (Home T)) View → ℕ → Me (Option (Home T)) View → Type 0
    taken_store st me n me' = (i : ℕ) → st.word ≡ store_lock f i + 1
        → (n ≡ 0 → (h : Home T) × TookStore i me.0 h me'.0 × (me'.1 ≡ (i, Some h) ∷ me.1)) × (n ≢ 0 → Missed (store_lock f i) me.0 me'.0 × (me'.1 ≡ me.1))

module _ {S : Type 0} (f : Frame) where
  -- the store is out: its empty slot lies at home
  abbrev pub parked : Step (Option S) → Me (Option S) View → ℕ → Me (Option S) View → Type 0
  parked st me n me' = (i : ℕ) → st.word ≡ store_lock f i + 1 → (me'.0 ≡ with_caller (took_out i me.0.caller) me.0) × (me'.1 ≡ rest me.1)

  -- the store goes back: its slot is at hand
  abbrev pub fetched : Option ℕ → Step (Option S) → Me (Option S) View → ℕ → Me (Option S) View → Type 0
  fetched broken st me n me' = (i : ℕ) → st.word ≡ store_lock f i + 1 → (me'.0 ≡ with_mark i broken (with_caller (put_back i (is_some broken) me.0.caller) me.0)) × (me'.1 ≡ (i, None) ∷ me.1)

  -- the lock and the store are given, with this count
  abbrev pub given_store : ℕ → Step (Option S) → Me (Option S) View → ℕ → Me (Option S) View → Type 0
  given_store count st me n me' = (i : ℕ) → st.word ≡ store_lock f i + 1 → (me'.0 ≡ with_count i count (with_caller (gave_store f i me.0.caller) me.0)) × (me'.1 ≡ rest me.1)

-- the store is back, broken where it is given so, and its lock is free
abbrev pub GaveStore : {T : Type 0} → (T → ℕ) → Frame → ℕ → View → Home T → View → Type 0
GaveStore faults f i v h w = w ≡ with_count i (faults h.store) (with_mark i h.broken (with_caller (gave_store f i (put_back i (is_some h.broken) v.caller)) v))

-- what was seen at a join is told at the load behind it
module _ {S : Type 0} where
  abbrev pub given : Step S → Me S View → ℕ → Me S View → Type 0
  given st me n me' = (me'.0 ≡ with_caller (gave_stripe (st.word - 1) me.0.caller) me.0) × (me'.1 ≡ me.1)

  abbrev pub heard : Step S → Me S View → ℕ → Me S View → Type 0
  heard st me n me' = (length me.0.other ≤ length me.0.caller.seen → IsPrefix me.0.other me.0.caller.seen) × (me'.0 ≡ record me.0 { other = [] }) × (me'.0.caller.allowance ≤ 2 ^ 62) × (me'.1 ≡ me.1)

abbrev pub shorter : List Entry → List Entry → List Entry
shorter xs ys = cond (ltb (length xs) (length ys)) xs ys

abbrev pub left_half : View → View
left_half v = with_caller (kept_half v.caller) v

abbrev pub right_half : View → View
right_half v = record { caller = new_half v.caller; counts = []; marks = []; other = [] }

abbrev pub merged : View → View → View
merged v u = record { caller = joined v.caller u.caller; counts = v.counts ++ u.counts; marks = v.marks ++ u.marks; other = shorter v.caller.seen u.caller.seen }

-- both histories that were seen begin the one that is seen now
abbrev pub Joined : View → View → View → Type 0
Joined v u w = IsPrefix v.caller.seen w.caller.seen × IsPrefix u.caller.seen w.caller.seen × (w ≡ record { caller = joined v.caller u.caller; counts = v.counts ++ u.counts; marks = v.marks ++ u.marks; other = [] })

-- only what is wanted differs
abbrev pub Waits : View → View → Type 0
Waits v w = w ≡ with_caller (record v.caller { want = w.caller.want }) v

-- a store that was broken stays broken with its kept count, and one that is newly given as broken has a count that rose
pub record MayMark (f : Frame) (begun : ℕ → ℕ) (i : ℕ) (v : View) (b : Option ℕ) : Type 0 where
  pub stays : is_some (marked i v.marks) ≡ true → b ≡ marked i v.marks
  pub risen : (n : ℕ) → marked i v.marks ≡ None → b ≡ Some n → Risen f begun n
