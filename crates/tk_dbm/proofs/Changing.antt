-- A call at one key whose store is out: what it needs, and what becomes of it.
use Rattle.std.proofs.Common.{◌≡◌, ◌≢◌, ◌+◌, ◌<◌, ◌≤◌, ◌==◌, ◌⊎◌, inl, inr, ℕ, zero, suc, Bool, true, false, List, [], ◌∷◌, ◌++◌, length, length-append, take, filter, Option, Some, None, Result, Ok, Err, is_some, refl, sym, ap, ◌∙◌, subst, ⊎_elim, arith}
use mathlib.Core.List.{IsPrefix}
use Rattle.tk_status.specs.declared.Status.{Status}
use Rattle.tk_status.specs.declared.Status.TheVariants as statuses
use Rattle.tk_model.specs.Counts.{Rose}
use Rattle.tk_model.specs.Records.{find, Rising}
use Rattle.tk_model.specs.Entries.{changes_of, is_in_shard}
use Rattle.tk_model.specs.declared.record.Pair.{Pair}
use Rattle.tk_model.specs.declared.record.Change.{Change}
use Rattle.tk_model.specs.declared.record.Group.{Group}
use Rattle.tk_model.specs.declared.record.Entry.{Entry}
use Rattle.tk_model.proofs.RecordLaws.{entries_rising}
use Rattle.tk_store.specs.declared.error.StoreError.{StoreError}
use Rattle.tk_store.specs.declared.error.StoreError.TheVariants as errors
use Rattle.tk_store.specs.Store.{First, StoreView, StoreConstants, HasCause, OkOrFault, HasRoom, TellsFull, PassesLimit, PassesLog}
use Rattle.tk_core.specs.declared.frame.Frame.{Frame}
use Rattle.tk_core.specs.Caller.{knows_broken}
use Rattle.tk_core.specs.Covers.{IsFrame, Reads, CoversReads, store_of, store_lock, stripe_lock}
use Rattle.tk_core.specs.Lists.{has}
use Rattle.tk_core.specs.Moves.{looked, committed}
use Rattle.tk_core.specs.Needs.{KeepsLaw, MayCommit}
use Rattle.tk_core.specs.Rule.{IsLawful, is_hard, known, map_after, shard, groups_of, hard_groups}
use Rattle.tk_core.proofs.Calls.{call_alike}
use Rattle.tk_core.proofs.Facts.{by_test, has_head, has_tail, prefix_self}
use Rattle.tk_locks.specs.declared.home.Home.{Home}
use Rattle.tk_locks.specs.View.{View, noted, marked, with_caller}
use Rattle.tk_locks.specs.Rule.{Ground, records_in, good_of, count_at}
use Rattle.tk_locks.specs.Steps.{Meets, GaveStore, Committed, MayMark}
use Rattle.tk_locks.specs.Tells.{TakesStore, MayMake, Makes}
use Rattle.tk_locks.proofs.Facts.{prefix_length, marked_head, noted_head}
use Rattle.tk_dbm.specs.declared.answer.Answer.{Answer}
use Rattle.tk_dbm.specs.Calls.{Stores, is_system}
use Rattle.tk_dbm.specs.Parts.{IsOut, IsReady, HasChanges, GaveUp, Rests, Stopped, MayStop, MayVisit, MadeNothing, MadeAt, MadeThere, MayChange, Changed}
use Rattle.tk_dbm.specs.Setting.{Setting, setting_of}
use Rattle.tk_dbm.specs.Room.{IsAfter, HasRoomAt, AllHaveRoom, IsFull, changes_on}
use Rattle.tk_dbm.proofs.OneKeys.{MayOne, may_commit, all_here, none_there}
use Rattle.tk_dbm.proofs.Visits.{Beside, beside_self, Visited, SaysNothing, visited, was_broken, has_failed, stayed_whole}

pub take_front : {A : Type 0} (xs : List A) (a : A) (n : ℕ) → length xs ≡ n → take n (xs ++ a ∷ []) ≡ xs
take_front [] a zero e = refl
take_front [] a (suc n) e = absurd (cc (e))
take_front (x ∷ xs) a zero e = absurd (cc (e))
take_front (x ∷ xs) a (suc n) e = ap (λ z. x ∷ z) (take_front xs a n (omega arith))

pub rose_less : (a b n : ℕ) → a ≤ b → Rose b n → Rose a n
rose_less a b n le r = omega arith

pub fault_rose : {U : Type 0} (a b : ℕ) (r : Result U StoreError) → r ≡ Err errors.Fault → HasCause a b r → Rose a b
fault_rose {U} a b r e cause = let t : HasCause {T = U} a b (Err errors.Fault) = subst (HasCause a b) e cause in t.fault refl

pub fault_only : {U : Type 0} (a b : ℕ) (r : Result U StoreError) (e : StoreError) → r ≡ Err e → OkOrFault r → HasCause a b r → Rose a b
fault_only a b (Ok u) e is answers cause = absurd (cc (is))
fault_only a b (Err errors.Fault) e is answers cause = cause.fault refl
fault_only a b (Err (errors.Full size need limit)) e is answers cause = absurd answers
fault_only a b (Err errors.NoMemory) e is answers cause = absurd answers

-- a store that failed under its lock may be given as broken
pub may_mark : (f : Frame) (begun : ℕ → ℕ) (i was now : ℕ) (x : View) → i < f.stores → marked i x.marks ≡ None → begun i ≤ was → Rose was now → MayMark f begun i x (Some now)
may_mark f begun i was now x low unmarked since rose = record {
  stays = λ m2. absurd (cc (sym m2, ap is_some unmarked));
  risen = λ k _ e. let same : now ≡ k = cc (e) in (i, low, subst (Rose (begun i)) same (rose_less (begun i) was now since rose));
}

-- and one that is whole as whole
pub may_stay : (f : Frame) (begun : ℕ → ℕ) (i : ℕ) (x : View) → marked i x.marks ≡ None → MayMark f begun i x None
may_stay f begun i x unmarked = record { stays = λ m2. absurd (cc (sym m2, ap is_some unmarked)); risen = λ k _ e. absurd (cc (e)) }

-- a call that was refused so
pub stopped_by : (s : Setting) (i : ℕ) (v : View) (a : Answer) (w : View) (st : Status) → a ≡ record { status = st; number = None } → Stores s (λ j. j == i) v st w → MadeNothing s.frame s.first v.caller w.caller → MayStop (λ size need limit. ⊥) st → Stopped s i v a w
stopped_by s i v a w st is stores nothing cause = subst (λ (z : Answer). Stopped s i v z w) (sym is) (record { number = refl; stores = stores; nothing = nothing; cause = cause })

-- a change that was refused so
pub not_changed : (s : Setting) (full : List Entry → Entry → ℕ → ℕ → ℕ → Type 0) (room : List Entry → Entry → Type 0) (i : ℕ) (e : Entry) (v : View) (a : Answer) (w : View) (st : Status) → a ≡ record { status = st; number = None }
    → Stores s (λ j. j == i) v st w → MadeNothing s.frame s.first v.caller w.caller → MayStop (λ size need limit. s.tells i ≡ true → full w.caller.seen e size need limit) st → Changed s full room i e v a w
not_changed s full room i e v a w st is stores nothing cause = subst (λ (z : Answer). Changed s full room i e v z w) (sym is) (record {
  stores = stores;
  made = λ n q. absurd (cc (q));
  ended = λ n q. absurd (cc (q));
  had_room = λ n q. absurd (cc (q));
  not_made = λ _. (nothing, cause);
})

pub full_over : {U : Type 0} (n : StoreConstants) (x : StoreView) (cs : List Change) (r : Result U StoreError) (size need limit : ℕ) → r ≡ Err (errors.Full size need limit) → TellsFull n x cs r
    → PassesLimit n x cs size need limit ⊎ PassesLog n.log x.log_size cs size need limit
full_over n x cs r size need limit is tells = subst (TellsFull n x cs) is tells

-- a call that got its number with what its pass held
pub kept_at : {T : Type 0} (law : List Pair → Bool) (stands : T → First → List Group → ℕ → Type 0) (store_view : T → StoreView) (constants : T → StoreConstants) (faults : T → ℕ) (g : Ground T) (writable : Bool) (e : Entry) (v : View) (n : ℕ) (w : View)
    → MayMake law store_view g e v.caller → Makes law store_view g e v n w → MadeAt (setting_of law store_view faults g writable) e v.caller w.caller n
kept_at law stands store_view constants faults g writable e v n w may makes =
    let seen_is : w.caller.seen ≡ makes.0 ++ e ∷ [] = ap (λ (z : View). z.caller.seen) makes.5 in
    let past_is : take n w.caller.seen ≡ makes.0 = ap (take n) seen_is ∙ take_front makes.0 e n makes.3 in
    record {
      front = subst (IsPrefix v.caller.seen) (sym past_is) makes.1.seen;
      seen = seen_is ∙ ap (λ (z : List Entry). z ++ e ∷ []) (sym past_is);
      place = ap (λ (z : List Entry). length z) seen_is ∙ length-append makes.0 (e ∷ []) ∙ (let q = makes.3 in omega arith);
      lawful = subst (IsLawful g.frame (λ r. law r ≡ true) (records_in g.frame.order store_view g.start)) (sym seen_is) makes.2;
      mine = ap (λ (z : View). z.caller.mine) makes.5 ∙ ap (λ (q : ℕ). (q, e) ∷ v.caller.mine) makes.3;
      allowance = let a = ap (λ (z : View). z.caller.allowance) makes.5 in let b = may.allowance in omega arith;
      records = λ q r. makes.1.still.records q r ∙ ap (λ (es : List Entry). find q (map_after g.frame (records_in g.frame.order store_view g.start) es)) (sym past_is);
    }

-- a call that changes nothing needs no room
pub needs_no_room : {T : Type 0} (stands : T → First → List Group → ℕ → Type 0) (store_view : T → StoreView) (constants : T → StoreConstants) (g : Ground T) (past : List Entry) (e : Entry)
    → changes_of g.frame.order (map_after g.frame (records_in g.frame.order store_view g.start) past) e ≡ [] → AllHaveRoom stands store_view constants g past e
needs_no_room stands store_view constants g past e none j low more = absurd (more (ap (filter (is_in_shard (shard g.frame j))) none))

module _ {T : Type 0} (law : List Pair → Bool) (stands : T → First → List Group → ℕ → Type 0) (store_view : T → StoreView) (constants : T → StoreConstants) (faults : T → ℕ) (g : Ground T) (i : ℕ) where
  -- a store with the changes of a call that got its number
  pub made_ready : (reserved : T → List Change → Type 0) (e : Entry) (v x : View) (h : Home T) (n number : ℕ) → HasChanges law stands store_view constants faults g reserved i e v.caller h.store → IsOut law stands store_view constants faults g i v h → h.broken ≡ None
      → marked i v.marks ≡ None → MayMake law store_view g e v.caller → Makes law store_view g e v n x → IsFrame g.frame → number ≡ g.frame.base + n → IsReady law stands store_view constants faults g reserved i number x h.store
  made_ready reserved e v x h n number ready out whole unmarked may makes frame number_is =
      let m : List Pair = records_in g.frame.order store_view g.start in
      let rising : (es : List Entry) → Rising g.frame.order (map_after g.frame m es) = λ es. entries_rising g.frame.order es m makes.1.lawful.rising in record {
        low = out.low;
        holds = ap (λ (z : View). has (store_lock g.frame i) z.caller.held) makes.5 ∙ out.holds;
        stays = may_stay g.frame (count_at faults g.start) i x (ap (λ (z : View). marked i z.marks) makes.5 ∙ unmarked);
        counted = let q = ap (λ (z : View). noted i z.counts) makes.5 in let c = out.counted in omega arith;
        log = makes.0;
        entry = e;
        changes = ready.changes;
        base = ap (λ (z : View). z.caller.base) makes.5;
        good_then = subst (λ (q : List Group × ℕ). good_of stands store_view constants g i h.store q.0 q.1) (λ t. (makes.1.still.groups i out.low out.holds t, makes.1.still.hard i out.low out.holds t)) (out.owed whole);
        ready = ready.ready;
        some = ready.some;
        soft = ready.soft;
        told = λ t. ready.told t ∙ ap (filter (is_in_shard (shard g.frame i))) (call_alike g.frame v.caller.held frame (map_after g.frame m v.caller.base) (map_after g.frame m makes.0) (rising v.caller.base) (rising makes.0) makes.1.still.records e may.reads).1;
        number_is = let q = makes.3 in omega arith;
        follows = λ w. let q = out.follows whole w in let l = prefix_length v.caller.base makes.0 makes.1.base in omega arith;
      }

module _ {T : Type 0} (law : List Pair → Bool) (stands : T → First → List Group → ℕ → Type 0) (store_view : T → StoreView) (constants : T → StoreConstants) (faults : T → ℕ) (g : Ground T) (writable : Bool)
    (i : ℕ) (v u : View) (h : Home T) (visit : MayVisit g.frame i v.caller) (got : TakesStore law stands store_view constants faults g i v h u) where
  abbrev s : Setting
  s = setting_of law store_view faults g writable

  abbrev f : Frame
  f = g.frame

  abbrev m : List Pair
  m = records_in g.frame.order store_view g.start

  abbrev is_lawful : List Pair → Type 0
  is_lawful r = law r ≡ true

  abbrev begun : ℕ → ℕ
  begun = count_at faults g.start

  pub base : u.caller.base ≡ got.0
  base = ap (λ (z : View). z.caller.base) got.2

  pub held : u.caller.held ≡ store_lock f i ∷ v.caller.held
  held = ap (λ (z : View). z.caller.held) got.2

  pub holds : has (store_lock f i) u.caller.held ≡ true
  holds = ap (has (store_lock f i)) held ∙ has_head (store_lock f i) v.caller.held

  pub marked_is : marked i u.marks ≡ h.broken
  marked_is = ap (λ (z : View). marked i z.marks) got.2 ∙ marked_head i h.broken v.marks

  pub noted_is : noted i u.counts ≡ faults h.store
  noted_is = ap (λ (z : View). noted i z.counts) got.2 ∙ noted_head i (faults h.store) v.counts

  pub begun_is : begun i ≤ noted i u.counts
  begun_is = let e = noted_is in let b = got.6 in omega arith

  pub holds_more : (l : ℕ) → has l v.caller.held ≡ true → has l u.caller.held ≡ true
  holds_more l t = ap (has l) held ∙ has_tail l (store_lock f i) v.caller.held t

  pub reads_more : (k : List ℕ) → Reads f v.caller.held k → Reads f u.caller.held k
  reads_more k r = ⊎_elim (λ (t : has (stripe_lock f k) v.caller.held ≡ true). inl (holds_more (stripe_lock f k) t)) (λ (t : has (store_lock f (store_of f k)) v.caller.held ≡ true). inr (holds_more (store_lock f (store_of f k)) t)) r

  -- what was known is known
  pub known_still : (k : List ℕ) → Reads f v.caller.held k → known f m v.caller k ≡ known f m u.caller k
  known_still k r = got.1.still.records k r ∙ ap (λ (es : List Entry). find k (map_after f m es)) (sym base)

  known_then : (log : List Entry) → Meets f is_lawful m u.caller log → (k : List ℕ) → Reads f v.caller.held k → known f m v.caller k ≡ find k (map_after f m log)
  known_then log meets k r = known_still k r ∙ meets.still.records k (reads_more k r)

  pub front : (log : List Entry) → Meets f is_lawful m u.caller log → IsPrefix v.caller.seen log
  front log meets = subst (λ (z : List Entry). IsPrefix z log) (ap (λ (z : View). z.caller.seen) got.2) meets.seen

  -- ---- given back, whatever it is given as
  pub visit_done : (h2 : Home T) (x w : View) → v.caller.breaking ≡ [] → Beside u x → GaveStore faults f i x h2 w → Visited i h.broken h2.broken (faults h.store) (faults h2.store) v x w
  visit_done h2 x w none beside gave = visited f i h.broken h2.broken (faults h.store) (faults h2.store) got.0 v u x w visit.rising none got.2 got.7 beside gave

  -- given back as it was taken, whole
  pub rests : (h2 : Home T) (w : View) → v.caller.breaking ≡ [] → GaveStore faults f i u h2 w → h.broken ≡ None → h2.broken ≡ None → Rests s i v w
  rests h2 w none gave was now = let t = visit_done h2 u w none (beside_self u) gave in record {
    stores = stayed_whole s i (faults h.store) (faults h2.store) v u w statuses.Success tt (subst (λ (z : Option ℕ). Visited i None z (faults h.store) (faults h2.store) v u w) now (subst (λ (z : Option ℕ). Visited i z h2.broken (faults h.store) (faults h2.store) v u w) was t));
    seen = t.seen ∙ ap (λ (z : View). z.caller.seen) got.2;
    mine = t.mine ∙ ap (λ (z : View). z.caller.mine) got.2;
    allowance = t.allowance ∙ ap (λ (z : View). z.caller.allowance) got.2;
  }

  abbrev pub looked_on : List Entry → View
  looked_on log = record { caller = looked log u.caller; counts = u.counts; marks = u.marks; other = [] }

  pub beside_look : (log : List Entry) → Beside u (looked_on log)
  beside_look log = record { held = refl; out = refl; breaking = refl; quiet = record { counts = refl; marks = refl; broke = refl; met = refl } }

  pub nothing : (log : List Entry) (meets : Meets f is_lawful m u.caller log) (was now : Option ℕ) (n k : ℕ) (w : View) → Visited i was now n k v (looked_on log) w → MadeNothing f m v.caller w.caller
  nothing log meets was now n k w t = record {
    front = subst (IsPrefix v.caller.seen) (sym t.seen) (front log meets);
    mine = t.mine ∙ ap (λ (z : View). z.caller.mine) got.2;
    allowance = t.allowance ∙ ap (λ (z : View). z.caller.allowance) got.2;
    records = λ q r. known_then log meets q r ∙ ap (λ (es : List Entry). find q (map_after f m es)) (sym t.seen);
  }

  -- ---- what the visit says of stores
  pub gave_up_done : (h2 : Home T) (w : View) → v.caller.breaking ≡ [] → (gave : GaveUp law stands store_view constants faults g i u h2 w) → Visited i h.broken h2.broken (faults h.store) (faults h2.store) v (looked_on gave.0) w
  gave_up_done h2 w none gave = visit_done h2 (looked_on gave.0) w none (beside_look gave.0) gave.2

  pub gave_up_nothing : (h2 : Home T) (w : View) → v.caller.breaking ≡ [] → (gave : GaveUp law stands store_view constants faults g i u h2 w) → MadeNothing f m v.caller w.caller
  gave_up_nothing h2 w none gave = nothing gave.0 gave.1 h.broken h2.broken (faults h.store) (faults h2.store) w (gave_up_done h2 w none gave)

  pub found_broken : (k : ℕ) (h2 : Home T) (x w : View) → h.broken ≡ Some k → h2.broken ≡ Some k → Visited i h.broken h2.broken (faults h.store) (faults h2.store) v x w → Stores s (λ j. j == i) v (statuses.Broken k) w
  found_broken k h2 x w was now t = was_broken s i (faults h.store) (faults h2.store) k v x w (got.8 k was)
      (subst (λ (z : Option ℕ). Visited i (Some k) z (faults h.store) (faults h2.store) v x w) now (subst (λ (z : Option ℕ). Visited i z h2.broken (faults h.store) (faults h2.store) v x w) was t))

  pub failed_here : (k : ℕ) (h2 : Home T) (x w : View) → h.broken ≡ None → h2.broken ≡ Some k → faults h2.store ≡ k → Rose (faults h.store) k → Visited i h.broken h2.broken (faults h.store) (faults h2.store) v x w → Stores s (λ j. j == i) v (statuses.System k) w
  failed_here k h2 x w was now count rose t = has_failed s i (faults h.store) k v x w rose
      (subst (λ (z : ℕ). Visited i None (Some k) (faults h.store) z v x w) count
      (subst (λ (z : Option ℕ). Visited i None z (faults h.store) (faults h2.store) v x w) now (subst (λ (z : Option ℕ). Visited i z h2.broken (faults h.store) (faults h2.store) v x w) was t)))

  pub stayed_here : (st : Status) (h2 : Home T) (x w : View) → SaysNothing st → h.broken ≡ None → h2.broken ≡ None → Visited i h.broken h2.broken (faults h.store) (faults h2.store) v x w → Stores s (λ j. j == i) v st w
  stayed_here st h2 x w says was now t = stayed_whole s i (faults h.store) (faults h2.store) v x w st says
      (subst (λ (z : Option ℕ). Visited i None z (faults h.store) (faults h2.store) v x w) now (subst (λ (z : Option ℕ). Visited i z h2.broken (faults h.store) (faults h2.store) v x w) was t))

  pub beside_commit : (log : List Entry) (e : Entry) (x : View) → x ≡ with_caller (committed log e u.caller) u → Beside u x
  beside_commit log e x is = record {
    held = ap (λ (z : View). z.caller.held) is;
    out = ap (λ (z : View). z.caller.out) is;
    breaking = ap (λ (z : View). z.caller.breaking) is;
    quiet = record { counts = ap (λ (z : View). z.counts) is; marks = ap (λ (z : View). z.marks) is; broke = ap (λ (z : View). z.caller.broke) is; met = ap (λ (z : View). z.caller.met) is };
  }

  module _ (e : Entry) (n : ℕ) (x : View) (makes : Committed f is_lawful m e u n x) (was now : Option ℕ) (j k : ℕ) (w : View) (t : Visited i was now j k v x w) where
    seen_is : w.caller.seen ≡ makes.0 ++ e ∷ []
    seen_is = t.seen ∙ ap (λ (z : View). z.caller.seen) makes.5

    pub past_is : take n w.caller.seen ≡ makes.0
    past_is = ap (take n) seen_is ∙ take_front makes.0 e n makes.3

    pub made_at : 0 < v.caller.allowance → MadeAt s e v.caller w.caller n
    made_at some = record {
      front = subst (IsPrefix v.caller.seen) (sym past_is) (front makes.0 makes.1);
      seen = seen_is ∙ ap (λ (z : List Entry). z ++ e ∷ []) (sym past_is);
      place = ap (λ (z : List Entry). length z) seen_is ∙ length-append makes.0 (e ∷ []) ∙ (let q = makes.3 in omega arith);
      lawful = subst (λ (z : List Entry). IsLawful f is_lawful m z) (sym seen_is) makes.2;
      mine = t.mine ∙ ap (λ (z : View). z.caller.mine) makes.5 ∙ ap (λ (q : ℕ). (q, e) ∷ u.caller.mine) makes.3 ∙ ap (λ (z : View). (n, e) ∷ z.caller.mine) got.2;
      allowance = let a = t.allowance ∙ ap (λ (z : View). z.caller.allowance) makes.5 in let b = ap (λ (z : View). z.caller.allowance) got.2 in omega arith;
      records = λ q r. known_then makes.0 makes.1 q r ∙ ap (λ (es : List Entry). find q (map_after f m es)) (sym past_is);
    }

  -- ---- a change
  module _ (e : Entry) (cs : List Change) (may : MayChange s e i cs v.caller) (live : u.caller.live ≡ true) (whole : h.broken ≡ None) (frame : IsFrame f) where
    may_one : MayOne f is_lawful m may.key may.was may.action u.caller
    may_one = record {
      live = live;
      allowance = let q = ap (λ (z : View). z.caller.allowance) got.2 in let a = may.allowance in omega arith;
      key = may.long;
      value = may.value;
      known_is = may.known_is ∙ known_still may.key (inl may.stripe);
      keeps = subst (KeepsLaw f is_lawful) may.entry may.keeps;
      reads = inl (holds_more (stripe_lock f may.key) may.stripe);
      changing = λ _. (
        (holds_more (stripe_lock f may.key) may.stripe, ap (λ (z : ℕ). has (store_lock f z) u.caller.held) may.here ∙ holds),
        ap (λ (z : ℕ). has z u.caller.out) may.here ∙ ap (λ (z : View). has i z.caller.out) got.2 ∙ has_head i v.caller.out,
        ap (knows_broken u.caller) may.here ∙ got.7 ∙ ap is_some whole,
      );
    }

    pub may_make : MayCommit f is_lawful m e u.caller
    may_make = subst (λ (z : Entry). MayCommit f is_lawful m z u.caller) (sym may.entry) (may_commit f is_lawful m may.key may.was may.action u.caller may_one)

    rising : (es : List Entry) → Rising f.order (map_after f m es)
    rising es = entries_rising f.order es m got.1.lawful.rising

    covers : (held : List ℕ) → has (stripe_lock f may.key) held ≡ true → CoversReads f held e
    covers held h = subst (CoversReads f held) (sym may.entry) (inl h, tt)

    -- the call changes the same after the history that was met
    changes_still : (log : List Entry) → Meets f is_lawful m u.caller log → changes_of f.order (map_after f m v.caller.base) e ≡ changes_of f.order (map_after f m log) e
    changes_still log meets = (call_alike f v.caller.held frame (map_after f m v.caller.base) (map_after f m log) (rising v.caller.base) (rising log) (λ k r. known_then log meets k r) e (covers v.caller.held may.stripe)).1

    pub here_alone : (log : List Entry) → changes_on stands store_view constants g log e i ≡ changes_of f.order (map_after f m log) e
    here_alone log = subst (λ (z : Entry). changes_on stands store_view constants g log z i ≡ changes_of f.order (map_after f m log) z) (sym may.entry) (all_here f is_lawful m may.key may.was may.action (map_after f m log) i may.here)

    pub none_else : (log : List Entry) (j : ℕ) → j ≢ i → changes_on stands store_view constants g log e j ≡ []
    none_else log j other = subst (λ (z : Entry). changes_on stands store_view constants g log z j ≡ []) (sym may.entry) (none_there f is_lawful m may.key may.was may.action (map_after f m log) j (λ q. other (sym q ∙ may.here)))

    -- what was reserved is what the call changes in the store
    pub reserved_is : (log : List Entry) → Meets f is_lawful m u.caller log → s.tells i ≡ true → cs ≡ changes_on stands store_view constants g log e i
    reserved_is log meets tells = may.told tells ∙ changes_still log meets ∙ sym (here_alone log)

    own_meets : Meets f is_lawful m u.caller u.caller.base
    own_meets = subst (λ (z : List Entry). Meets f is_lawful m u.caller z) (sym base) (record {
      seen = subst (λ (z : List Entry). IsPrefix z got.0) (sym (ap (λ (z : View). z.caller.seen) got.2)) got.1.seen;
      base = subst (λ (z : List Entry). IsPrefix z got.0) (sym base) (prefix_self got.0);
      lawful = got.1.lawful;
      still = record {
        records = λ k r. ap (λ (es : List Entry). find k (map_after f m es)) base;
        groups = λ j low t. ap (λ (es : List Entry). groups_of f m es j) base;
        hard = λ j low t. ap (λ (es : List Entry). hard_groups f m es j) base;
      };
    })

    pub reserved_now : s.tells i ≡ true → cs ≡ changes_on stands store_view constants g u.caller.base e i
    reserved_now = reserved_is u.caller.base own_meets

    pub soft : is_hard e ≡ false
    soft = ap is_hard may.entry

    -- the store, as it was taken, may be so after what was met
    pub is_after : (log : List Entry) → Meets f is_lawful m u.caller log → IsAfter stands store_view constants g i log h.store
    is_after log meets = subst (λ (q : List Group × ℕ). good_of stands store_view constants g i h.store q.0 q.1) (λ t. (meets.still.groups i visit.low holds t, meets.still.hard i visit.low holds t)) (got.3 whole)

    pub had_room : (log : List Entry) → Meets f is_lawful m u.caller log → HasRoom (constants h.store) (store_view h.store) cs → s.tells i ≡ true → AllHaveRoom stands store_view constants g log e
    had_room log meets room tells j low some = by_test j i (λ z. HasRoomAt stands store_view constants g log e j)
        (λ same. subst (HasRoomAt stands store_view constants g log e) (sym same) (h.store, is_after log meets, subst (HasRoom (constants h.store) (store_view h.store)) (reserved_is log meets tells) room))
        (λ other. absurd (some (none_else log j other)))

    pub is_full : (log : List Entry) → Meets f is_lawful m u.caller log → cs ≢ [] → (size need limit : ℕ)
        → (PassesLimit (constants h.store) (store_view h.store) cs size need limit ⊎ PassesLog (constants h.store).log (store_view h.store).log_size cs size need limit) → s.tells i ≡ true → IsFull stands store_view constants g log e size need limit
    is_full log meets some size need limit over tells = record {
      store = i;
      low = visit.low;
      changed = λ none. some (reserved_is log meets tells ∙ none);
      over = (h.store, is_after log meets, subst (λ (z : List Change). PassesLimit (constants h.store) (store_view h.store) z size need limit ⊎ PassesLog (constants h.store).log (store_view h.store).log_size z size need limit) (reserved_is log meets tells) over);
      order = λ j less more. absurd (more (none_else log j (λ q. absurd (omega arith))));
    }

    pub full_here : (h2 : Home T) (w : View) (none : v.caller.breaking ≡ []) (gave : GaveUp law stands store_view constants faults g i u h2 w) → cs ≢ [] → (size need limit : ℕ)
        → (PassesLimit (constants h.store) (store_view h.store) cs size need limit ⊎ PassesLog (constants h.store).log (store_view h.store).log_size cs size need limit) → s.tells i ≡ true → IsFull stands store_view constants g w.caller.seen e size need limit
    full_here h2 w none gave any size need limit over tells = subst (λ (z : List Entry). IsFull stands store_view constants g z e size need limit) (sym (gave_up_done h2 w none gave).seen) (is_full gave.0 gave.1 any size need limit over tells)

    pub changed_there : (a : Answer) (w : View) → v.caller.breaking ≡ [] → MadeThere law stands store_view constants faults g e i u a w → HasRoom (constants h.store) (store_view h.store) cs
        → Changed s (IsFull stands store_view constants g) (AllHaveRoom stands store_view constants g) i e v a w
    changed_there a w none t room = let done : Visited i h.broken t.home.broken (faults h.store) (faults t.home.store) v t.between w = visit_done t.home t.between w none (beside_commit t.makes.0 e t.between t.makes.5) t.gave in record {
      stores = ⊎_elim
          (λ (z : (t.home.broken ≡ None) × (a.status ≡ statuses.Success)). subst (λ (st : Status). Stores s (λ j. j == i) v st w) (sym z.1) (stayed_here statuses.Success t.home t.between w tt whole z.0 done))
          (λ (z : (t.home.broken ≡ Some (faults t.home.store)) × (a.status ≡ statuses.System (faults t.home.store)) × Rose (noted i u.counts) (faults t.home.store)). subst (λ (st : Status). Stores s (λ j. j == i) v st w) (sym z.1)
          (failed_here (faults t.home.store) t.home t.between w whole z.0 refl (subst (λ (q : ℕ). Rose q (faults t.home.store)) noted_is z.2) done)) t.how;
      made = λ n q. subst (λ (z : ℕ). MadeAt s e v.caller w.caller z) (same_number t.n n (sym t.number ∙ q)) (made_at e t.n t.between t.makes h.broken t.home.broken (faults h.store) (faults t.home.store) w done may.allowance);
      ended = λ n q. ⊎_elim (λ (z : (t.home.broken ≡ None) × (a.status ≡ statuses.Success)). inl z.1)
          (λ (z : (t.home.broken ≡ Some (faults t.home.store)) × (a.status ≡ statuses.System (faults t.home.store)) × Rose (noted i u.counts) (faults t.home.store)). inr (ap is_system z.1)) t.how;
      had_room = λ n q tells. subst (λ (z : List Entry). AllHaveRoom stands store_view constants g z e) (sym (ap (λ (z : ℕ). take z w.caller.seen) (sym (same_number t.n n (sym t.number ∙ q))) ∙ past_is e t.n t.between t.makes h.broken t.home.broken (faults h.store) (faults t.home.store) w done))
          (had_room t.makes.0 t.makes.1 room tells);
      not_made = λ q. absurd (cc (t.number, q));
    }
      where
        same_number : (n q : ℕ) → Some n ≡ Some q → n ≡ q
        same_number n q e = cc (e)
