-- How a call that visits several stores goes on from one to the next, and what it leaves.
use Rattle.std.proofs.Common.{◌≡◌, ◌≢◌, ◌⊎◌, inl, inr, ◌+◌, ◌<◌, ◌≤◌, ◌==◌, ◌||◌, ◌&&◌, not, ℕ, Bool, true, false, cond, List, [], ◌∷◌, ◌++◌, length, length-append, take, Option, Some, None, Result, Ok, Err, is_some, refl, sym, ap, ◌∙◌, subst, ⊎_elim, arith, eqb-true}
use Rattle.std.proofs.lemmas.List.{append-nil}
use mathlib.Core.List.{IsPrefix}
use Rattle.tk_status.specs.declared.Status.{Status}
use Rattle.tk_status.specs.declared.Status.TheVariants as statuses
use Rattle.tk_model.specs.Counts.{Rose}
use Rattle.tk_model.specs.Records.{find, replay, Rising}
use Rattle.tk_model.specs.Entries.{shard_records}
use Rattle.tk_model.specs.declared.record.Pair.{Pair}
use Rattle.tk_model.specs.declared.record.Change.{Change}
use Rattle.tk_model.specs.declared.record.Group.{Group}
use Rattle.tk_model.specs.declared.record.Entry.{Entry}
use Rattle.tk_store.specs.Store.{First, StoreView, StoreConstants, HasRoom, PassesLimit, PassesLog}
use Rattle.tk_core.specs.declared.frame.Frame.{Frame}
use Rattle.tk_core.specs.Caller.{Caller, knows_broken}
use Rattle.tk_core.specs.Covers.{Reads, store_of, store_lock, stripe_lock}
use Rattle.tk_core.specs.Lists.{has, without}
use Rattle.tk_core.specs.Moves.{put_back, gave_store}
use Rattle.tk_core.specs.Rule.{IsLawful, Still, known, map_after, shard, groups_of, hard_groups}
use Rattle.tk_core.proofs.Facts.{by_bool, has_cons, has_head, has_tail, not_both}
use Rattle.tk_locks.specs.declared.home.Home.{Home}
use Rattle.tk_locks.specs.View.{View, noted, marked, with_caller, with_count, with_mark}
use Rattle.tk_locks.specs.Rule.{Ground, Risen, records_in, good_of, count_at}
use Rattle.tk_locks.specs.Steps.{GaveStore}
use Rattle.tk_locks.specs.Tells.{TakesStore}
use Rattle.tk_locks.proofs.Facts.{prefix_length, noted_tail}
use Rattle.tk_dbm.specs.declared.answer.Answer.{Answer}
use Rattle.tk_dbm.specs.declared.visit.Part.{Part}
use Rattle.tk_dbm.specs.declared.visit.Work.{Work}
use Rattle.tk_dbm.specs.declared.visit.Work.TheVariants.{Count, Sync, Change as Changing, Keep as Keeping}
use Rattle.tk_dbm.specs.Room.{IsAfter, changes_on, HasRoomAt, IsOver}
use Rattle.tk_core.specs.Needs.{MayCommit}
use Rattle.tk_model.proofs.Shards.{parts_reach}
use Rattle.tk_store.specs.declared.error.StoreError.{StoreError}
use Rattle.tk_store.specs.declared.error.StoreError.TheVariants as errors
use Rattle.tk_dbm.specs.Setting.{Setting, setting_of, records_at, newest}
use Rattle.tk_dbm.specs.Calls.{Stores, ByStatus, is_system}
use Rattle.tk_dbm.specs.Parts.{IsOut, GaveUp, MadeNothing, MadeAt, MayStop, MayVisit}
use Rattle.tk_dbm.specs.Visiting.{stores_of, Climbs, AllUnbroken, HoldsMore, MayAsk, IsFit, AllFit, IsPrepared, IsDue, NoRoom, SteadyAt, VisitStores, Visits, Settled, TellsFullBy, OverBy, RoomBy, IsSum, work_at}
use Rattle.tk_dbm.proofs.Changing.{rose_less, gave_up_done, gave_up_nothing, holds}
use Rattle.tk_dbm.proofs.Around.{contains_next, newest_here, or_third, noted_then, marked_then, mark_same, unknown_then, Turns, around}
use Rattle.tk_dbm.proofs.Visits.{Visited, by_then, own_alone, has_if, either, taken_back}

-- what is left of what was with the pass when a store is given back that it didn't know as broken
pub record Given (f : Frame) (i : ℕ) (now : Option ℕ) (k : ℕ) (x w : View) : Type 0 where
  pub held : w.caller.held ≡ without (store_lock f i) x.caller.held
  pub breaking : w.caller.breaking ≡ []
  pub broke : w.caller.broke ≡ cond (is_some now) (i ∷ []) [] ++ x.caller.broke
  pub met : w.caller.met ≡ x.caller.met
  pub counts : w.counts ≡ (i, k) ∷ x.counts
  pub marks : w.marks ≡ (i, now) ∷ x.marks
  pub seen : w.caller.seen ≡ x.caller.seen
  pub mine : w.caller.mine ≡ x.caller.mine
  pub allowance : w.caller.allowance ≡ x.caller.allowance
  pub base : w.caller.base ≡ x.caller.base

pub given : (f : Frame) (i : ℕ) (now : Option ℕ) (k : ℕ) (x w : View) → x.caller.breaking ≡ [] → knows_broken x.caller i ≡ false → w ≡ with_count i k (with_mark i now (with_caller (gave_store f i (put_back i (is_some now) x.caller)) x)) → Given f i now k x w
given f i now k x w calm unknown gave =
    let new : (put_back i (is_some now) x.caller).breaking ≡ cond (is_some now) (i ∷ []) [] =
    ap (λ (z : Bool). cond (is_some now && not z) (i ∷ x.caller.breaking) x.caller.breaking) unknown ∙ ap (λ (z : List ℕ). cond (is_some now && true) (i ∷ z) z) calm ∙ ap (λ (z : Bool). cond z (i ∷ []) []) (and_true (is_some now)) in record {
      held = ap (λ (z : View). z.caller.held) gave;
      breaking = ap (λ (z : View). z.caller.breaking) gave ∙ ap (without i) new ∙ taken_back (is_some now) i;
      broke = ap (λ (z : View). z.caller.broke) gave ∙ ap (λ (z : List ℕ). cond (has i z) (i ∷ x.caller.broke) x.caller.broke) new ∙ ap (λ (z : Bool). cond z (i ∷ x.caller.broke) x.caller.broke) (has_if (is_some now) i) ∙ either (is_some now) i x.caller.broke;
      met = ap (λ (z : View). z.caller.met) gave;
      counts = ap (λ (z : View). z.counts) gave;
      marks = ap (λ (z : View). z.marks) gave;
      seen = ap (λ (z : View). z.caller.seen) gave;
      mine = ap (λ (z : View). z.caller.mine) gave;
      allowance = ap (λ (z : View). z.caller.allowance) gave;
      base = ap (λ (z : View). z.caller.base) gave;
    }
  where
    and_true : (b : Bool) → (b && true) ≡ b
    and_true true = refl
    and_true false = refl

module _ {T : Type 0} (law : List Pair → Bool) (stands : T → First → List Group → ℕ → Type 0) (store_view : T → StoreView) (constants : T → StoreConstants) (faults : T → ℕ) (g : Ground T) (writable : Bool)
    (p : Part) (v u : View) (h : Home T) (got : TakesStore law stands store_view constants faults g p.store v h u) where
  abbrev i : ℕ
  i = p.store

  abbrev s : Setting
  s = setting_of law store_view faults g writable

  abbrev f : Frame
  f = g.frame

  abbrev m : List Pair
  m = records_in g.frame.order store_view g.start

  abbrev begun : ℕ → ℕ
  begun = count_at faults g.start

  base_is : u.caller.base ≡ got.0
  base_is = ap (λ (z : View). z.caller.base) got.2

  held_is : u.caller.held ≡ store_lock f i ∷ v.caller.held
  held_is = ap (λ (z : View). z.caller.held) got.2

  holds_it : has (store_lock f i) u.caller.held ≡ true
  holds_it = ap (has (store_lock f i)) held_is ∙ has_head (store_lock f i) v.caller.held

  holds_too : (l : ℕ) → has l v.caller.held ≡ true → has l u.caller.held ≡ true
  holds_too l t = ap (has l) held_is ∙ has_tail l (store_lock f i) v.caller.held t

  reads_too : (k : List ℕ) → Reads f v.caller.held k → Reads f u.caller.held k
  reads_too k r = ⊎_elim (λ (t : has (stripe_lock f k) v.caller.held ≡ true). inl (holds_too (stripe_lock f k) t)) (λ (t : has (store_lock f (store_of f k)) v.caller.held ≡ true). inr (holds_too (store_lock f (store_of f k)) t)) r

  -- what is as the caller knows it with the store was so before
  pub still_back : (log : List Entry) → Still f m log u.caller → Still f m log v.caller
  still_back log st = record {
    records = λ k r. got.1.still.records k r ∙ ap (λ (es : List Entry). find k (map_after f m es)) (sym base_is) ∙ st.records k (reads_too k r);
    groups = λ j low t. got.1.still.groups j low t ∙ ap (λ (es : List Entry). groups_of f m es j) (sym base_is) ∙ st.groups j low (holds_too (store_lock f j) t);
    hard = λ j low t. got.1.still.hard j low t ∙ ap (λ (es : List Entry). hard_groups f m es j) (sym base_is) ∙ st.hard j low (holds_too (store_lock f j) t);
  }

  pub base_back : length v.caller.base ≤ length u.caller.base
  base_back = let p = prefix_length v.caller.base got.0 got.1.base in let e = ap (λ (es : List Entry). length es) base_is in omega arith

  pub climbs_more : (is : List ℕ) → Climbs f (i ∷ is) v.caller.held → Climbs f is u.caller.held
  climbs_more is c = subst (Climbs f is) (sym held_is) c.2

  met_same : h.broken ≡ None → u.caller.met ≡ v.caller.met
  met_same whole = ap (λ (z : View). z.caller.met) got.2 ∙ ap (λ (o : Option ℕ). cond (is_some o) (i ∷ v.caller.met) v.caller.met) whole

  pub unbroken_more : h.broken ≡ None → AllUnbroken f v.caller → AllUnbroken f u.caller
  unbroken_more whole all j t = ⊎_elim
      (λ (e : store_lock f j ≡ store_lock f i). let same : j ≡ i = omega arith in ap (knows_broken u.caller) same ∙ got.7 ∙ ap is_some whole)
      (λ (q : (store_lock f j ≢ store_lock f i) × (has (store_lock f j) v.caller.held ≡ true)). ap (λ (z : List ℕ). has j z || has j u.caller.breaking) (met_same whole) ∙ ap (λ (z : View). has j v.caller.met || has j z.caller.breaking) got.2 ∙ all j q.1)
      (has_cons (store_lock f j) (store_lock f i) v.caller.held (ap (has (store_lock f j)) (sym held_is) ∙ t))

  more_back : (is more : List ℕ) → HoldsMore f is u.caller.held more → HoldsMore f (i ∷ is) v.caller.held more
  more_back is more holds = (
    (λ l t. holds.0 l (holds_too l t)),
    (λ j t. ⊎_elim (λ (e : j ≡ i). subst (λ (z : ℕ). has (store_lock f z) more ≡ true) (sym e) (holds.0 (store_lock f i) holds_it)) (λ (q : (j ≢ i) × (has j is ≡ true)). holds.1 j q.1) (has_cons j i is t)),
  )

  pub ask_more : (E : List Pair → Entry) (is : List ℕ) → MayAsk s E (i ∷ is) v.caller → MayAsk s E is u.caller
  ask_more E is ask = record {
    allowance = let e = ap (λ (z : View). z.caller.allowance) got.2 in let a = ask.allowance in omega arith;
    legal = λ log st. ask.legal log (still_back log st);
    keeps = λ log st. ask.keeps log (still_back log st);
    alike = λ a b ra rb more holds agree. ask.alike a b ra rb more (more_back is more holds) agree;
    covers = λ log st more holds. ask.covers log (still_back log st) more (more_back is more holds);
  }

  noted_other : (j : ℕ) → j ≢ i → noted j u.counts ≡ noted j v.counts
  noted_other j differ = ap (λ (z : View). noted j z.counts) got.2 ∙ noted_tail i j (faults h.store) v.counts differ

  pub fit_more : (work : Work) (E : List Pair → Entry) (ps : List Part) → ((j : ℕ) → has j (stores_of ps) ≡ true → i < j) → AllFit s work E v ps → AllFit s work E u ps
  fit_more work E [] behind all = tt
  fit_more work E (q ∷ ps) behind all = (
    record {
      alone = all.0.alone;
      fit = all.0.fit;
      suits = all.0.suits;
      seen = λ n e. let t = all.0.seen n e in let low = behind q.store (has_head q.store (stores_of ps)) in let same = noted_other q.store (λ z. absurd (omega arith)) in ((let a = t.0 in omega arith), t.1);
      told = λ log st. all.0.told log (still_back log st);
    },
    fit_more work E ps (λ j t. behind j (has_tail j q.store (stores_of ps) t)) all.1,
  )

  known_back : (k : List ℕ) → Reads f v.caller.held k → known f m v.caller k ≡ known f m u.caller k
  known_back k r = got.1.still.records k r ∙ ap (λ (es : List Entry). find k (map_after f m es)) (sym base_is)

  -- what was made, or nothing, with the store is so without it
  pub made_back : (e : Entry) (x w : Caller) (n : ℕ) → w.seen ≡ x.seen → w.mine ≡ x.mine → w.allowance ≡ x.allowance → MadeAt s e u.caller x n → MadeAt s e v.caller w n
  made_back e x w n seen mine allowance t = record {
    front = subst (λ (es : List Entry). IsPrefix es (take n w.seen)) (ap (λ (z : View). z.caller.seen) got.2) (subst (λ (es : List Entry). IsPrefix u.caller.seen (take n es)) (sym seen) t.front);
    seen = seen ∙ t.seen ∙ ap (λ (es : List Entry). take n es ++ e ∷ []) (sym seen);
    place = ap (λ (es : List Entry). length es) seen ∙ t.place;
    lawful = subst (IsLawful f (λ r. law r ≡ true) m) (sym seen) t.lawful;
    mine = mine ∙ t.mine ∙ ap (λ (z : View). (n, e) ∷ z.caller.mine) got.2;
    allowance = let a = t.allowance in let b = ap (λ (z : View). z.caller.allowance) got.2 in omega arith;
    records = λ k r. known_back k r ∙ t.records k (reads_too k r) ∙ ap (λ (es : List Entry). find k (map_after f m (take n es))) (sym seen);
  }

  pub nothing_back : (x w : Caller) → w.seen ≡ x.seen → w.mine ≡ x.mine → w.allowance ≡ x.allowance → MadeNothing f m u.caller x → MadeNothing f m v.caller w
  nothing_back x w seen mine allowance t = record {
    front = subst (λ (es : List Entry). IsPrefix es w.seen) (ap (λ (z : View). z.caller.seen) got.2) (subst (IsPrefix u.caller.seen) (sym seen) t.front);
    mine = mine ∙ t.mine ∙ ap (λ (z : View). z.caller.mine) got.2;
    allowance = allowance ∙ t.allowance ∙ ap (λ (z : View). z.caller.allowance) got.2;
    records = λ k r. known_back k r ∙ t.records k (reads_too k r) ∙ ap (λ (es : List Entry). find k (map_after f m es)) (sym seen);
  }

  -- ---- the stores behind it were visited
  module _ (work : Work) (over : ℕ → List Entry → Entry → ℕ → ℕ → ℕ → Type 0) (room : ℕ → List Entry → Entry → Type 0) (E : List Pair → Entry) (ps : List Part) (a : Answer) (x : View) (nested : Visits s over room E ps u a x) (x_held : x.caller.held ≡ u.caller.held)
      (none : has i (stores_of ps) ≡ false) where
    noted_same : noted i x.counts ≡ noted i u.counts
    noted_same = noted_then s ps u x a.status i none nested.stores

    marked_same : marked i x.marks ≡ marked i u.marks
    marked_same = marked_then s ps u x a.status i none nested.stores

    holds_still : has (store_lock f i) u.caller.held ≡ true → has (store_lock f i) x.caller.held ≡ true
    holds_still t = ap (has (store_lock f i)) x_held ∙ t

    pub still_out : (k : Home T) → a.number ≡ None → IsOut law stands store_view constants faults g i u k → IsOut law stands store_view constants faults g i x k
    still_out k missing out = let t = nested.not_made missing in record {
      low = out.low;
      holds = holds_still out.holds;
      owed = λ w. subst (λ (q : List Group × ℕ). good_of stands store_view constants g i k.store q.0 q.1)
          (λ z. ((t.1.groups i out.low out.holds ∙ ap (λ (es : List Entry). groups_of f m es i) (sym nested.base)) z, (t.1.hard i out.low out.holds ∙ ap (λ (es : List Entry). hard_groups f m es i) (sym nested.base)) z)) (out.owed w);
      stays = mark_same f begun i u x k.broken marked_same out.stays;
      counted = let e = noted_same in let c = out.counted in omega arith;
      follows = λ w q. let h = out.follows w q in let l = t.2 in let e = ap (λ (es : List Entry). length es) nested.base in omega arith;
    }

    long_is : (n : ℕ) → a.number ≡ Some n → length (take n x.caller.seen) ≡ n
    long_is n is = let t = nested.made n is in let p = ap (λ (es : List Entry). length es) t.0.seen in let q = length-append (take n x.caller.seen) (E (records_at s x.caller n) ∷ []) in let l = t.0.place in omega arith

    pub due_out : (reserved : T → List Change → Type 0) (y : T) (b : Option ℕ) (n number : ℕ) → a.number ≡ Some n → number ≡ g.frame.base + n → b ≡ None → marked i u.marks ≡ None → IsOut law stands store_view constants faults g i u (record { store = y; broken = b }) → is_some (store_view y).map ≡ s.tells i
        → IsFit s work E v p → IsPrepared reserved (work_at work p.changes) p.changes y → IsDue law stands store_view constants faults g reserved (work_at work p.changes) i number x y
    due_out reserved y b n number is number_is whole unmarked out same_told fits prepared = let t = nested.made n is in record {
      low = out.low;
      holds = holds_still out.holds;
      stays = mark_same f begun i u x None marked_same (record { stays = λ m2. absurd (cc (sym m2, ap is_some unmarked)); risen = λ k _ e. absurd (cc (e)) });
      counted = let e = noted_same in let c = out.counted in omega arith;
      log = take n x.caller.seen;
      entry = E (records_at s x.caller n);
      changes = p.changes;
      base = nested.base ∙ t.0.seen;
      good_then = subst (λ (q : List Group × ℕ). good_of stands store_view constants g i y q.0 q.1) (λ z. (t.1.groups i out.low out.holds z, t.1.hard i out.low out.holds z)) (out.owed whole);
      prepared = prepared;
      suits = fits.suits (records_at s x.caller n);
      told = λ told. fits.told (take n x.caller.seen) (still_back (take n x.caller.seen) t.1) (sym same_told ∙ told);
      number_is = let l = long_is n is in omega arith;
      follows = λ w. let h = out.follows whole w in let l = t.2 in let e = long_is n is in omega arith;
    }

    -- the store is given back, as it is settled
    module _ (st : Status) (y : T) (k : Home T) (w : View) (whole : h.broken ≡ None) (unraised : faults y ≡ faults h.store) (settled : Settled faults y a k st) (gave : GaveStore faults f i x k w) (calm : x.caller.breaking ≡ [])
        (behind : (j : ℕ) → has j (stores_of ps) ≡ true → i < j) (fits : IsFit s work E v p) (steady : (q : ℕ) → p.seen ≡ Some q → q < faults h.store → ⊥) (low : i < f.stores)
        (room_here : (log : List Entry) → Still f m log u.caller → s.tells i ≡ true → room i log (E (map_after f m log))) where
      pub done : Given f i k.broken (faults k.store) x w
      done = given f i k.broken (faults k.store) x w calm (unknown_then s ps u x a.status i none nested.stores (got.7 ∙ ap is_some whole) calm) gave

      turns : Turns (faults h.store) (faults k.store) k.broken a.status st
      turns = ⊎_elim (λ (c : (k.broken ≡ None) × (st ≡ a.status) × (is_system a.status ≡ false)). inl c)
          (λ (r : ((z : ℕ) × (a.status ≡ statuses.System z) × (st ≡ statuses.System z) × (k.broken ≡ Some z) × (faults k.store ≡ faults y)) ⊎ ((n : ℕ) × (a.number ≡ Some n) × (is_system a.status ≡ false) × (st ≡ statuses.System (faults k.store)) × (k.broken ≡ Some (faults k.store)) × Rose (faults y) (faults k.store))).
          ⊎_elim (λ (c : (z : ℕ) × (a.status ≡ statuses.System z) × (st ≡ statuses.System z) × (k.broken ≡ Some z) × (faults k.store ≡ faults y)). inr (inl (c.0, c.1, c.2, c.3, c.4 ∙ unraised)))
          (λ (c : (n : ℕ) × (a.number ≡ Some n) × (is_system a.status ≡ false) × (st ≡ statuses.System (faults k.store)) × (k.broken ≡ Some (faults k.store)) × Rose (faults y) (faults k.store)).
          inr (inr (⊎_elim (λ (e : a.status ≡ statuses.Success). e) (λ (e : is_system a.status ≡ true). absurd (not_both (is_system a.status) e c.2)) (nested.ended c.0 c.1), c.3, c.4, subst (λ (z : ℕ). Rose z (faults k.store)) unraised c.5))) r) settled

      all_stores : VisitStores s (p ∷ ps) v st w
      all_stores = around s p ps (faults h.store) (faults k.store) v u x w a.status behind nested.stores (λ q e. let t = fits.seen q e in let l = got.4 in let z = steady q e in omega (arith, t.0, l, z)) k.broken st
          (ap (λ (z : View). z.counts) got.2) (ap (λ (z : View). z.marks) got.2 ∙ ap (λ (o : Option ℕ). (i, o) ∷ v.marks) whole) (ap (λ (z : View). z.caller.broke) got.2) (met_same whole) done.counts done.marks done.broke done.met turns

      entry_same : (n : ℕ) → E (records_at s x.caller n) ≡ E (records_at s w.caller n)
      entry_same n = ap (λ (es : List Entry). E (map_after f m (take n es))) (sym done.seen)

      pub leveled : Visits s over room E (p ∷ ps) v (record { status = st; number = a.number }) w
      leveled = record {
        stores = all_stores;
        base = done.base ∙ nested.base ∙ sym done.seen;
        risen = λ z e. ⊎_elim (λ (c : (k.broken ≡ None) × (st ≡ a.status) × (is_system a.status ≡ false)). nested.risen z (sym c.1 ∙ e))
            (λ (r : ((z : ℕ) × (a.status ≡ statuses.System z) × (st ≡ statuses.System z) × (k.broken ≡ Some z) × (faults k.store ≡ faults h.store)) ⊎ ((a.status ≡ statuses.Success) × (st ≡ statuses.System (faults k.store)) × (k.broken ≡ Some (faults k.store)) × Rose (faults h.store) (faults k.store))).
            ⊎_elim (λ (c : (z : ℕ) × (a.status ≡ statuses.System z) × (st ≡ statuses.System z) × (k.broken ≡ Some z) × (faults k.store ≡ faults h.store)). nested.risen z (c.1 ∙ sym c.2 ∙ e))
            (λ (c : (a.status ≡ statuses.Success) × (st ≡ statuses.System (faults k.store)) × (k.broken ≡ Some (faults k.store)) × Rose (faults h.store) (faults k.store)).
            let same : faults k.store ≡ z = told (faults k.store) z (sym c.1 ∙ e) in (i, low, subst (Rose (begun i)) same (rose_less (begun i) (faults h.store) (faults k.store) got.6 c.3))) r) turns;
        made = λ n e. let t = nested.made n e in (
          subst (λ (z : Entry). MadeAt s z v.caller w.caller n) (entry_same n) (made_back (E (records_at s x.caller n)) x.caller w.caller n done.seen done.mine done.allowance t.0),
          subst (λ (es : List Entry). Still f m (take n es) v.caller) (sym done.seen) (still_back (take n x.caller.seen) t.1),
          (let l = t.2 in let b = base_back in omega arith),
          t.3,
        );
        ended = λ n e. ⊎_elim (λ (c : (k.broken ≡ None) × (st ≡ a.status) × (is_system a.status ≡ false)). subst (λ (z : Status). (z ≡ statuses.Success) ⊎ (is_system z ≡ true)) (sym c.1) (nested.ended n e))
            (λ (r : ((z : ℕ) × (a.status ≡ statuses.System z) × (st ≡ statuses.System z) × (k.broken ≡ Some z) × (faults k.store ≡ faults h.store)) ⊎ ((a.status ≡ statuses.Success) × (st ≡ statuses.System (faults k.store)) × (k.broken ≡ Some (faults k.store)) × Rose (faults h.store) (faults k.store))).
            ⊎_elim (λ (c : (z : ℕ) × (a.status ≡ statuses.System z) × (st ≡ statuses.System z) × (k.broken ≡ Some z) × (faults k.store ≡ faults h.store)). inr (ap is_system c.2))
            (λ (c : (a.status ≡ statuses.Success) × (st ≡ statuses.System (faults k.store)) × (k.broken ≡ Some (faults k.store)) × Rose (faults h.store) (faults k.store)). inr (ap is_system c.1)) r) turns;
        rooms = λ n e j has_j tells. subst (λ (es : List Entry). room j (take n es) (E (map_after f m (take n es)))) (sym done.seen) (⊎_elim
            (λ (q : j ≡ i). subst (λ (z : ℕ). room z (take n x.caller.seen) (E (records_at s x.caller n))) (sym q) (room_here (take n x.caller.seen) (nested.made n e).1 (sym (ap s.tells q) ∙ tells)))
            (λ (q : (j ≢ i) × (has j (stores_of ps) ≡ true)). nested.rooms n e j q.1 tells) (has_cons j i (stores_of ps) has_j));
        not_made = λ missing. let t = nested.not_made missing in (
          nothing_back x.caller w.caller done.seen done.mine done.allowance t.0,
          subst (λ (es : List Entry). Still f m es v.caller) (sym done.seen) (still_back x.caller.seen t.1),
          (let l = t.2 in let b = base_back in let e = ap (λ (es : List Entry). length es) done.seen in omega arith),
          subst (λ (es : List Entry). MayStop (λ size need limit. NoRoom s over room (i ∷ stores_of ps) es (E (map_after f m es)) size need limit) st) (sym done.seen) (stops missing t.1 t.3),
        );
      }
        where
          told : (p q : ℕ) → statuses.System p ≡ statuses.System q → p ≡ q
          told p q e = cc (e)

          more_room : Still f m x.caller.seen u.caller → (size need limit : ℕ) → NoRoom s over room (stores_of ps) x.caller.seen (E (map_after f m x.caller.seen)) size need limit → NoRoom s over room (i ∷ stores_of ps) x.caller.seen (E (map_after f m x.caller.seen)) size need limit
          more_room st size need limit r = record {
            store = r.store;
            member = has_tail r.store i (stores_of ps) r.member;
            passed = r.passed;
            order = λ j has_j less tells. ⊎_elim (λ (q : j ≡ i). subst (λ (z : ℕ). room z x.caller.seen (E (map_after f m x.caller.seen))) (sym q) (room_here x.caller.seen st (sym (ap s.tells q) ∙ tells)))
                (λ (q : (j ≢ i) × (has j (stores_of ps) ≡ true)). r.order j q.1 less tells) (has_cons j i (stores_of ps) has_j);
          }

          stops_by : (z : Status) → Still f m x.caller.seen u.caller → MayStop (λ size need limit. NoRoom s over room (stores_of ps) x.caller.seen (E (map_after f m x.caller.seen)) size need limit) z → MayStop (λ size need limit. NoRoom s over room (i ∷ stores_of ps) x.caller.seen (E (map_after f m x.caller.seen)) size need limit) z
          stops_by statuses.Success st h = h
          stops_by (statuses.System q) st h = tt
          stops_by statuses.NotImplemented st h = h
          stops_by statuses.Precondition st h = h
          stops_by statuses.InvalidArgument st h = h
          stops_by statuses.NotFound st h = h
          stops_by statuses.Infeasible st h = h
          stops_by statuses.Duplication st h = h
          stops_by (statuses.Broken q) st h = tt
          stops_by statuses.NoMemory st h = tt
          stops_by (statuses.Full size need limit) st h = more_room st size need limit h
          stops_by statuses.Limit st h = h
          stops_by (statuses.TooLong q) st h = h

          stops : a.number ≡ None → Still f m x.caller.seen u.caller → MayStop (λ size need limit. NoRoom s over room (stores_of ps) x.caller.seen (E (map_after f m x.caller.seen)) size need limit) a.status → MayStop (λ size need limit. NoRoom s over room (i ∷ stores_of ps) x.caller.seen (E (map_after f m x.caller.seen)) size need limit) st
          stops missing still halts = ⊎_elim (λ (c : (k.broken ≡ None) × (st ≡ a.status) × (is_system a.status ≡ false)). subst (MayStop (λ size need limit. NoRoom s over room (i ∷ stores_of ps) x.caller.seen (E (map_after f m x.caller.seen)) size need limit)) (sym c.1) (stops_by a.status still halts))
              (λ (r : ((z : ℕ) × (a.status ≡ statuses.System z) × (st ≡ statuses.System z) × (k.broken ≡ Some z) × (faults k.store ≡ faults h.store)) ⊎ ((a.status ≡ statuses.Success) × (st ≡ statuses.System (faults k.store)) × (k.broken ≡ Some (faults k.store)) × Rose (faults h.store) (faults k.store))).
              ⊎_elim (λ (c : (z : ℕ) × (a.status ≡ statuses.System z) × (st ≡ statuses.System z) × (k.broken ≡ Some z) × (faults k.store ≡ faults h.store)). subst (MayStop (λ size need limit. NoRoom s over room (i ∷ stores_of ps) x.caller.seen (E (map_after f m x.caller.seen)) size need limit)) (sym c.2) tt)
              (λ (c : (a.status ≡ statuses.Success) × (st ≡ statuses.System (faults k.store)) × (k.broken ≡ Some (faults k.store)) × Rose (faults h.store) (faults k.store)). subst (MayStop (λ size need limit. NoRoom s over room (i ∷ stores_of ps) x.caller.seen (E (map_after f m x.caller.seen)) size need limit)) (sym c.1) tt) r) turns

-- ---- a call that ends at the first store

pub may_visit : (f : Frame) (i : ℕ) (is : List ℕ) (v : Caller) → Climbs f (i ∷ is) v.held → 0 < v.allowance → MayVisit f i v
may_visit f i is v c a = record { low = c.0; rising = c.1; weighs = omega arith }

pub widened : (s : Setting) (p : Part) (ps : List Part) (v w : View) (st : Status) → Stores s (λ j. j == p.store) v st w → VisitStores s (p ∷ ps) v st w
widened s p ps v w st t = record {
  counts = t.counts;
  marks = t.marks;
  more = t.more;
  found = t.found;
  counts_are = t.counts_are;
  marks_are = t.marks_are;
  broke_is = t.broke_is;
  met_is = t.met_is;
  own = λ j h. ap (λ (b : Bool). b || has j (stores_of ps)) (t.own j h);
  by_status = λ before steady. subst (λ (ms : List (ℕ × Option ℕ)). ByStatus s (t.counts ++ before) ms t.more t.found st) (append-nil t.marks)
      (by_then s p.store t.counts before t.marks [] t.more t.found st (λ j h. eqb-true j p.store (t.own j (or_third (is_some (newest j t.counts)) (is_some (newest j t.marks)) _ (has j t.found) h))) t.by_status);
}

pub since_stores : (s : Setting) (p : Part) (ps : List Part) (q k : ℕ) (v x w : View) → p.seen ≡ Some q → q < k → Visited p.store None (Some k) k k v x w → VisitStores s (p ∷ ps) v (statuses.System k) w
since_stores s p ps q k v x w seen rose t = record {
  counts = (p.store, k) ∷ (p.store, k) ∷ [];
  marks = (p.store, Some k) ∷ (p.store, None) ∷ [];
  more = p.store ∷ [];
  found = [];
  counts_are = t.counts;
  marks_are = t.marks;
  broke_is = t.broke;
  met_is = t.met;
  own = λ j h. ap (λ (b : Bool). b || has j (stores_of ps)) (own_alone p.store j k k (Some k) None true false h);
  by_status = λ before steady. record {
    store = p.store;
    broken = has_head p.store [];
    before = q;
    began = contains_next (p.store, q) (p.store, k) ((p.store, k) ∷ before) (contains_next (p.store, q) (p.store, k) before (subst (SteadyAt before p.store) seen steady.0).1);
    ended = newest_here p.store k ((p.store, k) ∷ before);
    risen = omega arith;
    order = λ j less h. absurd (let e = only j h in omega arith);
    kept = λ j h. subst (λ (z : ℕ). newest z ((p.store, Some k) ∷ (p.store, None) ∷ []) ≡ Some (Some k)) (sym (only j h)) (newest_here p.store (Some k) ((p.store, None) ∷ []));
    none = refl;
  };
}
  where
    only : (j : ℕ) → has j (p.store ∷ []) ≡ true → j ≡ p.store
    only j h = by_bool (j == p.store) (eqb-true j p.store) (λ differs. absurd (not_both (has j (p.store ∷ [])) h (ap (λ (z : Bool). z || false) differs)))

own_still : (f : Frame) (m : List Pair) (v : Caller) → Still f m v.base v
own_still f m v = record { records = λ k r. refl; groups = λ j low t. refl; hard = λ j low t. refl }

-- with all stores that it needs a call may get its number
pub may_number : (s : Setting) (E : List Pair → Entry) (v : Caller) → MayAsk s E [] v → v.live ≡ true → ((i : ℕ) → has (store_lock s.frame i) v.held ≡ true → has i v.out ≡ true) → AllUnbroken s.frame v → MayCommit s.frame (λ m. s.law m ≡ true) s.first (E (map_after s.frame s.first v.base)) v
may_number s E v ask live out unbroken = let covered = ask.covers v.base (own_still s.frame s.first v) v.held ((λ l t. t), (λ i h. absurd (cc (h)))) in record {
  live = live;
  allowance = ask.allowance;
  fits = ask.legal v.base (own_still s.frame s.first v);
  keeps = ask.keeps v.base (own_still s.frame s.first v);
  reads = covered.reads;
  writes = covered.writes;
  out = λ i low c. let h = covered.stores i low c in (out i h, unbroken i h);
}

pub none_left : (ps : List Part) → length ps ≡ 0 → ps ≡ []
none_left [] e = refl
none_left (p ∷ ps) e = absurd (omega arith)

-- no store is left to be full
pub relabelled : (s : Setting) (over over' : ℕ → List Entry → Entry → ℕ → ℕ → ℕ → Type 0) (room room' : ℕ → List Entry → Entry → Type 0) (E : List Pair → Entry) (v : View) (a : Answer) (w : View) → Visits s over room E [] v a w → Visits s over' room' E [] v a w
relabelled s over over' room room' E v a w t = record {
  stores = t.stores;
  base = t.base;
  risen = t.risen;
  made = t.made;
  ended = t.ended;
  rooms = λ n e i h. absurd (cc (h));
  not_made = λ e. let z = t.not_made e in (z.0, z.1, z.2, stops a.status z.3);
}
  where
    stops : (st : Status) → MayStop (λ size need limit. NoRoom s over room [] w.caller.seen (E (map_after s.frame s.first w.caller.seen)) size need limit) st → MayStop (λ size need limit. NoRoom s over' room' [] w.caller.seen (E (map_after s.frame s.first w.caller.seen)) size need limit) st
    stops statuses.Success h = h
    stops (statuses.System q) h = tt
    stops statuses.NotImplemented h = h
    stops statuses.Precondition h = h
    stops statuses.InvalidArgument h = h
    stops statuses.NotFound h = h
    stops statuses.Infeasible h = h
    stops statuses.Duplication h = h
    stops (statuses.Broken q) h = tt
    stops statuses.NoMemory h = tt
    stops (statuses.Full size need limit) h = absurd (let z = h.member in cc (z))
    stops statuses.Limit h = h
    stops (statuses.TooLong q) h = h

pub sum_more : (work : Work) (sum own rest mid r : ℕ) → IsSum work sum own mid → IsSum work mid rest r → IsSum work sum (own + rest) r
sum_more Count sum own rest mid r a b = omega arith
sum_more (Sync hard) sum own rest mid r a b = tt
sum_more Changing sum own rest mid r a b = tt
sum_more Keeping sum own rest mid r a b = tt

-- what is counted in a store is what the work counts
pub sum_at : (work : Work) (cs : List Change) (sum own mid : ℕ) → IsSum (work_at work cs) sum own mid → IsSum work sum own mid
sum_at Count cs sum own mid h = h
sum_at (Sync hard) cs sum own mid h = tt
sum_at Changing cs sum own mid h = tt
sum_at Keeping cs sum own mid h = tt

module _ {T : Type 0} (law : List Pair → Bool) (stands : T → First → List Group → ℕ → Type 0) (store_view : T → StoreView) (constants : T → StoreConstants) (faults : T → ℕ) (g : Ground T) (writable : Bool)
    (p : Part) (v u : View) (h : Home T) (visit : MayVisit g.frame p.store v.caller) (got : TakesStore law stands store_view constants faults g p.store v h u) where
  abbrev s2 : Setting
  s2 = setting_of law store_view faults g writable

  abbrev m2 : List Pair
  m2 = records_in g.frame.order store_view g.start

  pub stopped_at : (over : ℕ → List Entry → Entry → ℕ → ℕ → ℕ → Type 0) (room : ℕ → List Entry → Entry → Type 0) (E : List Pair → Entry) (ps : List Part) (a : Answer) (st : Status) (h2 : Home T) (w : View) → a ≡ record { status = st; number = None } → v.caller.breaking ≡ [] → (gave : GaveUp law stands store_view constants faults g p.store u h2 w)
      → VisitStores s2 (p ∷ ps) v st w → ((k : ℕ) → st ≡ statuses.System k → Risen g.frame (count_at faults g.start) k) → MayStop (λ size need limit. NoRoom s2 over room (stores_of (p ∷ ps)) gave.0 (E (map_after g.frame m2 gave.0)) size need limit) st → Visits s2 over room E (p ∷ ps) v a w
  stopped_at over room E ps a st h2 w is calm gave stores risen cause = let t = gave_up_done law stands store_view constants faults g writable p.store v u h visit got h2 w calm gave in
      subst (λ (z : Answer). Visits s2 over room E (p ∷ ps) v z w) (sym is) (record {
        stores = stores;
        base = t.base ∙ sym t.seen;
        risen = risen;
        made = λ n q. absurd (cc (q));
        ended = λ n q. absurd (cc (q));
        rooms = λ n q. absurd (cc (q));
        not_made = λ _. (
          gave_up_nothing law stands store_view constants faults g writable p.store v u h visit got h2 w calm gave,
          subst (λ (es : List Entry). Still g.frame m2 es v.caller) (sym t.seen) (still_back law stands store_view constants faults g writable p v u h got gave.0 gave.1.still),
          (let l = prefix_length u.caller.base gave.0 gave.1.base in let b = base_back law stands store_view constants faults g writable p v u h got in let e = ap (λ (es : List Entry). length es) t.seen in omega arith),
          subst (λ (es : List Entry). MayStop (λ size need limit. NoRoom s2 over room (stores_of (p ∷ ps)) es (E (map_after g.frame m2 es)) size need limit) st) (sym t.seen) cause,
        );
      })

  -- the store, as it was taken, may be so after this history
  is_after : h.broken ≡ None → (log : List Entry) → Still g.frame m2 log u.caller → IsAfter stands store_view constants g p.store log h.store
  is_after whole log st = let at = holds law stands store_view constants faults g writable p.store v u h visit got in
      subst (λ (q : List Group × ℕ). good_of stands store_view constants g p.store h.store q.0 q.1) (λ t. (st.groups p.store visit.low at t, st.hard p.store visit.low at t)) (got.3 whole)

  pub room_by : (work : Work) (E : List Pair → Entry) {U : Type 0} (r : Result U StoreError) (z : U) → r ≡ Ok z → TellsFullBy (work_at work p.changes) (constants h.store) (store_view h.store) p.changes r → h.broken ≡ None → IsFit s2 work E v p → (log : List Entry) → Still g.frame m2 log u.caller → s2.tells p.store ≡ true
      → RoomBy stands store_view constants g work p.store log (E (map_after g.frame m2 log))
  room_by work E {U} r z is full whole fits log st tells = go work p.changes told_here (subst (TellsFullBy (work_at work p.changes) (constants h.store) (store_view h.store) p.changes) is full)
    where
      told_here : p.changes ≡ changes_on stands store_view constants g log (E (map_after g.frame m2 log)) p.store
      told_here = fits.told log (still_back law stands store_view constants faults g writable p v u h got log st) tells

      room : (cs : List Change) → cs ≡ changes_on stands store_view constants g log (E (map_after g.frame m2 log)) p.store → HasRoom (constants h.store) (store_view h.store) cs → HasRoomAt stands store_view constants g log (E (map_after g.frame m2 log)) p.store
      room cs told r = (h.store, is_after whole log st, subst (HasRoom (constants h.store) (store_view h.store)) told r)

      go : (k : Work) (cs : List Change) → cs ≡ changes_on stands store_view constants g log (E (map_after g.frame m2 log)) p.store → TellsFullBy (work_at k cs) (constants h.store) (store_view h.store) cs (Ok z) → RoomBy stands store_view constants g k p.store log (E (map_after g.frame m2 log))
      go Count cs told t = tt
      go (Sync true) cs told t = room cs told t
      go (Sync false) cs told t = tt
      go Changing [] told t = λ any. absurd (any (sym told))
      go Changing (c ∷ cs) told t = λ any. room (c ∷ cs) told t
      go Keeping cs told t = tt

  pub over_by : (work : Work) (E : List Pair → Entry) {U : Type 0} (r : Result U StoreError) (size need limit : ℕ) → r ≡ Err (errors.Full size need limit) → TellsFullBy (work_at work p.changes) (constants h.store) (store_view h.store) p.changes r → h.broken ≡ None → IsFit s2 work E v p → (log : List Entry) → Still g.frame m2 log u.caller → s2.tells p.store ≡ true
      → OverBy stands store_view constants g work p.store log (E (map_after g.frame m2 log)) size need limit
  over_by work E {U} r size need limit is full whole fits log st tells = go work p.changes told_here (subst (TellsFullBy (work_at work p.changes) (constants h.store) (store_view h.store) p.changes) is full)
    where
      told_here : p.changes ≡ changes_on stands store_view constants g log (E (map_after g.frame m2 log)) p.store
      told_here = fits.told log (still_back law stands store_view constants faults g writable p v u h got log st) tells

      over : (cs : List Change) → cs ≡ changes_on stands store_view constants g log (E (map_after g.frame m2 log)) p.store → (PassesLimit (constants h.store) (store_view h.store) cs size need limit ⊎ PassesLog (constants h.store).log (store_view h.store).log_size cs size need limit)
          → IsOver stands store_view constants g log (E (map_after g.frame m2 log)) p.store size need limit
      over cs told r = (h.store, is_after whole log st, subst (λ (ds : List Change). PassesLimit (constants h.store) (store_view h.store) ds size need limit ⊎ PassesLog (constants h.store).log (store_view h.store).log_size ds size need limit) told r)

      some : (c : Change) (cs : List Change) → c ∷ cs ≡ changes_on stands store_view constants g log (E (map_after g.frame m2 log)) p.store → changes_on stands store_view constants g log (E (map_after g.frame m2 log)) p.store ≢ []
      some c cs told none = let e = told ∙ none in cc (e)

      go : (k : Work) (cs : List Change) → cs ≡ changes_on stands store_view constants g log (E (map_after g.frame m2 log)) p.store → TellsFullBy {U = U} (work_at k cs) (constants h.store) (store_view h.store) cs (Err (errors.Full size need limit)) → OverBy stands store_view constants g k p.store log (E (map_after g.frame m2 log)) size need limit
      go Count cs told t = absurd t
      go (Sync true) cs told t = over cs told t
      go (Sync false) cs told t = absurd t
      go Changing [] told t = absurd t
      go Changing (c ∷ cs) told t = (some c cs told, over (c ∷ cs) told t)
      go Keeping cs told t = absurd t

  -- the records of the store are the same after this history
  pub same_shard : (log : List Entry) → Still g.frame m2 log u.caller → Rising g.frame.order m2 → shard_records (shard g.frame p.store) (map_after g.frame m2 u.caller.base) ≡ shard_records (shard g.frame p.store) (map_after g.frame m2 log)
  same_shard log st rising = let at = holds law stands store_view constants faults g writable p.store v u h visit got in
      sym (parts_reach g.frame.order (shard g.frame p.store) g.frame.base m2 u.caller.base rising) ∙ ap (λ (gs : List Group). replay g.frame.order gs (shard_records (shard g.frame p.store) m2)) (st.groups p.store visit.low at) ∙ parts_reach g.frame.order (shard g.frame p.store) g.frame.base m2 log rising
