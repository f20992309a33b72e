-- What a table that was dissolved says of a database that is closed.
use Rattle.std.proofs.Common.{◌≡◌, ◌≢◌, ◌&&◌, ◌||◌, ℕ, ◌+◌, ◌≤◌, Bool, true, cond, leb, leb-true, List, [], ◌∷◌, ◌++◌, length, None, is_some, sym, ap, ◌∙◌, subst, arith}
use Rattle.std.proofs.lemmas.Option.{same_Some}
use mathlib.Core.Option.{some-injective}
use Rattle.tk_status.specs.declared.Status.{Status}
use Rattle.tk_model.specs.Counts.{capped, Rose}
use Rattle.tk_model.specs.declared.record.Pair.{Pair}
use Rattle.tk_model.specs.declared.record.Group.{Group}
use Rattle.tk_model.specs.declared.record.Entry.{Entry}
use Rattle.tk_store.specs.Store.{First, StoreView, StoreConstants, groups_made_by, ended_by}
use Rattle.tk_core.proofs.Facts.{by_test, by_bool, inside}
use Rattle.tk_locks.specs.declared.home.Home.{Home}
use Rattle.tk_locks.specs.View.{View, Under, of_store}
use Rattle.tk_locks.specs.Rule.{Ground, records_in, count_at, good_of, next_fits, IsGood}
use Rattle.tk_locks.specs.Made.{IsLeft}
use Rattle.tk_locks.specs.Tells.{Finds}
use Rattle.tk_locks.proofs.Whole.{there}
use Rattle.tk_dbm.specs.Setting.{has_risen}
use Rattle.tk_dbm.specs.Fates.{Fate, Spoilt, Ended, Faulted, Wanted}
use Rattle.tk_dbm.specs.Ending.{AllMayEnd, Shuts, Ends, AllEnd, EndsAll}
use Rattle.tk_dbm.specs.Closing.{groups_in, safe_in, next_after, IsShut, HasFate, CameBack, IsClosed}
use Rattle.tk_dbm.proofs.Fates.{to_elem, to_slice, all_may, end_long, end_at, spoilt_is, later_is}

-- a count that was seen above the first one is not above that of now
risen_under : (begun j n : ℕ) (cs : List (ℕ × ℕ)) → Under (λ _. n) (of_store j cs) → has_risen begun j cs ≡ true → Rose begun n
risen_under begun j n [] u e = absurd (cc (e))
risen_under begun j n (c ∷ cs) u e = by_test c.0 j (λ b. ((b && leb (capped (begun + 1)) c.1) || has_risen begun j cs) ≡ true → Rose begun n)
    (λ same z. let here = at_head same in by_bool (leb (capped (begun + 1)) c.1) (λ t. let low = leb-true (capped (begun + 1)) c.1 t in let q = here.0 in omega arith) (λ t. risen_under begun j n cs here.1 (sym (ap (λ b. b || has_risen begun j cs) t) ∙ z)))
    (λ other z. risen_under begun j n cs (behind other) z) e
  where
    at_head : c.0 ≡ j → (c.1 ≤ n) × Under (λ _. n) (of_store j cs)
    at_head same = by_test j c.0 (λ b. Under (λ _. n) (cond b (c ∷ of_store j cs) (of_store j cs)) → (c.1 ≤ n) × Under (λ _. n) (of_store j cs)) (λ _ w. w) (λ other w. absurd (other (sym same))) u

    behind : c.0 ≢ j → Under (λ _. n) (of_store j cs)
    behind other = by_test j c.0 (λ b. Under (λ _. n) (cond b (c ∷ of_store j cs) (of_store j cs)) → Under (λ _. n) (of_store j cs)) (λ same w. absurd (other (sym same))) (λ _ w. w) u

under_later : (a b : ℕ) (cs : List (ℕ × ℕ)) → a ≤ b → Under (λ _. a) cs → Under (λ _. b) cs
under_later a b [] less u = tt
under_later a b (c ∷ cs) less u = (let h = u.0 in omega arith, under_later a b cs less u.1)

module _ {T : Type 0} (law : List Pair → Bool) (stands : T → First → List Group → ℕ → Type 0) (store_view : T → StoreView) (constants : T → StoreConstants) (faults : T → ℕ) (g : Ground T) where
  abbrev owes : List Entry → ℕ → List Group
  owes log i = groups_in law stands store_view constants faults g log i

  abbrev next : List Entry → ℕ
  next log = next_after law stands store_view constants faults g log

  abbrev Left : View → List Entry → ℕ → Home T → Type 0
  Left v log i h = IsLeft g.frame (records_in g.frame.order store_view g.start) (good_of stands store_view constants g) (next_fits store_view constants g) faults (count_at faults g.start) v log i h

  abbrev Came : Home T → List Entry → Fate → T → Type 0
  Came h log e y = Ends stands store_view constants faults (next log) h e y

  is_good : (v : View) (log : List Entry) (i : ℕ) (h : Home T) → Left v log i h → h.broken ≡ None → IsGood stands store_view constants g.start i h.store (owes log i) (safe_in law stands store_view constants faults g log i)
  unfolding good_of
  is_good v log i h left sound = left.stands sound

  pub may_end_all : (v : View) (n : ℕ) (hs : List (Home T)) → Finds law stands store_view constants faults g v n hs → AllMayEnd stands store_view constants (g.frame.base + n) hs
  may_end_all v n hs end = all_may stands store_view constants (g.frame.base + n) hs (λ k h at sound.
      let p = there end.places k (let a = inside hs k h at in let long = end.each_placed in omega arith) in let left = end.each k p.0 h p.1 at in let good = is_good v end.log p.0 h left sound in record {
        whole = good.whole;
        unclosed = good.unclosed;
        number = λ w. let low = left.follows sound w in let c = end.calls_are in omega arith;
      })

  shut : (v : View) (log : List Entry) (i : ℕ) (h : Home T) (y : T) → Left v log i h → h.broken ≡ None → Shuts stands store_view constants faults (next log) h.store y → IsShut law stands store_view constants faults g i y
  shut v log i h y left sound s = let good = is_good v log i h left sound in record {
    closed = s.closed;
    same = λ d at. s.same ∙ (good.natured d at).0;
    tells = λ d at. s.tells ∙ (good.natured d at).1;
  }

  fared : (v : View) (log : List Entry) (i : ℕ) (h : Home T) (e : Fate) (y : T) → Left v log i h → Came h log e y → HasFate law stands store_view constants faults g log v i e y
  fared v log i h (Spoilt kept) y left a = left.risen kept a.0
  fared v log i h Ended y left (sound, (s, settles, ended)) =
      let good = is_good v log i h left sound in let w = good.whole in let marks : StoreConstants → List Group = λ c. groups_made_by c (next log) [] in record {
        shut = shut v log i h y left sound s;
        stands_now = λ told first b. let t = good.stands_now (sym s.tells ∙ told) first b in
            subst (λ (c : StoreConstants). stands y first (owes log i ++ marks c) (length (owes log i ++ marks c))) (sym s.same) (settles first (owes log i) t.0 t.2);
        whole = (w.0, w.1 ++ marks (constants h.store), settles w.0 w.1 w.2 w.3);
        ended = ended ∙ ap (λ (c : StoreConstants). ended_by c (next log)) (sym s.same);
      }
  fared v log i h (Faulted n) y left (sound, (s, higher, told, ended)) = record {
    shut = shut v log i h y left sound s;
    before = faults h.store;
    since = left.since;
    counts = left.counts;
    risen = subst (λ (k : ℕ). Rose (faults h.store) k) told higher;
    told = told;
    ended = ended;
  }
  fared v log i h Wanted y left (sound, (s, keeps, ended)) =
      let good = is_good v log i h left sound in let w = good.whole in record {
        shut = shut v log i h y left sound s;
        stands_now = λ told first b. let t = good.stands_now (sym s.tells ∙ told) first b in (t.0, t.1, keeps first (owes log i) t.0 t.2);
        whole = (w.0, w.1, w.2, keeps w.0 w.1 w.2 w.3);
        ended = ended;
      }

  came : (v : View) (log : List Entry) (i : ℕ) (h : Home T) (e : Fate) (y : T) → Left v log i h → Came h log e y → CameBack law stands store_view constants faults g log v i e y
  came v log i h e y left a =
      let later = later_is stands store_view constants faults (next log) h e y a in
      let counts : Under (λ _. faults y) (of_store i v.counts) = under_later (faults h.store) (faults y) (of_store i v.counts) later left.counts in record {
        low = left.low;
        fate_is = fared v log i h e y left a;
        met = λ hit. sym (spoilt_is stands store_view constants faults (next log) h e y a) ∙ left.met hit;
        since = let s = left.since in omega arith;
        counts = counts;
        risen = λ r. risen_under (count_at faults g.start i) i (faults y) v.counts counts r;
      }

  pub closes : (v : View) (n : ℕ) (hs : List (Home T)) (ys : List T) (status : Status) → Finds law stands store_view constants faults g v n hs → EndsAll stands store_view constants faults (g.frame.base + n) hs ys status → IsClosed law stands store_view constants faults g v (record { status = status; stores = ys; calls = n })
  closes v n hs ys status end (fs, went, is) =
      let n' : ℕ = next end.log in
      let a : AllEnd stands store_view constants faults n' hs fs ys = subst (λ (k : ℕ). AllEnd stands store_view constants faults (g.frame.base + k) hs fs ys) end.calls_are went in
      let long = end_long stands store_view constants faults n' hs fs ys a in record {
        log = end.log;
        calls = end.calls_are;
        few = end.few;
        lawful = end.lawful;
        seen = end.seen;
        placed = end.placed;
        places = end.places;
        fs = fs;
        long = (end.each_placed ∙ sym long.1, long.0 ∙ sym long.1);
        rising = λ p q i j less x y. end.rising p q i j less (to_elem end.places p i x) (to_elem end.places q j y);
        each = λ k i e y p f at. let t = end_at stands store_view constants faults n' hs fs ys a k e f in
            came v end.log i t.0 e y (end.each k i t.0 (to_elem end.places k i p) t.2) (subst (λ (z : T). Came t.0 end.log e z) (same_Some t.1 y (sym t.3 ∙ at)) t.4);
        status = is;
        whole = λ heavy. let w = end.whole heavy in record {
          once = w.numbers;
          all = w.all;
          long = end.each_placed ∙ w.long;
          there = λ i low. to_slice end.places i i (w.there i low);
          broke = λ i e f. let t = end_at stands store_view constants faults n' hs fs ys a i e f in
              let b = w.broke i (let low = inside hs i t.0 t.2 in let q = w.long in omega arith) in
              b.2 ∙ ap (λ (z : Bool). cond z 1 0) (ap (λ (z : Home T). is_some z.broken) (some-injective b.0 t.0 (sym b.1 ∙ t.2)) ∙ spoilt_is stands store_view constants faults n' t.0 e t.1 t.4);
        };
      }
