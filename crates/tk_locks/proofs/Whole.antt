-- The rule at the start, and what it says at the end.
use Rattle.std.proofs.Common.{◌≡◌, ℕ, zero, suc, ◌+◌, ◌<◌, Bool, true, false, cond, List, [], ◌∷◌, length, map, replicate, get_or, refl, sym, ap, ◌∙◌, subst, arith, Option, Some, None, is_some}
use mathlib.Core.List.{IsPrefix}
use Rattle.std.proofs.lemmas.List.{length-replicate}
use mathlib.Core.Option.{some, some-injective, some-ne-none}
use lib.ListN.{get_elem?}
use Rattle.atomic_table.specs.Table.{State, opening, Final, Seen}
use Rattle.atomic_table.proofs.Lists.{at_map}
use Rattle.tk_model.specs.declared.record.Pair.{Pair}
use Rattle.tk_model.specs.declared.record.Group.{Group}
use Rattle.tk_store.specs.Store.{First, StoreView, StoreConstants}
use Rattle.tk_core.specs.declared.frame.Frame.{Frame}
use Rattle.tk_core.specs.Caller.{Caller}
use Rattle.tk_core.specs.Covers.{IsFrame, store_lock}
use Rattle.tk_core.specs.Steps.{first_caller}
use Rattle.tk_core.proofs.Runs.{starts}
use Rattle.tk_core.proofs.Stores.{stands_anew}
use Rattle.tk_core.proofs.Programs.{all_same}
use Rattle.tk_core.proofs.Halves.{knows_all}
use Rattle.tk_core.proofs.Facts.{total_sum}
use Rattle.tk_locks.specs.declared.home.Home.{Home}
use Rattle.tk_locks.specs.View.{View, first_view}
use Rattle.tk_locks.specs.Rule.{mark, callers_of, Ground, records_in, count_at, good_of, Standing, Counts, RuleOf, Rule}
use Rattle.tk_locks.specs.Homes.{at_home}
use Rattle.tk_locks.specs.Made.{Fresh, IsLeft, AtEnd}
use Rattle.tk_locks.proofs.Facts.{under_store}
use Rattle.tk_locks.proofs.Homes.{found_home, all_home, gather, gather_long, gather_free, gather_held, places_from, places_long, placed_home, places_rise, places_all}

pub there : {A : Type 0} (xs : List A) (i : ℕ) → i < length xs → (x : A) × (get_elem? xs i ≡ some x)
there [] i h = absurd (omega arith)
there (x ∷ xs) zero h = (x, refl)
there (x ∷ xs) (suc i) h = there xs i (omega arith)

length_map : {A B : Type 0} (f : A → B) (xs : List A) → length (map f xs) ≡ length xs
length_map f [] = refl
length_map f (x ∷ xs) = ap suc (length_map f xs)

only : (P : ℕ → View → Type 0) → ((j : ℕ) → P j first_view) → (j : ℕ) (v : View) → get_elem? (first_view ∷ []) j ≡ some v → P j v
only P p zero v e = subst (P 0) (some-injective first_view v e) (p 0)
only P p (suc j) v e = absurd (some-ne-none v (sym e))

module _ {T : Type 0} (law : List Pair → Bool) (stands : T → First → List Group → ℕ → Type 0) (store_view : T → StoreView) (constants : T → StoreConstants) (faults : T → ℕ) where
  counted : (xs : List (Option (Home T))) (i : ℕ) (h : Home T) → get_elem? xs i ≡ some (Some h) → count_at faults xs i ≡ faults h.store
  counted [] i h e = absurd (some-ne-none (Some h) (sym e))
  counted (None ∷ xs) zero h e = absurd (cc (e))
  counted (Some x ∷ xs) zero h e = let same : Some x ≡ Some h = some-injective (Some x) (Some h) e in let q : x ≡ h = cc (same) in ap (λ (z : Home T). faults z.store) q
  counted (None ∷ xs) (suc i) h e = counted xs i h e
  counted (Some x ∷ xs) (suc i) h e = counted xs i h e

  began_same : (start : List (Option (Home T))) (i : ℕ) (h d : Home T) → get_elem? start i ≡ some (Some h) → get_elem? start i ≡ some (Some d) → h ≡ d
  began_same start i h d a b = let e : Some h ≡ Some d = some-injective (Some h) (Some d) (sym a ∙ b) in cc (e)

  first_good : (g : Ground T) → Fresh law stands store_view constants g.frame g.start → (i : ℕ) → i < g.frame.stores → (h : Home T) → get_elem? (map some g.start) i ≡ some (some (Some h)) → good_of stands store_view constants g i h.store [] 0
  unfolding good_of
  first_good g fresh i low h e =
      let x = there g.start i (let z = fresh.long in omega arith) in let y = fresh.there i x.0 x.1 in
      let p : some x.0 ≡ some (Some h) = some-injective (some x.0) (some (Some h)) (sym (at_map some g.start i x.0 x.1) ∙ e) in
      let q : x.0 ≡ Some h = some-injective x.0 (Some h) p in
      let here : get_elem? g.start i ≡ some (Some h) = x.1 ∙ ap some q in
      let same : y.0 ≡ h = began_same g.start i y.0 h (x.1 ∙ ap some y.1) here in
      record {
        stands_now = λ told first b. (0, (omega arith), subst (λ (z : Home T). stands z.store first [] 0) (began_same g.start i b.0 h b.1 here) b.2);
        whole = (y.5.0, [], 0, subst (λ (z : Home T). stands z.store y.5.0 [] 0) same y.5.1);
        natured = λ d at. (ap (λ (z : Home T). constants z.store) (began_same g.start i h d here at), ap (λ (z : Home T). is_some (store_view z.store).map) (began_same g.start i h d here at));
        unclosed = ap (λ (z : Home T). (store_view z.store).closed) (sym same) ∙ y.3;
      }

  pub opens : (g : Ground T) (words : List ℕ) → words ≡ replicate (g.frame.stripes + g.frame.stores + 1) 0 → IsFrame g.frame → Fresh law stands store_view constants g.frame g.start → Rule law stands store_view constants faults g (opening words g.start first_view)
  opens g words is frame fresh = let f : Frame = g.frame in let m : List Pair = records_in f.order store_view g.start in let xs : List (Option (Home T)) = g.start in record {
    log = [];
    owner = λ _. 0;
    spoilt = λ _. false;
    kept = λ _. None;
    broken_is = λ i. refl;
    risen = λ i n e. absurd (cc (e));
    away = λ _. false;
    floor = count_at faults xs;
    sound = stands_anew f (λ n. law n ≡ true) m [] (λ _. 0) (λ _. false) (λ _. false) (λ i gs n. true ≡ true) (Standing (good_of stands store_view constants g) (map some xs)) (first_caller ∷ [])
        (starts f law m (λ i gs n. true) frame (record { rising = fresh.rising; lawful = fresh.lawful; empty = λ i low. refl }))
        (λ i low _ _ h e. first_good g fresh i low h e);
    shows = record {
      wide = ap length is ∙ length-replicate (f.stripes + f.stores + 1) 0;
      slots = length_map some xs ∙ fresh.long;
      count = ap (λ l. get_or l 0 0) is ∙ all_same (f.stripes + f.stores + 1) 0 0;
      flags = λ l _. ap (λ w. get_or w (l + 1) 0) is ∙ all_same (f.stripes + f.stores + 1) (l + 1) 0;
      home = λ i low _. let x = there xs i (let z = fresh.long in omega arith) in let y = fresh.there i x.0 x.1 in
          (y.0, at_map some xs i x.0 x.1 ∙ ap (λ (z : Option (Home T)). some (some z)) y.1, y.2, (let z = counted xs i y.0 (x.1 ∙ ap some y.1) in omega arith), λ _ w. (let z = y.4 w in omega arith));
      out = λ i low a. absurd (cc (a));
    };
    since = λ i. omega arith;
    counts = only (Counts f (λ _. 0) (count_at faults xs) (λ _. None)) (λ j. record { under = tt; own = λ i o. absurd (omega arith); mark = λ i o. absurd (omega arith) });
    other = only (λ j v. IsPrefix v.other []) (λ j. ([], refl));
  }

not_owned : (o : ℕ) → mark o ≡ 0 → o ≡ 0
not_owned zero e = refl
not_owned (suc o) e = absurd (omega arith)

module _ (T : Type 0) (law : List Pair → Type 0) (m : List Pair) (good : ℕ → T → List Group → ℕ → Type 0) (next : T → ℕ → Type 0) (faults : T → ℕ) (begun : ℕ → ℕ) (f : Frame) where
  abbrev Slot : Type 0
  Slot = Option (Home T)

  abbrev Kept : State Slot View → Type 0
  Kept = RuleOf law m good next faults begun f

  -- a store whose lock is free
  lies : (s : State Slot View) (r : Kept s) (id : ℕ) (v : View) → get_elem? s.views id ≡ some v → (i : ℕ) → i < f.stores → r.owner (store_lock f i) ≡ 0 → (h : Home T) × (get_elem? s.homes i ≡ some (some (Some h))) × IsLeft f m good next faults begun v r.log i h
  lies s r id v at i low free =
      let u = r.shows.home i low free in let bad : is_some u.0.broken ≡ r.spoilt i = ap is_some u.2 ∙ r.broken_is i in
      let k = r.sound.knows id v.caller (at_map (λ (x : View). x.caller) s.views id v at) in (
        u.0,
        u.1,
        record {
          low = low;
          stands = λ whole. r.sound.stores i low (sym bad ∙ ap is_some whole) (r.sound.home i free) u.0 u.1;
          follows = u.4;
          risen = λ n e. r.risen i n (sym u.2 ∙ e);
          met = λ hit. bad ∙ k.met i hit;
          since = let a = r.since i in let b = u.3 in omega arith;
          counts = under_store r.floor i (faults u.0.store) v.counts u.3 (r.counts id v at).under;
        },
      )

  -- the last state, seen by who holds no lock
  pub ends : (id : ℕ) (v : View) (words : List ℕ) (xs : List Slot) → Final (Seen Kept id v) words xs → v.caller.held ≡ []
      → AtEnd f law m good next faults begun v (get_or words 0 0) (at_home (gather (λ q. get_or words (store_lock f q + 1) 0) 0 xs))
  ends id v words xs (s, seen, same_words, long, homes) idle =
      let r = seen.0 in let at : get_elem? (callers_of s.views) id ≡ some v.caller = at_map (λ (u : View). u.caller) s.views id v seen.1 in
      let k = r.sound.knows id v.caller at in
      let w : ℕ → ℕ = λ q. get_or words (store_lock f q + 1) 0 in let ys : List Slot = gather w 0 xs in
      let count : length ys ≡ f.stores = gather_long w 0 xs ∙ sym long ∙ r.shows.slots in
      let flag : (i : ℕ) → i < f.stores → w (0 + i) ≡ mark (r.owner (store_lock f i)) = λ i low. let q : 0 + i ≡ i = omega arith in ap w q ∙ ap (λ ws. get_or ws (store_lock f i + 1) 0) (sym same_words) ∙ r.shows.flags (store_lock f i) (omega arith) in
      let here : (i : ℕ) → i < f.stores → r.owner (store_lock f i) ≡ 0 → (h : Home T) × (get_elem? ys i ≡ some (Some h)) × IsLeft f m good next faults begun v r.log i h = λ i low free. let u = lies s r id v seen.1 i low free in
      (u.0, gather_free w 0 xs i (flag i low ∙ ap mark free) ∙ homes i (Some u.0) u.1, u.2) in
      let each : (i : ℕ) (h : Home T) → i < f.stores → get_elem? ys i ≡ some (Some h) → IsLeft f m good next faults begun v r.log i h = λ i h low e.
      let u = here i low (not_owned (r.owner (store_lock f i)) (sym (flag i low) ∙ gather_held w 0 xs i h e)) in
      let same : u.0 ≡ h = (let z : Some u.0 ≡ Some h = some-injective (Some u.0) (Some h) (sym u.1 ∙ e) in cc (z)) in subst (λ (z : Home T). IsLeft f m good next faults begun v r.log i z) same u.2 in
      record {
        log = r.log;
        lawful = r.sound.history;
        calls_are = ap (λ ws. get_or ws 0 0) (sym same_words) ∙ r.shows.count;
        few = let a = total_sum (λ (u : Caller). u.allowance) (λ (u : Caller). length u.mine) (callers_of s.views) in let b = r.sound.made in let d = r.sound.weights in
            let e = ap (λ ws. get_or ws 0 0) (sym same_words) in let n = r.shows.count in omega arith;
        seen = k.seen;
        placed = k.placed;
        places = places_from 0 ys;
        each_placed = places_long 0 ys;
        rising = places_rise ys 0;
        each = λ q i h p e. let t = placed_home ys 0 q i h p e in let same : t.0 ≡ i = (let z = t.1 in omega arith) in
            each i h (let z = t.2 in omega arith) (ap (get_elem? ys) (sym same) ∙ t.3);
        whole = λ heavy.
            let all = knows_all f law m r.log r.owner r.spoilt r.away (Standing good s.homes) (callers_of s.views) r.sound id v.caller at heavy idle in
            let there_all : (i : ℕ) → i < length ys → (h : Home T) × (get_elem? ys i ≡ some (Some h)) = λ i low. let u = here i (omega arith) (all.0 (store_lock f i)) in (u.0, u.1) in
            record {
              numbers = all.1;
              all = all.3;
              long = all_home ys there_all ∙ count;
              there = λ i low. let q : 0 + i ≡ i = omega arith in places_all ys there_all 0 i (omega arith) ∙ ap some q;
              broke = λ i low. let u = r.shows.home i low (all.0 (store_lock f i)) in let bad : is_some u.0.broken ≡ r.spoilt i = ap is_some u.2 ∙ r.broken_is i in (
                u.0,
                found_home ys there_all i u.0 (gather_free w 0 xs i (flag i low ∙ ap mark (all.0 (store_lock f i))) ∙ homes i (Some u.0) u.1),
                all.2 i ∙ ap (λ (b : Bool). cond b 1 0) (sym bad),
              );
            };
      }
