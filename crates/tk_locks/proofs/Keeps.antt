-- Each step of the table is a move of the core.
use Rattle.std.proofs.Common.{◌≡◌, ◌≢◌, ◌&&◌, ℕ, zero, suc, ◌+◌, ◌-◌, ◌%◌, ◌^◌, ◌<◌, ◌≤◌, Bool, true, false, cond, eqb, List, [], ◌∷◌, ◌++◌, length, ltb, set, get_or, refl, sym, ap, ◌∙◌, subst, ⊎_elim, arith, length-append, length-set, get_or-set_same, get_or-set_other, Option, Some, None, is_some}
use mathlib.Core.List.{IsPrefix}
use mathlib.Core.Logic.{dite}
use native.Mathlib.Decide.{ℕ_discrete}
use mathlib.Core.Option.{some, none, some-injective, some-ne-none}
use mathlib.Core.Option as maybe
use lib.ListN.{get_elem?}
use lib.Seq.{set-get_or}
use prog.Atomic.{either}
use Rattle.atomic_table.specs.Table.{State, Me, step, Act, Valid, carried_after, homes_after, keeps, takes, gives, rest, stepped, Allows, Splits, Joins}
use Rattle.atomic_table.proofs.Lists.{exchanged, at_map, at_set, at_snoc, set_here, set_else, set_again}
use Rattle.tk_model.specs.declared.record.Pair.{Pair}
use Rattle.tk_model.specs.declared.record.Group.{Group}
use Rattle.tk_model.specs.declared.record.Entry.{Entry}
use Rattle.tk_store.specs.Store.{First, StoreView, StoreConstants}
use Rattle.tk_core.specs.declared.frame.Frame.{Frame}
use Rattle.tk_core.specs.Caller.{Caller, weight}
use Rattle.tk_core.specs.Covers.{store_lock}
use Rattle.tk_core.specs.Lists.{has, put, total}
use Rattle.tk_core.specs.Rule.{Sound, groups_of, hard_groups}
use Rattle.tk_core.specs.Moves.{took_stripe, took_store, missed, committed, looked, took_out, put_back, gave_stripe, gave_store, kept_half, new_half, joined, spent}
use Rattle.tk_core.specs.Needs.{MayCommit, MayTakeOut, MayGiveStripe, MayGiveStore, IsIdle}
use Rattle.tk_core.proofs.Locks as locks
use Rattle.tk_core.proofs.Stores as stores
use Rattle.tk_core.proofs.Commits as calls
use Rattle.tk_core.proofs.Knows as known
use Rattle.tk_core.proofs.Halves as halves
use Rattle.tk_core.proofs.Rows.{one_map}
use Rattle.tk_core.proofs.Facts.{put_case, put_at, put_off, seats_stay, total_sum, total_at, prefix_longer, prefix_shorter, none_held, inside as in_range, has_head, both}
use Rattle.tk_locks.specs.declared.home.Home.{Home}
use Rattle.tk_locks.specs.View.{View, noted, marked, Under, with_caller, with_count, with_mark, nobody}
use Rattle.tk_locks.specs.Rule.{mark, callers_of, Ground, records_in, good_of, next_fits, count_at, Standing, IsHome, Shows, Counts, Risen, RuleOf, Rule}
use Rattle.tk_locks.specs.Steps.{Meets, MayWant, MayMark, TookStore, Missed, Fits, taken, taken_store, parked, fetched, given, given_store, seen, heard, made, left_half, right_half, merged}
use Rattle.tk_locks.proofs.Facts.{noted_under, under_more, under_append, noted_head, noted_tail, marked_head, marked_tail, map_snoc, prefix_length}

module _ (T : Type 0) (law : List Pair → Type 0) (m : List Pair) (good : ℕ → T → List Group → ℕ → Type 0) (next : T → ℕ → Type 0) (next_more : (x : T) (a b : ℕ) → a ≤ b → next x a → next x b) (faults : T → ℕ) (begun : ℕ → ℕ) (f : Frame) where
  abbrev S : Type 0
  S = Option (Home T)

  abbrev St : Type 0
  St = State S View

  abbrev M : Type 0
  M = Me S View

  abbrev Kept : St → Type 0
  Kept = RuleOf law m good next faults begun f

  abbrev Stand : List (maybe.Option S) → ℕ → List Group → ℕ → Type 0
  Stand = Standing good

  abbrev who : View → Caller
  who v = v.caller

  -- a step of the seat id on the word i, after which the core's rule holds and the table shows it
  after_step : (s : St) (r : Kept s) (id : ℕ) (v w : View) (i x : ℕ) (c : List (ℕ × S)) (a : Act S) (log' : List Entry) (owner' : ℕ → ℕ) (spoilt' : ℕ → Bool) (kept' : ℕ → Option ℕ) (away' : ℕ → Bool) (floor' : ℕ → ℕ) → get_elem? s.views id ≡ some v
      → ((q : ℕ) → is_some (kept' q) ≡ spoilt' q) → ((q n : ℕ) → kept' q ≡ Some n → Risen f begun n)
      → Sound f law m log' owner' spoilt' away' (Stand (homes_after s.homes c a)) (set (callers_of s.views) id w.caller)
      → Shows next faults f (set s.words i x) (homes_after s.homes c a) log' owner' kept' away' floor'
      → Counts f owner' floor' kept' id w
      → ((q : ℕ) → r.floor q ≤ floor' q)
      → ((j : ℕ) (d : View) → j ≢ id → Counts f r.owner r.floor r.kept j d → Counts f owner' floor' kept' j d)
      → IsPrefix w.other log' → ((p : List Entry) → IsPrefix p r.log → IsPrefix p log')
      → Kept (stepped s i x id c w a)
  after_step s r id v w i x c a log' owner' spoilt' kept' away' floor' at broken_is risen sound shows own more others heard longer = record {
    log = log';
    owner = owner';
    spoilt = spoilt';
    kept = kept';
    broken_is = broken_is;
    risen = risen;
    away = away';
    floor = floor';
    sound = subst (Sound f law m log' owner' spoilt' away' (Stand (homes_after s.homes c a))) (sym (one_map who s.views id w w.caller refl)) sound;
    shows = shows;
    since = λ q. let a = r.since q in let b = more q in omega arith;
    counts = seats_stay (Counts f owner' floor' kept') s.views id w own (λ j d ne e. others j d ne (r.counts j d e));
    other = seats_stay (λ j d. IsPrefix d.other log') s.views id w heard (λ j d ne e. longer d.other (r.other j d e));
  }

  here : (s : St) (id : ℕ) (v : View) → get_elem? s.views id ≡ some v → get_elem? (callers_of s.views) id ≡ some v.caller
  here s id v at = at_map who s.views id v at

  flags_put : (words : List ℕ) (owner : ℕ → ℕ) (l to x : ℕ) → length words ≡ (f.stripes + f.stores) + 1 → l < f.stripes + f.stores → x ≡ mark to → ((k : ℕ) → k < f.stripes + f.stores → get_or words (k + 1) 0 ≡ mark (owner k))
      → (k : ℕ) → k < f.stripes + f.stores → get_or (set words (l + 1) x) (k + 1) 0 ≡ mark (put owner l to k)
  flags_put words owner l to x wide inside is flags k b = put_case owner l to k (λ o. get_or (set words (l + 1) x) (k + 1) 0 ≡ mark o)
      (λ e. ap (λ (z : ℕ). get_or (set words (l + 1) x) (z + 1) 0) e ∙ (get_or-set_same words (l + 1) x 0 (omega arith) ∙ is))
      (λ ne. get_or-set_other words (l + 1) (k + 1) x 0 (λ e. ne (omega arith)) ∙ flags k b)

  -- a word of 0 is a free lock, and another a lock that is held
  free : (s : St) (r : Kept s) (l : ℕ) → l < f.stripes + f.stores → get_or s.words (l + 1) 0 ≡ 0 → r.owner l ≡ 0
  free s r l b hit = nought (r.owner l) (sym (r.shows.flags l b) ∙ hit)
    where
      nought : (o : ℕ) → mark o ≡ 0 → o ≡ 0
      nought zero e = refl
      nought (suc o) e = absurd (omega arith)

  not_free : (s : St) (r : Kept s) (l : ℕ) → l < f.stripes + f.stores → get_or s.words (l + 1) 0 ≢ 0 → r.owner l ≢ 0
  not_free s r l b miss e = miss (r.shows.flags l b ∙ ap mark e)

  meets : (s : St) (r : Kept s) (id : ℕ) (v : View) → get_elem? s.views id ≡ some v → Meets f law m v.caller r.log
  meets s r id v at = let k = r.sound.knows id v.caller (here s id v at) in record { seen = k.seen; base = k.base; lawful = r.sound.history; still = k.still }

  -- the word stays, and only the caller changes
  quiet : (s : St) (r : Kept s) (id : ℕ) (v : View) (c' : Caller) (i : ℕ) (c : List (ℕ × S)) → get_elem? s.views id ≡ some v
      → Sound f law m r.log r.owner r.spoilt r.away (Stand s.homes) (set (callers_of s.views) id c')
      → Kept (stepped s i (get_or s.words i 0) id c (with_caller c' v) keeps)
  quiet s r id v c' i c at sound = let n = r.counts id v at in
      after_step s r id v (with_caller c' v) i (get_or s.words i 0) c keeps r.log r.owner r.spoilt r.kept r.away r.floor at r.broken_is r.risen sound
      (subst (λ (ws : List ℕ). Shows next faults f ws s.homes r.log r.owner r.kept r.away r.floor) (sym (set-get_or s.words i 0)) r.shows)
      (record { under = n.under; own = n.own; mark = n.mark }) (λ q. omega arith) (λ j d ne k. k) (r.other id v at) (λ p h. h)

  -- the lock of a stripe gets another owner
  stripe_shows : (s : St) (r : Kept s) (l to x : ℕ) → l < f.stripes → x ≡ mark to → Shows next faults f (set s.words (l + 1) x) s.homes r.log (put r.owner l to) r.kept r.away r.floor
  stripe_shows s r l to x low is = let sh = r.shows in record {
    wide = length-set s.words (l + 1) x ∙ sh.wide;
    slots = sh.slots;
    count = get_or-set_other s.words (l + 1) 0 x 0 (λ e. omega arith) ∙ sh.count;
    flags = flags_put s.words r.owner l to x sh.wide (omega arith) is sh.flags;
    home = λ i b. put_case r.owner l to (store_lock f i) (λ o. o ≡ 0 → IsHome next faults s.homes r.kept r.floor (length r.log) i) (λ e. absurd (omega arith)) (λ _. sh.home i b);
    out = sh.out;
  }

  stripe_counts : (owner floor : ℕ → ℕ) (kept : ℕ → Option ℕ) (l to j : ℕ) (d : View) → l < f.stripes → Counts f owner floor kept j d → Counts f (put owner l to) floor kept j d
  stripe_counts owner floor kept l to j d low k = record {
    mark = λ i. put_case owner l to (store_lock f i) (λ o. o ≡ suc j → marked i d.marks ≡ kept i) (λ e. absurd (omega arith)) (λ _. k.mark i);
    under = k.under;
    own = λ i. put_case owner l to (store_lock f i) (λ o. o ≡ suc j → noted i d.counts ≡ floor i) (λ e. absurd (omega arith)) (λ _. k.own i);
  }

  miss_lock : (s : St) (r : Kept s) (id : ℕ) (v : View) (l word : ℕ) (c : List (ℕ × S)) → get_elem? s.views id ≡ some v → MayWant f l v.caller → r.owner l ≢ 0
      → Kept (stepped s word (get_or s.words word 0) id c (with_caller (missed l v.caller) v) keeps)
  miss_lock s r id v l word c at may taken = quiet s r id v (missed l v.caller) word c at
      (locks.misses f law m r.log r.owner r.spoilt r.away (Stand s.homes) (callers_of s.views) r.sound id v.caller (here s id v at) l
      (record { live = may.live; lock = may.lock; taken = taken; rising = may.rising }))

  pub takes_stripe : (slots id : ℕ) (me : M) (l : ℕ) → l < f.stripes → MayWant f l me.0.caller → Allows Kept slots id me (l + 1) (λ x. either (eqb x 0) 1 x) (taken f law m (step slots (l + 1) 0 1 none) me)
  takes_stripe slots id me l low may s r _ at _ =
      let v : View = me.0 in let x : ℕ = get_or s.words (l + 1) 0 in let back : l ≡ (l + 1) - 1 = omega arith in let inside : l < f.stripes + f.stores = omega arith in
      let told = taken f law m (step slots (l + 1) 0 1 none) me in
      exchanged x 0 1 (λ y. (w : View) × (a : Act S) × Valid s.homes me.1 a × Kept (stepped s (l + 1) y id me.1 w a) × told x (w, carried_after me.1 a))
      (λ hit. let loose = free s r l inside hit in let w : View = with_caller (took_stripe l r.log v.caller) v in let n = r.counts id v at in (
        w,
        keeps,
        tt,
        after_step s r id v w (l + 1) 1 me.1 keeps r.log (put r.owner l (suc id)) r.spoilt r.kept r.away r.floor at r.broken_is r.risen
            (locks.takes_stripe f law m r.log r.owner r.spoilt r.away (Stand s.homes) (callers_of s.views) r.sound id v.caller (here s id v at) l low
            (record { live = may.live; lock = may.lock; free = loose; rising = may.rising; weighs = may.weighs }))
            (stripe_shows s r l (suc id) 1 low refl)
            (stripe_counts r.owner r.floor r.kept l (suc id) id w low (record { under = n.under; own = n.own; mark = n.mark }))
            (λ q. omega arith) (λ j d ne k. stripe_counts r.owner r.floor r.kept l (suc id) j d low k) (r.other id v at) (λ p h. h),
        ((λ _. (r.log, meets s r id v at, ap (λ (z : ℕ). with_caller (took_stripe z r.log v.caller) v) back)), (λ miss. absurd (miss hit)), refl),
      ))
      (λ miss. (
        with_caller (missed l v.caller) v,
        keeps,
        tt,
        miss_lock s r id v l (l + 1) me.1 at may (not_free s r l inside miss),
        ((λ hit. absurd (miss hit)), (λ _. ap (λ (z : ℕ). with_caller (missed z v.caller) v) back), refl),
      ))

  -- where one slot changed, what lies there is good if its new value is
  standing_set : (homes : List (maybe.Option S)) (i : ℕ) (x : maybe.Option S) (q : ℕ) (gs : List Group) (n : ℕ) → i < length homes → (q ≡ i → (h : Home T) → x ≡ some (Some h) → good q h.store gs n) → (q ≢ i → Stand homes q gs n) → Stand (set homes i x) q gs n
  standing_set homes i x q gs n inside same other h e = dite (ℕ_discrete q i)
      (λ z. same z h (some-injective x (some (Some h)) (sym (set_here homes i x inside) ∙ ap (get_elem? (set homes i x)) (sym z) ∙ e)))
      (λ ne. other ne h (sym (set_else homes i q x ne) ∙ e))

  only_store : (i q word : ℕ) → word ≡ store_lock f i + 1 → word ≡ store_lock f q + 1 → i ≡ q
  only_store i q word a b = omega arith

  pub takes_store : (slots id : ℕ) (me : M) (i word : ℕ) → word ≡ store_lock f i + 1 → i < f.stores → MayWant f (store_lock f i) me.0.caller
      → Allows Kept slots id me word (λ x. either (eqb x 0) 1 x) (taken_store f law m good next faults begun (step slots word 0 1 none) me)
  takes_store slots id me i word is low may s r _ at _ =
      let v : View = me.0 in let l : ℕ = store_lock f i in let x : ℕ = get_or s.words word 0 in let inside : l < f.stripes + f.stores = may.lock in let sh = r.shows in
      let told = taken_store f law m good next faults begun (step slots word 0 1 none) me in
      exchanged x 0 1 (λ y. (w : View) × (a : Act S) × Valid s.homes me.1 a × Kept (stepped s word y id me.1 w a) × told x (w, carried_after me.1 a))
      (λ hit. let loose = free s r l inside (ap (λ (z : ℕ). get_or s.words z 0) (sym is) ∙ hit) in let got = sh.home i low loose in let h : Home T = got.0 in
      let n : ℕ = faults h.store in let w : View = with_mark i h.broken (with_count i n (with_caller (took_store f i (is_some h.broken) r.log v.caller) v)) in let bad : is_some h.broken ≡ r.spoilt i = ap is_some got.2 ∙ r.broken_is i in
      let homes' : List (maybe.Option S) = set s.homes i none in let owner' : ℕ → ℕ = put r.owner l (suc id) in let floor' : ℕ → ℕ = put r.floor i n in
      let room : i < length s.homes = let z = sh.slots in omega arith in
      let more : (q : ℕ) → r.floor q ≤ floor' q = λ q. put_case r.floor i n q (λ z. r.floor q ≤ z) (λ e. subst (λ (z : ℕ). r.floor z ≤ n) (sym e) got.3) (λ _. omega arith) in
      let c = r.counts id v at in
      let apart : (q : ℕ) → store_lock f q ≢ l → q ≢ i = λ q ne e. ne (ap (store_lock f) e) in
      let still_home : r.away i ≡ false = r.sound.home i loose in
      let now : Sound f law m r.log owner' r.spoilt r.away (Stand s.homes) (set (callers_of s.views) id w.caller) =
      subst (λ (b : Bool). Sound f law m r.log owner' r.spoilt r.away (Stand s.homes) (set (callers_of s.views) id (took_store f i b r.log v.caller))) (sym bad)
      (locks.takes_store f law m r.log r.owner r.spoilt r.away (Stand s.homes) (callers_of s.views) r.sound id v.caller (here s id v at) i
      (record { live = may.live; lock = may.lock; free = loose; rising = may.rising; weighs = may.weighs })) in (
        w,
        takes i (Some h),
        got.1,
        subst (λ (z : ℕ). Kept (stepped s z 1 id me.1 w (takes i (Some h)))) (sym is)
            (after_step s r id v w (l + 1) 1 me.1 (takes i (Some h)) r.log owner' r.spoilt r.kept r.away floor' at r.broken_is r.risen
            (stores.stands_anew f law m r.log owner' r.spoilt r.away (Stand s.homes) (Stand homes') (set (callers_of s.views) id w.caller)
            now
            (λ q b g a. standing_set s.homes i none q (groups_of f m r.log q) (hard_groups f m r.log q) room (λ _ d e. absurd (some-ne-none (Some d) (sym e))) (λ _. r.sound.stores q b g a)))
            (record {
              wide = length-set s.words (l + 1) 1 ∙ sh.wide;
              slots = length-set s.homes i none ∙ sh.slots;
              count = get_or-set_other s.words (l + 1) 0 1 0 (λ e. omega arith) ∙ sh.count;
              flags = flags_put s.words r.owner l (suc id) 1 sh.wide inside refl sh.flags;
              home = λ q b. put_case r.owner l (suc id) (store_lock f q) (λ o. o ≡ 0 → IsHome next faults homes' r.kept floor' (length r.log) q) (λ _ o. absurd (omega arith))
                  (λ ne o. let u = sh.home q b o in (u.0, set_else s.homes i q none (apart q ne) ∙ u.1, u.2, subst (λ (z : ℕ). z ≤ faults u.0.store) (sym (put_off r.floor i n q (apart q ne))) u.3, u.4));
              out = λ q b a. set_else s.homes i q none (λ e. absurd (cc (sym a, ap r.away e, still_home))) ∙ sh.out q b a;
            })
            (record {
              under = (subst (λ (z : ℕ). n ≤ z) (sym (put_at r.floor i n i refl)) (omega arith), under_more r.floor floor' v.counts more c.under);
              own = λ q. put_case r.owner l (suc id) (store_lock f q) (λ o. o ≡ suc id → noted q w.counts ≡ floor' q)
                  (λ e _. let same : q ≡ i = omega arith in subst (λ (z : ℕ). noted z w.counts ≡ floor' z) (sym same) (noted_head i n v.counts ∙ sym (put_at r.floor i n i refl)))
                  (λ ne o. noted_tail i q n v.counts (apart q ne) ∙ c.own q o ∙ sym (put_off r.floor i n q (apart q ne)));
              mark = λ q. put_case r.owner l (suc id) (store_lock f q) (λ o. o ≡ suc id → marked q w.marks ≡ r.kept q)
                  (λ e _. let same : q ≡ i = omega arith in subst (λ (z : ℕ). marked z w.marks ≡ r.kept z) (sym same) (marked_head i h.broken v.marks ∙ got.2))
                  (λ ne o. marked_tail i q h.broken v.marks (apart q ne) ∙ c.mark q o);
            })
            more (λ j d ne k. record {
              under = under_more r.floor floor' d.counts more k.under;
              own = λ q. put_case r.owner l (suc id) (store_lock f q) (λ o. o ≡ suc j → noted q d.counts ≡ floor' q)
                  (λ _ o. absurd (ne (omega arith)))
                  (λ n2 o. k.own q o ∙ sym (put_off r.floor i n q (apart q n2)));
              mark = λ q. put_case r.owner l (suc id) (store_lock f q) (λ o. o ≡ suc j → marked q d.marks ≡ r.kept q) (λ _ o. absurd (ne (omega arith))) (λ _ o. k.mark q o);
            })
            (r.other id v at) (λ p h2. h2)),
        (λ q e. subst (λ (z : ℕ). (x ≡ 0 → (d : Home T) × TookStore f law m good next faults begun z v d w × ((i, Some h) ∷ me.1 ≡ (z, Some d) ∷ me.1)) × (x ≢ 0 → Missed f law m (store_lock f z) v w × ((i, Some h) ∷ me.1 ≡ me.1))) (only_store i q word is e)
            ((λ _. (h, (r.log, meets s r id v at, refl, (λ whole. r.sound.stores i low (sym bad ∙ ap is_some whole) still_home h got.1), (let z = noted_under r.floor i v.counts c.under in let y = got.3 in omega arith), (r.sound.knows id v.caller (here s id v at)).out i ∙ nothing_away (has l v.caller.held) (r.away i) still_home, got.4, (let z = r.since i in let y = got.3 in omega arith), known.knows_which f law m r.log owner' r.spoilt r.away (Stand s.homes) (set (callers_of s.views) id w.caller) now id w.caller (set_here (callers_of s.views) id w.caller (in_range (callers_of s.views) id v.caller (here s id v at))) i (has_head l v.caller.held) ∙ sym bad, (λ n2 e2. r.risen i n2 (sym got.2 ∙ e2))), refl)), λ miss. absurd (miss hit))),
      ))
      (λ miss. (
        with_caller (missed l v.caller) v,
        keeps,
        tt,
        miss_lock s r id v l word me.1 at may (not_free s r l inside (λ e. miss (ap (λ (z : ℕ). get_or s.words z 0) is ∙ e))),
        (λ q e. ((λ hit. absurd (miss hit)), λ _. (ap (λ (z : ℕ). with_caller (missed (store_lock f z) v.caller) v) (only_store i q word is e), refl))),
      ))
    where
      nothing_away : (a b : Bool) → b ≡ false → (a && b) ≡ false
      nothing_away true b e = e
      nothing_away false b e = refl

  -- the slot of a store whose lock the caller holds is put to x, and the word stays
  slot_step : (s : St) (r : Kept s) (id : ℕ) (v : View) (c' : Caller) (i word : ℕ) (carried : List (ℕ × S)) (a : Act S) (x : maybe.Option S) (spoilt' : ℕ → Bool) (kept' : ℕ → Option ℕ) (away' : ℕ → Bool) (ms : List (ℕ × Option ℕ)) → get_elem? s.views id ≡ some v → i < f.stores
      → ((q : ℕ) → is_some (kept' q) ≡ spoilt' q) → ((q n : ℕ) → kept' q ≡ Some n → Risen f begun n) → ((q : ℕ) → r.owner (store_lock f q) ≡ suc id → marked q ms ≡ kept' q)
      → has (store_lock f i) v.caller.held ≡ true → homes_after s.homes carried a ≡ set s.homes i x
      → ((q : ℕ) → q ≢ i → kept' q ≡ r.kept q) → ((q : ℕ) → q ≢ i → away' q ≡ r.away q) → (away' i ≡ true → x ≡ some None)
      → Sound f law m r.log r.owner spoilt' away' (Stand (set s.homes i x)) (set (callers_of s.views) id c')
      → Kept (stepped s word (get_or s.words word 0) id carried (record { caller = c'; counts = v.counts; marks = ms; other = v.other }) a)
  slot_step s r id v c' i word carried a x spoilt' kept' away' ms at low broken_is risen marks holds homes kept_same away_same empty sound =
      let k = r.sound.knows id v.caller (here s id v at) in let mine : r.owner (store_lock f i) ≡ suc id = k.owns (store_lock f i) holds in
      let sh = r.shows in let room : i < length s.homes = let z = sh.slots in omega arith in let n = r.counts id v at in
      after_step s r id v (record { caller = c'; counts = v.counts; marks = ms; other = v.other }) word (get_or s.words word 0) carried a r.log r.owner spoilt' kept' away' r.floor at broken_is risen
      (subst (λ (hs : List (maybe.Option S)). Sound f law m r.log r.owner spoilt' away' (Stand hs) (set (callers_of s.views) id c')) (sym homes) sound)
      (subst (λ (z : List ℕ × List (maybe.Option S)). Shows next faults f z.0 z.1 r.log r.owner kept' away' r.floor) (λ t. (sym (set-get_or s.words word 0) t, sym homes t))
      (record {
        wide = sh.wide;
        slots = length-set s.homes i x ∙ sh.slots;
        count = sh.count;
        flags = sh.flags;
        home = λ q b o. let ne : q ≢ i = λ e. let same : r.owner (store_lock f q) ≡ r.owner (store_lock f i) = ap (λ (z : ℕ). r.owner (store_lock f z)) e in absurd (omega arith) in
            let u = sh.home q b o in (u.0, set_else s.homes i q x ne ∙ u.1, u.2 ∙ sym (kept_same q ne), u.3, u.4);
        out = λ q b a2. dite (ℕ_discrete q i)
            (λ e. ap (get_elem? (set s.homes i x)) e ∙ set_here s.homes i x room ∙ ap some (empty (ap away' (sym e) ∙ a2)))
            (λ ne. set_else s.homes i q x ne ∙ sh.out q b (sym (away_same q ne) ∙ a2));
      }))
      (record { under = n.under; own = n.own; mark = marks }) (λ q. omega arith) (λ j d ne2 kn. record { under = kn.under; own = kn.own; mark = λ q o. kn.mark q o ∙ sym (kept_same q (λ e. let same : r.owner (store_lock f q) ≡ r.owner (store_lock f i) = ap (λ (z : ℕ). r.owner (store_lock f z)) e in absurd (ne2 (omega arith)))) }) (r.other id v at) (λ p h. h)

  -- the caller puts the empty slot back: the store is out
  pub parks : (slots id : ℕ) (me : M) (i word : ℕ) → word ≡ store_lock f i + 1 → MayTakeOut f i me.0.caller → me.1 ≡ (i, None) ∷ rest me.1
      → Allows Kept slots id me word (λ x. x) (parked f (step slots word 0 0 none) me)
  parks slots id me i word is may carries s r _ at _ =
      let v : View = me.0 in let room : i < length s.homes = let z = r.shows.slots in let y = may.store in omega arith in (
        with_caller (took_out i v.caller) v,
        gives,
        tt,
        slot_step s r id v (took_out i v.caller) i word me.1 gives (some None) r.spoilt r.kept (put r.away i true) v.marks at may.store r.broken_is r.risen (r.counts id v at).mark may.holds (ap (λ (c : List (ℕ × S)). homes_after s.homes c gives) carries)
            (λ q ne. refl) (λ q ne. put_off r.away i true q ne) (λ _. refl)
            (stores.stands_anew f law m r.log r.owner r.spoilt (put r.away i true) (Stand s.homes) (Stand (set s.homes i (some None))) (set (callers_of s.views) id (took_out i v.caller))
            (stores.takes_out f law m r.log r.owner r.spoilt r.away (Stand s.homes) (callers_of s.views) r.sound id v.caller (here s id v at) i may)
            (λ q b g a. standing_set s.homes i (some None) q (groups_of f m r.log q) (hard_groups f m r.log q) room (λ _ d e. absurd (cc (e))) (λ ne. r.sound.stores q b g (sym (put_off r.away i true q ne) ∙ a)))),
        (λ q e. (ap (λ (z : ℕ). with_caller (took_out z v.caller) v) (only_store i q word is e), refl)),
      )

  -- the caller takes the empty slot, to give the store back
  pub fetches : (slots id : ℕ) (me : M) (i word : ℕ) (broken : Option ℕ) → word ≡ store_lock f i + 1 → i < f.stores → me.0.caller.live ≡ true → has i me.0.caller.out ≡ true → MayMark f begun i me.0 broken
      → Allows Kept slots id me word (λ x. x) (fetched f broken (step slots word 0 0 none) me)
  fetches slots id me i word broken is low live out may s r _ at _ =
      let b : Bool = is_some broken in let v : View = me.0 in let kept' : ℕ → Option ℕ = put r.kept i broken in let k = r.sound.knows id v.caller (here s id v at) in
      let two = both (has (store_lock f i) v.caller.held) (r.away i) (sym (k.out i) ∙ out) in
      let was : marked i v.marks ≡ r.kept i = (r.counts id v at).mark i (k.owns (store_lock f i) two.0) in
      let room : i < length s.homes = let z = r.shows.slots in omega arith in (
        with_mark i broken (with_caller (put_back i b v.caller) v),
        takes i None,
        r.shows.out i low two.1,
        slot_step s r id v (put_back i b v.caller) i word me.1 (takes i None) none (put r.spoilt i b) kept' (put r.away i false) ((i, broken) ∷ v.marks) at low
            (λ q. dite (ℕ_discrete q i) (λ e. ap is_some (put_at r.kept i broken q e) ∙ sym (put_at r.spoilt i b q e)) (λ ne. ap is_some (put_off r.kept i broken q ne) ∙ r.broken_is q ∙ sym (put_off r.spoilt i b q ne)))
            (λ q n e. dite (ℕ_discrete q i) (λ z. newly r.kept i broken v (r.risen i) was may n (sym (put_at r.kept i broken q z) ∙ e)) (λ ne. r.risen q n (sym (put_off r.kept i broken q ne) ∙ e)))
            (λ q o. dite (ℕ_discrete q i) (λ z. subst (λ (y : ℕ). marked y ((i, broken) ∷ v.marks) ≡ kept' y) (sym z) (marked_head i broken v.marks ∙ sym (put_at r.kept i broken i refl))) (λ ne. marked_tail i q broken v.marks ne ∙ (r.counts id v at).mark q o ∙ sym (put_off r.kept i broken q ne)))
            two.0 refl
            (λ q ne. put_off r.kept i broken q ne) (λ q ne. put_off r.away i false q ne) (λ a. absurd (cc (a, put_at r.away i false i refl)))
            (stores.puts_back f law m r.log r.owner r.spoilt r.away (Stand s.homes) (callers_of s.views) r.sound id v.caller (here s id v at) (Stand (set s.homes i none)) i b
            (record {
              live = live;
              store = low;
              out = out;
              stays = λ known_bad. let bad : r.spoilt i ≡ true = sym (known.knows_which f law m r.log r.owner r.spoilt r.away (Stand s.homes) (callers_of s.views) r.sound id v.caller (here s id v at) i two.0) ∙ known_bad in
                  let m2 : is_some (marked i v.marks) ≡ true = ap is_some was ∙ r.broken_is i ∙ bad in ap is_some (may.stays m2) ∙ m2;
              stands = λ _. standing_set s.homes i none i (groups_of f m r.log i) (hard_groups f m r.log i) room (λ _ d e. absurd (some-ne-none (Some d) (sym e))) (λ ne. absurd (ne refl));
            })
            (λ q ne gs n st. standing_set s.homes i none q gs n room (λ e. absurd (ne e)) (λ _. st))),
        (λ q e. (ap (λ (z : ℕ). with_mark z broken (with_caller (put_back z b v.caller) v)) (only_store i q word is e), ap (λ (z : ℕ). (z, None) ∷ me.1) (only_store i q word is e))),
      )
    where
      newly : (kept : ℕ → Option ℕ) (i : ℕ) (broken : Option ℕ) (v : View) → ((n : ℕ) → kept i ≡ Some n → Risen f begun n) → marked i v.marks ≡ kept i → MayMark f begun i v broken → (k : ℕ) → broken ≡ Some k → Risen f begun k
      newly kept i broken v old was may k e = go (kept i) refl
        where
          go : (o : Option ℕ) → kept i ≡ o → Risen f begun k
          go None z = may.risen k (was ∙ z) e
          go (Some n) z = old k (sym was ∙ sym (may.stays (ap is_some (was ∙ z))) ∙ e)

  -- the caller gives the store's slot with the store in it, and its lock
  pub gives_store : (slots id : ℕ) (me : M) (i word : ℕ) (h : Home T) (n : ℕ) → word ≡ store_lock f i + 1 → MayGiveStore f i me.0.caller → me.1 ≡ (i, Some h) ∷ rest me.1
      → h.broken ≡ marked i me.0.marks → Fits f law m good next faults begun i me.0.caller h → faults h.store ≡ n → noted i me.0.counts ≤ n → (h.broken ≡ None → next h.store (length me.0.caller.base))
      → Allows Kept slots id me word (λ _. 0) (given_store f n (step slots word 0 0 none) me)
  gives_store slots id me i word h n is may carries is_marked fits counted seen may_follow s r _ at _ =
      let v : View = me.0 in let l : ℕ = store_lock f i in let k = r.sound.knows id v.caller (here s id v at) in let sh = r.shows in let c = r.counts id v at in
      let low = may.store in let inside : l < f.stripes + f.stores = omega arith in
      let mine : r.owner l ≡ suc id = k.owns l may.holds in
      let room : i < length s.homes = let z = sh.slots in omega arith in
      let w : View = with_count i n (with_caller (gave_store f i v.caller) v) in let homes' : List (maybe.Option S) = set s.homes i (some (Some h)) in
      let owner' : ℕ → ℕ = put r.owner l 0 in let floor' : ℕ → ℕ = put r.floor i n in
      let apart : (q : ℕ) → store_lock f q ≢ l → q ≢ i = λ q ne e. ne (ap (store_lock f) e) in
      let was : noted i v.counts ≡ r.floor i = c.own i mine in
      let more : (q : ℕ) → r.floor q ≤ floor' q = λ q. put_case r.floor i n q (λ z. r.floor q ≤ z) (λ e. subst (λ (z : ℕ). r.floor z ≤ n) (sym e) (omega arith)) (λ _. omega arith) in
      let right : h.broken ≡ r.kept i = is_marked ∙ c.mark i mine in
      let unbroken : r.spoilt i ≡ false → h.broken ≡ None = λ g. none_of h.broken (ap is_some right ∙ r.broken_is i ∙ g) in (
        w,
        gives,
        tt,
        subst (λ (z : ℕ). Kept (stepped s z 0 id me.1 w gives)) (sym is)
            (after_step s r id v w (l + 1) 0 me.1 gives r.log owner' r.spoilt r.kept r.away floor' at r.broken_is r.risen
            (subst (λ (cs : List (ℕ × S)). Sound f law m r.log owner' r.spoilt r.away (Stand (homes_after s.homes cs gives)) (set (callers_of s.views) id w.caller)) (sym carries)
            (stores.stands_anew f law m r.log owner' r.spoilt r.away (Stand s.homes) (Stand homes') (set (callers_of s.views) id w.caller)
            (locks.gives_store f law m r.log r.owner r.spoilt r.away (Stand s.homes) (callers_of s.views) r.sound id v.caller (here s id v at) i may)
            (λ q b g a. standing_set s.homes i (some (Some h)) q (groups_of f m r.log q) (hard_groups f m r.log q) room
            (λ e d is_d. let same : h ≡ d = some_same h d is_d in
            subst (λ (z : ℕ × Home T). good z.0 z.1.store (groups_of f m r.log z.0) (hard_groups f m r.log z.0)) (λ t. (sym e t, same t))
            (subst (λ (z : List Group × ℕ). good i h.store z.0 z.1) (λ t. (k.still.groups i low may.holds t, k.still.hard i low may.holds t)) (fits (unbroken (sym (ap r.spoilt e) ∙ g)))))
            (λ _. r.sound.stores q b g a))))
            (subst (λ (cs : List (ℕ × S)). Shows next faults f (set s.words (l + 1) 0) (homes_after s.homes cs gives) r.log owner' r.kept r.away floor') (sym carries)
            (record {
              wide = length-set s.words (l + 1) 0 ∙ sh.wide;
              slots = length-set s.homes i (some (Some h)) ∙ sh.slots;
              count = get_or-set_other s.words (l + 1) 0 0 0 (λ e. omega arith) ∙ sh.count;
              flags = flags_put s.words r.owner l 0 0 sh.wide inside refl sh.flags;
              home = λ q b. put_case r.owner l 0 (store_lock f q) (λ o. o ≡ 0 → IsHome next faults homes' r.kept floor' (length r.log) q)
                  (λ e _. let same : q ≡ i = omega arith in subst (λ (z : ℕ). IsHome next faults homes' r.kept floor' (length r.log) z) (sym same)
                  (h, set_here s.homes i (some (Some h)) room, right, (let z = put_at r.floor i n i refl in omega arith), λ whole. next_more h.store (length v.caller.base) (length r.log) (prefix_length v.caller.base r.log k.base) (may_follow whole)))
                  (λ ne o. let u = sh.home q b o in (u.0, set_else s.homes i q (some (Some h)) (apart q ne) ∙ u.1, u.2, subst (λ (z : ℕ). z ≤ faults u.0.store) (sym (put_off r.floor i n q (apart q ne))) u.3, u.4));
              out = λ q b a. set_else s.homes i q (some (Some h)) (λ e. absurd (cc (sym a, ap r.away e, is_home s r id v i at may))) ∙ sh.out q b a;
            }))
            (record {
              under = (subst (λ (z : ℕ). n ≤ z) (sym (put_at r.floor i n i refl)) (omega arith), under_more r.floor floor' v.counts more c.under);
              own = λ q. put_case r.owner l 0 (store_lock f q) (λ o. o ≡ suc id → noted q w.counts ≡ floor' q)
                  (λ _ o. absurd (omega arith))
                  (λ ne o. noted_tail i q n v.counts (apart q ne) ∙ c.own q o ∙ sym (put_off r.floor i n q (apart q ne)));
              mark = λ q. put_case r.owner l 0 (store_lock f q) (λ o. o ≡ suc id → marked q w.marks ≡ r.kept q) (λ _ o. absurd (omega arith)) (λ _ o. c.mark q o);
            })
            more (λ j d ne kn. record {
              under = under_more r.floor floor' d.counts more kn.under;
              own = λ q. put_case r.owner l 0 (store_lock f q) (λ o. o ≡ suc j → noted q d.counts ≡ floor' q)
                  (λ _ o. absurd (omega arith))
                  (λ n2 o. kn.own q o ∙ sym (put_off r.floor i n q (apart q n2)));
              mark = λ q. put_case r.owner l 0 (store_lock f q) (λ o. o ≡ suc j → marked q d.marks ≡ r.kept q) (λ _ o. absurd (omega arith)) (λ _ o. kn.mark q o);
            })
            (r.other id v at) (λ p h2. h2)),
        (λ q e. (ap (λ (z : ℕ). with_count z n (with_caller (gave_store f z v.caller) v)) (only_store i q word is e), refl)),
      )
    where
      none_of : (o : Option ℕ) → is_some o ≡ false → o ≡ None
      none_of None e = refl
      none_of (Some n) e = absurd (cc (e))

      some_same : (a b : Home T) → (let z : maybe.Option S = some (Some a) in z) ≡ some (Some b) → a ≡ b
      some_same a b e = let e2 : Some a ≡ Some b = some-injective (Some a) (Some b) e in cc (e2)

      is_home : (s : St) (r : Kept s) (id : ℕ) (v : View) (i : ℕ) → get_elem? s.views id ≡ some v → MayGiveStore f i v.caller → r.away i ≡ false
      is_home s r id v i at may = let k = r.sound.knows id v.caller (here s id v at) in and_false (has (store_lock f i) v.caller.held) (r.away i) may.holds (sym (k.out i) ∙ may.home)
        where
          and_false : (a b : Bool) → a ≡ true → (a && b) ≡ false → b ≡ false
          and_false true b h e = e
          and_false false b h e = absurd (cc (h))

  pub commits : (slots id : ℕ) (me : M) (e : Entry) → MayCommit f law m e me.0.caller → Allows Kept slots id me 0 (λ x. (x + 1) % 2 ^ 64) (made f law m e (step slots 0 1 0 none) me)
  commits slots id me e may s r _ at _ =
      let v : View = me.0 in let n : ℕ = length r.log in let sh = r.shows in let c = r.counts id v at in
      let room : 0 < v.caller.allowance = may.allowance in
      let spare : total (λ (u : Caller). u.allowance) (callers_of s.views) + n ≡ 2 ^ 62 =
      let a = total_sum (λ (u : Caller). u.allowance) (λ (u : Caller). length u.mine) (callers_of s.views) in let b = r.sound.made in let d = r.sound.weights in omega arith in
      let small : n < 2 ^ 62 = let q = total_at (λ (u : Caller). u.allowance) (callers_of s.views) id v.caller (here s id v at) in omega arith in
      let found : get_or s.words 0 0 ≡ n = sh.count in
      let next : (get_or s.words 0 0 + 1) % 2 ^ 64 ≡ n + 1 = omega arith in
      let wide = sh.wide in
      let sound = calls.commits f law m r.log r.owner r.spoilt r.away (Stand s.homes) (callers_of s.views) r.sound id v.caller (here s id v at) e may in (
        with_caller (committed r.log e v.caller) v,
        keeps,
        tt,
        after_step s r id v (with_caller (committed r.log e v.caller) v) 0 ((get_or s.words 0 0 + 1) % 2 ^ 64) me.1 keeps (r.log ++ e ∷ []) r.owner r.spoilt r.kept r.away r.floor at r.broken_is r.risen sound
            (record {
              wide = length-set s.words 0 ((get_or s.words 0 0 + 1) % 2 ^ 64) ∙ sh.wide;
              slots = sh.slots;
              count = get_or-set_same s.words 0 ((get_or s.words 0 0 + 1) % 2 ^ 64) 0 (omega arith) ∙ (next ∙ sym (length-append r.log (e ∷ [])));
              flags = λ l b. get_or-set_other s.words 0 (l + 1) ((get_or s.words 0 0 + 1) % 2 ^ 64) 0 (λ z. omega arith) ∙ sh.flags l b;
              home = λ q b o. let u = sh.home q b o in (u.0, u.1, u.2, u.3, λ whole. next_more u.0.store n (length (r.log ++ e ∷ [])) (let z = length-append r.log (e ∷ []) in omega arith) (u.4 whole));
              out = sh.out;
            })
            (record { under = c.under; own = c.own; mark = c.mark }) (λ q. omega arith) (λ j d ne k. k) (prefix_longer v.other r.log (e ∷ []) (r.other id v at)) (λ p h. prefix_longer p r.log (e ∷ []) h),
        ((r.log, meets s r id v at, sound.history, sym found, subst (λ (z : ℕ). z < 2 ^ 62) (sym found) small, refl), refl),
      )

  pub gives_stripe : (slots id : ℕ) (me : M) (l : ℕ) → MayGiveStripe f l me.0.caller → Allows Kept slots id me (l + 1) (λ _. 0) (given (step slots (l + 1) 0 0 none) me)
  gives_stripe slots id me l may s r _ at _ =
      let v : View = me.0 in let back : l ≡ (l + 1) - 1 = omega arith in let n = r.counts id v at in let low = may.stripe in let w : View = with_caller (gave_stripe l v.caller) v in (
        w,
        keeps,
        tt,
        after_step s r id v w (l + 1) 0 me.1 keeps r.log (put r.owner l 0) r.spoilt r.kept r.away r.floor at r.broken_is r.risen
            (locks.gives_stripe f law m r.log r.owner r.spoilt r.away (Stand s.homes) (callers_of s.views) r.sound id v.caller (here s id v at) l may)
            (stripe_shows s r l 0 0 low refl)
            (stripe_counts r.owner r.floor r.kept l 0 id w low (record { under = n.under; own = n.own; mark = n.mark }))
            (λ q. omega arith) (λ j d ne k. stripe_counts r.owner r.floor r.kept l 0 j d low k) (r.other id v at) (λ p h. h),
        (ap (λ (z : ℕ). with_caller (gave_stripe z v.caller) v) back, refl),
      )

  -- the word stays, and the seat has a new caller and forgets what the other of a join had seen
  hears : (s : St) (r : Kept s) (id : ℕ) (v : View) (c' : Caller) (i : ℕ) (c : List (ℕ × S)) → get_elem? s.views id ≡ some v
      → Sound f law m r.log r.owner r.spoilt r.away (Stand s.homes) (set (callers_of s.views) id c')
      → Kept (stepped s i (get_or s.words i 0) id c (record { caller = c'; counts = v.counts; marks = v.marks; other = [] }) keeps)
  hears s r id v c' i c at sound = let n = r.counts id v at in
      after_step s r id v (record { caller = c'; counts = v.counts; marks = v.marks; other = [] }) i (get_or s.words i 0) c keeps r.log r.owner r.spoilt r.kept r.away r.floor at r.broken_is r.risen sound
      (subst (λ (ws : List ℕ). Shows next faults f ws s.homes r.log r.owner r.kept r.away r.floor) (sym (set-get_or s.words i 0)) r.shows)
      (record { under = n.under; own = n.own; mark = n.mark }) (λ q. omega arith) (λ j d ne k. k) (r.log, refl) (λ p h. h)

  pub looks : (slots id : ℕ) (me : M) → me.0.caller.live ≡ true → Allows Kept slots id me 0 (λ x. x) (seen f law m (step slots 0 0 0 none) me)
  looks slots id me live s r _ at _ =
      let v : View = me.0 in (
        record { caller = looked r.log v.caller; counts = v.counts; marks = v.marks; other = [] },
        keeps,
        tt,
        hears s r id v (looked r.log v.caller) 0 me.1 at (locks.looks f law m r.log r.owner r.spoilt r.away (Stand s.homes) (callers_of s.views) r.sound id v.caller (here s id v at) live),
        ((r.log, meets s r id v at, sym r.shows.count, r.other id v at, refl), refl),
      )

  -- the load behind a join
  pub learns : (slots id : ℕ) (me : M) → Allows Kept slots id me 0 (λ x. x) (heard (step slots 0 0 0 none) me)
  learns slots id me s r _ at _ =
      let v : View = me.0 in let c : Caller = v.caller in let k = r.sound.knows id c (here s id v at) in
      let bound : c.allowance ≤ 2 ^ 62 = let p = r.sound.weights in let q = total_at weight (callers_of s.views) id c (here s id v at) in omega arith in (
        record { caller = c; counts = v.counts; marks = v.marks; other = [] },
        keeps,
        tt,
        hears s r id v c 0 me.1 at (subst (Sound f law m r.log r.owner r.spoilt r.away (Stand s.homes)) (sym (set_again (callers_of s.views) id c (here s id v at))) r.sound),
        ((λ short. prefix_shorter v.other c.seen r.log (r.other id v at) k.seen short), refl, bound, refl),
      )

  -- seats that hold no lock may change what they know
  idles : (s : St) (r : Kept s) (views' : List View) → Sound f law m r.log r.owner r.spoilt r.away (Stand s.homes) (callers_of views')
      → ((j : ℕ) (v : View) → get_elem? views' j ≡ some v → Counts f r.owner r.floor r.kept j v) → ((j : ℕ) (v : View) → get_elem? views' j ≡ some v → IsPrefix v.other r.log)
      → Kept record { words = s.words; homes = s.homes; views = views' }
  idles s r views' sound counts other = record { log = r.log; owner = r.owner; spoilt = r.spoilt; kept = r.kept; broken_is = r.broken_is; risen = r.risen; away = r.away; floor = r.floor; sound = sound; shows = r.shows; since = r.since; counts = counts; other = other }

  -- a seat that holds no lock owns none
  no_own : (s : St) (r : Kept s) (views : List View) → Sound f law m r.log r.owner r.spoilt r.away (Stand s.homes) (callers_of views) → (j : ℕ) (d : View) → get_elem? views j ≡ some d → d.caller.held ≡ [] → (l : ℕ) → r.owner l ≡ suc j → ⊥
  no_own s r views sound j d at none_here l o = let h = sound.holder l j o in
      let same : h.0 ≡ d.caller = some-injective h.0 d.caller (sym h.1 ∙ at_map who views j d at) in none_held l d.caller.held none_here (ap (λ (c : Caller). has l c.held) (sym same) ∙ h.2)

  no_counts : (s : St) (r : Kept s) (views : List View) → Sound f law m r.log r.owner r.spoilt r.away (Stand s.homes) (callers_of views) → (j : ℕ) (d : View) → get_elem? views j ≡ some d → d.caller.held ≡ [] → Under r.floor d.counts → Counts f r.owner r.floor r.kept j d
  no_counts s r views sound j d at none_here under = record { under = under; own = λ i o. absurd (no_own s r views sound j d at none_here (store_lock f i) o); mark = λ i o. absurd (no_own s r views sound j d at none_here (store_lock f i) o) }

  pub splits : (id : ℕ) (v : View) → IsIdle v.caller → Splits {S = S} Kept id v (left_half v) (right_half v)
  splits id v idle s r at = let vs : List View = set s.views id (left_half v) in let n = r.counts id v at in let views' : List View = vs ++ right_half v ∷ [] in
      let sound : Sound f law m r.log r.owner r.spoilt r.away (Stand s.homes) (callers_of views') =
      subst (Sound f law m r.log r.owner r.spoilt r.away (Stand s.homes))
      (sym (map_snoc who vs (right_half v) ∙ ap (λ (cs : List Caller). cs ++ new_half v.caller ∷ []) (one_map who s.views id (left_half v) (kept_half v.caller) refl)))
      (halves.splits f law m r.log r.owner r.spoilt r.away (Stand s.homes) (callers_of s.views) r.sound id v.caller (here s id v at) idle) in
      idles s r views' sound
      (λ j d e. ⊎_elim (λ (t : get_elem? vs j ≡ some d). seats_stay (Counts f r.owner r.floor r.kept) s.views id (left_half v) (record { under = n.under; own = n.own; mark = n.mark }) (λ q u ne z. r.counts q u z) j d t)
      (λ (t : right_half v ≡ d). no_counts s r views' sound j d e (ap (λ (z : View). z.caller.held) (sym t)) (subst (λ (z : View). Under r.floor z.counts) t tt))
      (at_snoc vs (right_half v) d j e))
      (λ j d e. ⊎_elim (λ (t : get_elem? vs j ≡ some d). seats_stay (λ q u. IsPrefix u.other r.log) s.views id (left_half v) (r.other id v at) (λ q u ne z. r.other q u z) j d t)
      (λ (t : right_half v ≡ d). subst (λ (z : View). IsPrefix z.other r.log) t (r.log, refl)) (at_snoc vs (right_half v) d j e))

  shorter_prefix : (log xs ys : List Entry) (b : Bool) → IsPrefix xs log → IsPrefix ys log → IsPrefix (cond b xs ys) log
  shorter_prefix log xs ys true p q = p
  shorter_prefix log xs ys false p q = q

  pub joins : (id : ℕ) (v : View) (other : ℕ) (u : View) → IsIdle v.caller → IsIdle u.caller → Joins {S = S} Kept id v other u (merged v u) nobody
  joins id v other u one two s r at apart there =
      let b : View = merged v u in let vs : List View = set s.views id b in let was : get_elem? s.views other ≡ some u = sym (set_else s.views id other b apart) ∙ there in
      let c : Caller = v.caller in let d : Caller = u.caller in let cs : List Caller = callers_of s.views in let views' : List View = set vs other nobody in
      let k = r.sound.knows id c (here s id v at) in let ku = r.sound.knows other d (here s other u was) in
      let joint = halves.joins f law m r.log r.owner r.spoilt r.away (Stand s.homes) cs r.sound id c (here s id v at) other d (here s other u was)
      (record { apart = λ e. apart (sym e); live = (one.0, two.0); held = (one.1, two.1) }) in
      let sound : Sound f law m r.log r.owner r.spoilt r.away (Stand s.homes) (callers_of views') =
      subst (Sound f law m r.log r.owner r.spoilt r.away (Stand s.homes))
      (sym (one_map who vs other nobody spent refl ∙ ap (λ (zs : List Caller). set zs other spent) (one_map who s.views id b (joined c d) refl)))
      joint in
      let n = r.counts id v at in let p = r.counts other u was in
      idles s r views' sound
      (λ j z e. ⊎_elim (λ (t : (j ≡ other) × (nobody ≡ z)). no_counts s r views' sound j z e (ap (λ (q : View). q.caller.held) (sym t.1)) (subst (λ (q : View). Under r.floor q.counts) t.1 tt))
      (λ (t : (j ≢ other) × (get_elem? vs j ≡ some z)). ⊎_elim
      (λ (y : (j ≡ id) × (b ≡ z)). no_counts s r views' sound j z e (ap (λ (q : View). q.caller.held) (sym y.1) ∙ one.1) (subst (λ (q : View). Under r.floor q.counts) y.1 (under_append r.floor v.counts u.counts n.under p.under)))
      (λ (y : (j ≢ id) × (get_elem? s.views j ≡ some z)). r.counts j z y.1) (at_set s.views id j b z t.1))
      (at_set vs other j nobody z e))
      (seats_stay (λ j z. IsPrefix z.other r.log) vs other nobody (r.log, refl)
      (λ j z ne e. seats_stay (λ q y. IsPrefix y.other r.log) s.views id b (shorter_prefix r.log c.seen d.seen (ltb (length c.seen) (length d.seen)) k.seen ku.seen) (λ q y ne2 e2. r.other q y e2) j z e))

module _ (T : Type 0) (law : List Pair → Bool) (stands : T → First → List Group → ℕ → Type 0) (store_view : T → StoreView) (constants : T → StoreConstants) (faults : T → ℕ) (g k : Ground T) (same : g ≡ k) where
  abbrev Law : List Pair → Type 0
  Law n = law n ≡ true

  abbrev first : List Pair
  first = records_in g.frame.order store_view g.start

  abbrev Holds : State (Option (Home T)) View → Type 0
  Holds = Rule law stands store_view constants faults k

  pub takes_stripe_at : (slots id : ℕ) (me : Me (Option (Home T)) View) (l : ℕ) → l < g.frame.stripes → MayWant g.frame l me.0.caller → Allows Holds slots id me (l + 1) (λ x. either (eqb x 0) 1 x) (taken g.frame Law first (step slots (l + 1) 0 1 none) me)
  takes_stripe_at slots id me l low may = subst (λ (z : Ground T). Allows (Rule law stands store_view constants faults z) slots id me (l + 1) (λ x. either (eqb x 0) 1 x) (taken g.frame Law first (step slots (l + 1) 0 1 none) me)) same
      (takes_stripe T Law first (good_of stands store_view constants g) (next_fits store_view constants g) (λ x a b le h w. (let z = h w in omega arith)) faults (count_at faults g.start) g.frame slots id me l low may)

  pub takes_store_at : (slots id : ℕ) (me : Me (Option (Home T)) View) (i word : ℕ) → word ≡ store_lock g.frame i + 1 → i < g.frame.stores → MayWant g.frame (store_lock g.frame i) me.0.caller
      → Allows Holds slots id me word (λ x. either (eqb x 0) 1 x) (taken_store g.frame Law first (good_of stands store_view constants g) (next_fits store_view constants g) faults (count_at faults g.start) (step slots word 0 1 none) me)
  takes_store_at slots id me i word is low may = subst (λ (z : Ground T). Allows (Rule law stands store_view constants faults z) slots id me word (λ x. either (eqb x 0) 1 x) (taken_store g.frame Law first (good_of stands store_view constants g) (next_fits store_view constants g) faults (count_at faults g.start) (step slots word 0 1 none) me)) same
      (takes_store T Law first (good_of stands store_view constants g) (next_fits store_view constants g) (λ x a b le h w. (let z = h w in omega arith)) faults (count_at faults g.start) g.frame slots id me i word is low may)

  pub parks_at : (slots id : ℕ) (me : Me (Option (Home T)) View) (i word : ℕ) → word ≡ store_lock g.frame i + 1 → MayTakeOut g.frame i me.0.caller → me.1 ≡ (i, None) ∷ rest me.1
      → Allows Holds slots id me word (λ x. x) (parked g.frame (step slots word 0 0 none) me)
  parks_at slots id me i word is may carries = subst (λ (z : Ground T). Allows (Rule law stands store_view constants faults z) slots id me word (λ x. x) (parked g.frame (step slots word 0 0 none) me)) same
      (parks T Law first (good_of stands store_view constants g) (next_fits store_view constants g) (λ x a b le h w. (let z = h w in omega arith)) faults (count_at faults g.start) g.frame slots id me i word is may carries)

  pub fetches_at : (slots id : ℕ) (me : Me (Option (Home T)) View) (i word : ℕ) (b : Option ℕ) → word ≡ store_lock g.frame i + 1 → i < g.frame.stores → me.0.caller.live ≡ true → has i me.0.caller.out ≡ true → MayMark g.frame (count_at faults g.start) i me.0 b
      → Allows Holds slots id me word (λ x. x) (fetched g.frame b (step slots word 0 0 none) me)
  fetches_at slots id me i word b is low live out stays = subst (λ (z : Ground T). Allows (Rule law stands store_view constants faults z) slots id me word (λ x. x) (fetched g.frame b (step slots word 0 0 none) me)) same
      (fetches T Law first (good_of stands store_view constants g) (next_fits store_view constants g) (λ x a b le h w. (let z = h w in omega arith)) faults (count_at faults g.start) g.frame slots id me i word b is low live out stays)

  pub gives_store_at : (slots id : ℕ) (me : Me (Option (Home T)) View) (i word : ℕ) (h : Home T) (n : ℕ) → word ≡ store_lock g.frame i + 1 → MayGiveStore g.frame i me.0.caller → me.1 ≡ (i, Some h) ∷ rest me.1
      → h.broken ≡ marked i me.0.marks → Fits g.frame Law first (good_of stands store_view constants g) (next_fits store_view constants g) faults (count_at faults g.start) i me.0.caller h → faults h.store ≡ n → noted i me.0.counts ≤ n → (h.broken ≡ None → next_fits store_view constants g h.store (length me.0.caller.base))
      → Allows Holds slots id me word (λ _. 0) (given_store g.frame n (step slots word 0 0 none) me)
  gives_store_at slots id me i word h n is may carries marked fits counted seen may_follow = subst (λ (z : Ground T). Allows (Rule law stands store_view constants faults z) slots id me word (λ _. 0) (given_store g.frame n (step slots word 0 0 none) me)) same
      (gives_store T Law first (good_of stands store_view constants g) (next_fits store_view constants g) (λ x a b le h w. (let z = h w in omega arith)) faults (count_at faults g.start) g.frame slots id me i word h n is may carries marked fits counted seen may_follow)

  pub commits_at : (slots id : ℕ) (me : Me (Option (Home T)) View) (e : Entry) → MayCommit g.frame Law first e me.0.caller → Allows Holds slots id me 0 (λ x. (x + 1) % 2 ^ 64) (made g.frame Law first e (step slots 0 1 0 none) me)
  commits_at slots id me e may = subst (λ (z : Ground T). Allows (Rule law stands store_view constants faults z) slots id me 0 (λ x. (x + 1) % 2 ^ 64) (made g.frame Law first e (step slots 0 1 0 none) me)) same
      (commits T Law first (good_of stands store_view constants g) (next_fits store_view constants g) (λ x a b le h w. (let z = h w in omega arith)) faults (count_at faults g.start) g.frame slots id me e may)

  pub gives_stripe_at : (slots id : ℕ) (me : Me (Option (Home T)) View) (l : ℕ) → MayGiveStripe g.frame l me.0.caller → Allows Holds slots id me (l + 1) (λ _. 0) (given (step slots (l + 1) 0 0 none) me)
  gives_stripe_at slots id me l may = subst (λ (z : Ground T). Allows (Rule law stands store_view constants faults z) slots id me (l + 1) (λ _. 0) (given (step slots (l + 1) 0 0 none) me)) same
      (gives_stripe T Law first (good_of stands store_view constants g) (next_fits store_view constants g) (λ x a b le h w. (let z = h w in omega arith)) faults (count_at faults g.start) g.frame slots id me l may)

  pub looks_at : (slots id : ℕ) (me : Me (Option (Home T)) View) → me.0.caller.live ≡ true → Allows Holds slots id me 0 (λ x. x) (seen g.frame Law first (step slots 0 0 0 none) me)
  looks_at slots id me live = subst (λ (z : Ground T). Allows (Rule law stands store_view constants faults z) slots id me 0 (λ x. x) (seen g.frame Law first (step slots 0 0 0 none) me)) same
      (looks T Law first (good_of stands store_view constants g) (next_fits store_view constants g) (λ x a b le h w. (let z = h w in omega arith)) faults (count_at faults g.start) g.frame slots id me live)
