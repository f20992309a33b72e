-- What a pass knows after a store was taken and given back.
use Rattle.std.proofs.Common.{◌≡◌, ◌||◌, ◌&&◌, ◌==◌, ◌<◌, arith, zero, suc, length, length-append, not, ℕ, Bool, true, false, cond, List, [], ◌∷◌, ◌++◌, Option, Some, None, is_some, if◌then◌else◌, refl, sym, ap, ◌∙◌, subst, eqb-true, eq-eqb}
use Rattle.std.specs.Prelude.{Contains, slice_index_or}
use Rattle.std.proofs.lemmas.List.{append_assoc}
use Rattle.tk_status.specs.declared.Status.{Status}
use Rattle.tk_status.specs.declared.Status.TheVariants as statuses
use Rattle.tk_model.specs.Counts.{Rose}
use Rattle.tk_model.specs.declared.record.Entry.{Entry}
use Rattle.tk_core.specs.declared.frame.Frame.{Frame}
use Rattle.tk_core.specs.Caller.{knows_broken}
use Rattle.tk_core.specs.Covers.{store_lock}
use Rattle.tk_core.specs.Lists.{has, without, AllBelow}
use Rattle.tk_core.specs.Moves.{took_store, took_out, put_back, gave_store}
use Rattle.tk_core.proofs.Facts.{by_bool, has_head, has_tail, not_both}
use Rattle.tk_locks.specs.Rule.{Risen}
use Rattle.tk_locks.specs.View.{View, with_caller, with_count, with_mark}
use Rattle.tk_dbm.specs.Setting.{Setting, newest}
use Rattle.tk_dbm.specs.Calls.{Stores, ByStatus}
use Rattle.tk_dbm.specs.Parts.{Quiet}

-- a step that leaves locks, stores, counts and marks
pub record Beside (u x : View) : Type 0 where
  pub held : x.caller.held ≡ u.caller.held
  pub out : x.caller.out ≡ u.caller.out
  pub breaking : x.caller.breaking ≡ u.caller.breaking
  pub quiet : Quiet u x

pub beside_self : (u : View) → Beside u u
beside_self u = record { held = refl; out = refl; breaking = refl; quiet = record { counts = refl; marks = refl; broke = refl; met = refl } }

-- what a visit that found a mark and a count, and gave others, leaves
pub record Visited (i : ℕ) (was now : Option ℕ) (n k : ℕ) (v x w : View) : Type 0 where
  pub held : w.caller.held ≡ v.caller.held
  pub breaking : w.caller.breaking ≡ []
  pub broke : w.caller.broke ≡ cond (is_some now && not (is_some was)) (i ∷ []) [] ++ v.caller.broke
  pub met : w.caller.met ≡ cond (is_some was) (i ∷ []) [] ++ v.caller.met
  pub counts : w.counts ≡ (i, k) ∷ (i, n) ∷ v.counts
  pub marks : w.marks ≡ (i, now) ∷ (i, was) ∷ v.marks
  pub seen : w.caller.seen ≡ x.caller.seen
  pub mine : w.caller.mine ≡ x.caller.mine
  pub allowance : w.caller.allowance ≡ x.caller.allowance
  pub base : w.caller.base ≡ x.caller.base

pub without_new : (l : ℕ) (xs : List ℕ) → AllBelow l xs → without l (l ∷ xs) ≡ xs
without_new l xs below = ap (λ (z : Bool). cond z (without l xs) (l ∷ without l xs)) (eq-eqb l l refl) ∙ none xs below
  where
    none : (xs : List ℕ) → AllBelow l xs → without l xs ≡ xs
    none [] below = refl
    none (x ∷ xs) below = other (l == x) (λ e. absurd (let z = below x (has_head x xs) in let same = eqb-true l x e in omega arith)) (none xs (λ q h. below q (has_tail q x xs h)))
      where
        other : (b : Bool) → (b ≡ true → ⊥) → without l xs ≡ xs → cond b (without l xs) (x ∷ without l xs) ≡ x ∷ xs
        other true differ e = absurd (differ refl)
        other false differ e = ap (λ z. x ∷ z) e

pub either : (b : Bool) (i : ℕ) (xs : List ℕ) → cond b (i ∷ xs) xs ≡ cond b (i ∷ []) [] ++ xs
either true i xs = refl
either false i xs = refl

pub taken_back : (b : Bool) (i : ℕ) → without i (cond b (i ∷ []) []) ≡ []
taken_back true i = ap (λ (z : Bool). cond z (without i []) (i ∷ without i [])) (eq-eqb i i refl)
taken_back false i = refl

pub has_if : (b : Bool) (i : ℕ) → has i (cond b (i ∷ []) []) ≡ b
has_if true i = has_head i []
has_if false i = refl

pub visited : (f : Frame) (i : ℕ) (was now : Option ℕ) (n k : ℕ) (log : List Entry) (v u x w : View) → AllBelow (store_lock f i) v.caller.held → v.caller.breaking ≡ []
    → u ≡ with_mark i was (with_count i n (with_caller (took_out i (took_store f i (is_some was) log v.caller)) v)) → knows_broken u.caller i ≡ is_some was → Beside u x
    → w ≡ with_count i k (with_mark i now (with_caller (gave_store f i (put_back i (is_some now) x.caller)) x)) → Visited i was now n k v x w
visited f i was now n k log v u x w below none took knows beside gave =
    let breaking : x.caller.breaking ≡ [] = beside.breaking ∙ ap (λ (z : View). z.caller.breaking) took ∙ none in
    let known : knows_broken x.caller i ≡ is_some was = ap (λ (z : List ℕ). has i z || has i x.caller.breaking) beside.quiet.met ∙ ap (λ (z : List ℕ). has i u.caller.met || has i z) beside.breaking ∙ knows in
    let new : (put_back i (is_some now) x.caller).breaking ≡ cond (is_some now && not (is_some was)) (i ∷ []) [] =
    ap (λ (z : Bool). cond (is_some now && not z) (i ∷ x.caller.breaking) x.caller.breaking) known ∙ ap (λ (z : List ℕ). cond (is_some now && not (is_some was)) (i ∷ z) z) breaking in
    record {
      held = ap (λ (z : View). z.caller.held) gave ∙ ap (without (store_lock f i)) (beside.held ∙ ap (λ (z : View). z.caller.held) took) ∙ without_new (store_lock f i) v.caller.held below;
      breaking = ap (λ (z : View). z.caller.breaking) gave ∙ ap (without i) new ∙ taken_back (is_some now && not (is_some was)) i;
      broke = ap (λ (z : View). z.caller.broke) gave ∙ ap (λ (z : List ℕ). cond (has i z) (i ∷ x.caller.broke) x.caller.broke) new ∙ ap (λ (z : Bool). cond z (i ∷ x.caller.broke) x.caller.broke) (has_if (is_some now && not (is_some was)) i)
          ∙ either (is_some now && not (is_some was)) i x.caller.broke ∙ ap (λ (z : List ℕ). cond (is_some now && not (is_some was)) (i ∷ []) [] ++ z) (beside.quiet.broke ∙ ap (λ (z : View). z.caller.broke) took);
      met = ap (λ (z : View). z.caller.met) gave ∙ beside.quiet.met ∙ ap (λ (z : View). z.caller.met) took ∙ either (is_some was) i v.caller.met;
      counts = ap (λ (z : View). z.counts) gave ∙ ap (λ (z : List (ℕ × ℕ)). (i, k) ∷ z) (beside.quiet.counts ∙ ap (λ (z : View). z.counts) took);
      marks = ap (λ (z : View). z.marks) gave ∙ ap (λ (z : List (ℕ × Option ℕ)). (i, now) ∷ z) (beside.quiet.marks ∙ ap (λ (z : View). z.marks) took);
      seen = ap (λ (z : View). z.caller.seen) gave;
      mine = ap (λ (z : View). z.caller.mine) gave;
      allowance = ap (λ (z : View). z.caller.allowance) gave;
      base = ap (λ (z : View). z.caller.base) gave;
    }

-- ---- what it knows then of stores

not_same : (i j : ℕ) → (j == i) ≡ false → (i == j) ≡ false
not_same i j h = by_bool (i == j) (λ t. absurd (not_both (j == i) (eq-eqb j i (sym (eqb-true i j t))) h)) (λ n. n)

-- lists of the store i alone are of no other store
pub own_alone : (i j : ℕ) (a b : ℕ) (c d : Option ℕ) (p q : Bool) → (is_some (newest j ((i, a) ∷ (i, b) ∷ [])) || is_some (newest j ((i, c) ∷ (i, d) ∷ [])) || has j (cond p (i ∷ []) []) || has j (cond q (i ∷ []) [])) ≡ true → (j == i) ≡ true
own_alone i j a b c d p q h = by_bool (j == i) (λ t. t) (λ differs. absurd (not_both (is_some (newest j ((i, a) ∷ (i, b) ∷ [])) || is_some (newest j ((i, c) ∷ (i, d) ∷ [])) || has j (cond p (i ∷ []) []) || has j (cond q (i ∷ []) [])) h
    (ap (λ (z : Bool). is_some (if z then Some a else (if z then Some b else None)) || is_some (if z then Some c else (if z then Some d else None)) || has j (cond p (i ∷ []) []) || has j (cond q (i ∷ []) [])) (not_same i j differs)
    ∙ ap (λ (z : Bool). z || has j (cond q (i ∷ []) [])) (hasnt p differs) ∙ hasnt q differs)))
  where
    hasnt : (p : Bool) → (j == i) ≡ false → has j (cond p (i ∷ []) []) ≡ false
    hasnt true differs = ap (λ (z : Bool). z || false) differs
    hasnt false differs = refl

newest_head : {A : Type 0} (i : ℕ) (a : A) (ps : List (ℕ × A)) → newest i ((i, a) ∷ ps) ≡ Some a
newest_head i a ps = ap (λ (z : Bool). if z then Some a else newest i ps) (eq-eqb i i refl)

only_i : (i j : ℕ) → has j (i ∷ []) ≡ true → j ≡ i
only_i i j h = by_bool (j == i) (eqb-true j i) (λ differs. absurd (not_both (has j (i ∷ [])) h (ap (λ (z : Bool). z || false) differs)))

-- the statuses that say nothing of stores
abbrev pub SaysNothing : Status → Type 0
SaysNothing statuses.Success = Unit {0}
SaysNothing (statuses.System faults) = ⊥
SaysNothing statuses.NotImplemented = Unit {0}
SaysNothing statuses.Precondition = Unit {0}
SaysNothing statuses.InvalidArgument = Unit {0}
SaysNothing statuses.NotFound = Unit {0}
SaysNothing statuses.Infeasible = Unit {0}
SaysNothing statuses.Duplication = Unit {0}
SaysNothing (statuses.Broken faults) = ⊥
SaysNothing statuses.NoMemory = Unit {0}
SaysNothing (statuses.Full size need limit) = Unit {0}
SaysNothing statuses.Limit = Unit {0}
SaysNothing (statuses.TooLong length) = Unit {0}

module _ (s : Setting) (i : ℕ) where
  abbrev own : ℕ → Bool
  own j = j == i

  pub says_nothing : (counts : List (ℕ × ℕ)) (marks : List (ℕ × Option ℕ)) (more found : List ℕ) (st : Status) → SaysNothing st → (more ≡ []) × (found ≡ []) → ByStatus s counts marks more found st
  says_nothing counts marks more found statuses.Success z h = h
  says_nothing counts marks more found (statuses.System faults) z h = absurd z
  says_nothing counts marks more found statuses.NotImplemented z h = h
  says_nothing counts marks more found statuses.Precondition z h = h
  says_nothing counts marks more found statuses.InvalidArgument z h = h
  says_nothing counts marks more found statuses.NotFound z h = h
  says_nothing counts marks more found statuses.Infeasible z h = h
  says_nothing counts marks more found statuses.Duplication z h = h
  says_nothing counts marks more found (statuses.Broken faults) z h = absurd z
  says_nothing counts marks more found statuses.NoMemory z h = h
  says_nothing counts marks more found (statuses.Full size need limit) z h = h
  says_nothing counts marks more found statuses.Limit z h = h
  says_nothing counts marks more found (statuses.TooLong length) z h = h

  -- the store was whole and stayed so
  pub stayed_whole : (n k : ℕ) (v x w : View) (st : Status) → SaysNothing st → Visited i None None n k v x w → Stores s own v st w
  stayed_whole n k v x w st z t = record {
    counts = (i, k) ∷ (i, n) ∷ [];
    marks = (i, None) ∷ (i, None) ∷ [];
    more = [];
    found = [];
    counts_are = t.counts;
    marks_are = t.marks;
    broke_is = t.broke;
    met_is = t.met;
    own = λ j h. own_alone i j k n None None false false h;
    by_status = says_nothing ((i, k) ∷ (i, n) ∷ []) ((i, None) ∷ (i, None) ∷ []) [] [] st z (refl, refl);
  }

  -- the store was found broken
  pub was_broken : (n k faults : ℕ) (v x w : View) → Risen s.frame s.begun faults → Visited i (Some faults) (Some faults) n k v x w → Stores s own v (statuses.Broken faults) w
  was_broken n k faults v x w risen t = record {
    counts = (i, k) ∷ (i, n) ∷ [];
    marks = (i, Some faults) ∷ (i, Some faults) ∷ [];
    more = [];
    found = i ∷ [];
    counts_are = t.counts;
    marks_are = t.marks;
    broke_is = t.broke;
    met_is = t.met;
    own = λ j h. own_alone i j k n (Some faults) (Some faults) false true h;
    by_status = record {
      store = i;
      met = has_head i [];
      kept = newest_head i (Some faults) ((i, Some faults) ∷ []);
      risen = risen;
      order = λ j less. by_bool (has j (i ∷ [])) (λ h. absurd (omega (arith, less, only_i i j h))) (λ h. h);
      none = refl;
    };
  }

  -- the store failed
  pub has_failed : (n faults : ℕ) (v x w : View) → Rose n faults → Visited i None (Some faults) n faults v x w → Stores s own v (statuses.System faults) w
  has_failed n faults v x w rose t = record {
    counts = (i, faults) ∷ (i, n) ∷ [];
    marks = (i, Some faults) ∷ (i, None) ∷ [];
    more = i ∷ [];
    found = [];
    counts_are = t.counts;
    marks_are = t.marks;
    broke_is = t.broke;
    met_is = t.met;
    own = λ j h. own_alone i j faults n (Some faults) None true false h;
    by_status = record {
      store = i;
      broken = has_head i [];
      before = n;
      began = (1, (omega arith), refl);
      ended = newest_head i faults ((i, n) ∷ []);
      risen = rose;
      order = λ j less h. absurd (omega (arith, less, only_i i j h));
      kept = λ j h. subst (λ (z : ℕ). newest z ((i, Some faults) ∷ (i, None) ∷ []) ≡ Some (Some faults)) (sym (only_i i j h)) (newest_head i (Some faults) ((i, None) ∷ []));
      none = refl;
    };
  }

  -- ---- one after another

  left_go : {A : Type 0} (a x : A) (b : Bool) (rest more : Option A) → (rest ≡ Some a → more ≡ Some a) → (if b then Some x else rest) ≡ Some a → (if b then Some x else more) ≡ Some a
  left_go a x true rest more f e = e
  left_go a x false rest more f e = f e

  newest_left : {A : Type 0} (j : ℕ) (a : A) (ps qs : List (ℕ × A)) → newest j ps ≡ Some a → newest j (ps ++ qs) ≡ Some a
  newest_left j a [] qs e = absurd (cc (e))
  newest_left j a (p ∷ ps) qs e = left_go a p.1 (p.0 == j) (newest j ps) (newest j (ps ++ qs)) (newest_left j a ps qs) e

  parts_go : {A : Type 0} (x : A) (b : Bool) (rest more other : Option A) → is_some more ≡ (is_some rest || is_some other) → is_some (if b then Some x else more) ≡ (is_some (if b then Some x else rest) || is_some other)
  parts_go x true rest more other e = refl
  parts_go x false rest more other e = e

  pub newest_parts : {A : Type 0} (j : ℕ) (ps qs : List (ℕ × A)) → is_some (newest j (ps ++ qs)) ≡ (is_some (newest j ps) || is_some (newest j qs))
  newest_parts j [] qs = refl
  newest_parts j (p ∷ ps) qs = parts_go p.1 (p.0 == j) (newest j ps) (newest j (ps ++ qs)) (newest j qs) (newest_parts j ps qs)

  at_left : {A : Type 0} (a : A) (xs ys : List A) (k : ℕ) → k < length xs → slice_index_or (xs ++ ys) k a ≡ slice_index_or xs k a
  at_left a [] ys k low = absurd (omega arith)
  at_left a (x ∷ xs) ys zero low = refl
  at_left a (x ∷ xs) ys (suc k) low = at_left a xs ys k (omega arith)

  contains_left : {A : Type 0} (a : A) (xs ys : List A) → Contains xs a → Contains (xs ++ ys) a
  contains_left a xs ys h = let n = length-append xs ys in let low = h.1 in (h.0, (omega arith), at_left a xs ys h.0 low ∙ h.2)

  append_more : {A : Type 0} (w v x : List A) (a b : List A) → x ≡ a ++ w → w ≡ b ++ v → x ≡ (a ++ b) ++ v
  append_more w v x a b p q = p ∙ ap (λ z. a ++ z) q ∙ sym (append_assoc a b v)

  pub by_then : (counts counts' : List (ℕ × ℕ)) (marks marks' : List (ℕ × Option ℕ)) (more found : List ℕ) (st : Status) → ((j : ℕ) → has j more ≡ true → j ≡ i)
      → ByStatus s counts marks more found st → ByStatus s (counts ++ counts') (marks ++ marks') more found st
  by_then counts counts' marks marks' more found statuses.Success only h = h
  by_then counts counts' marks marks' more found (statuses.System faults) only h = record {
    store = h.store;
    broken = h.broken;
    before = h.before;
    began = contains_left (h.store, h.before) counts counts' h.began;
    ended = newest_left h.store faults counts counts' h.ended;
    risen = h.risen;
    order = λ j less has_j. absurd (omega (arith, less, only j has_j, only h.store h.broken));
    kept = λ j has_j. newest_left j (Some faults) marks marks' (h.kept j has_j);
    none = h.none;
  }
  by_then counts counts' marks marks' more found statuses.NotImplemented only h = h
  by_then counts counts' marks marks' more found statuses.Precondition only h = h
  by_then counts counts' marks marks' more found statuses.InvalidArgument only h = h
  by_then counts counts' marks marks' more found statuses.NotFound only h = h
  by_then counts counts' marks marks' more found statuses.Infeasible only h = h
  by_then counts counts' marks marks' more found statuses.Duplication only h = h
  by_then counts counts' marks marks' more found (statuses.Broken faults) only h = record {
    store = h.store;
    met = h.met;
    kept = newest_left h.store (Some faults) marks marks' h.kept;
    risen = h.risen;
    order = h.order;
    none = h.none;
  }
  by_then counts counts' marks marks' more found statuses.NoMemory only h = h
  by_then counts counts' marks marks' more found (statuses.Full size need limit) only h = h
  by_then counts counts' marks marks' more found statuses.Limit only h = h
  by_then counts counts' marks marks' more found (statuses.TooLong length) only h = h

  -- a visit after one that left the store whole
  pub stores_then : (v w x : View) (st : Status) → Stores s own v statuses.Success w → Stores s own w st x → Stores s own v st x
  stores_then v w x st a b = record {
    counts = b.counts ++ a.counts;
    marks = b.marks ++ a.marks;
    more = b.more;
    found = b.found;
    counts_are = append_more w.counts v.counts x.counts b.counts a.counts b.counts_are a.counts_are;
    marks_are = append_more w.marks v.marks x.marks b.marks a.marks b.marks_are a.marks_are;
    broke_is = b.broke_is ∙ ap (λ z. b.more ++ z) (a.broke_is ∙ ap (λ z. z ++ v.caller.broke) a.by_status.0);
    met_is = b.met_is ∙ ap (λ z. b.found ++ z) (a.met_is ∙ ap (λ z. z ++ v.caller.met) a.by_status.1);
    own = λ j h. owned j (is_some (newest j b.counts)) (is_some (newest j a.counts)) (is_some (newest j b.marks)) (is_some (newest j a.marks)) (has j b.more) (has j b.found)
        (λ t. b.own j t) (λ t. a.own j (t ∙ refl)) (sym (ap (λ (z : Bool). z || is_some (newest j (b.marks ++ a.marks)) || has j b.more || has j b.found) (newest_parts j b.counts a.counts)
        ∙ ap (λ (z : Bool). (is_some (newest j b.counts) || is_some (newest j a.counts)) || z || has j b.more || has j b.found) (newest_parts j b.marks a.marks)) ∙ h);
    by_status = by_then b.counts a.counts b.marks a.marks b.more b.found st (λ j h. eqb-true j i (b.own j (third (is_some (newest j b.counts)) (is_some (newest j b.marks)) (has j b.more) (has j b.found) h))) b.by_status;
  }
    where
      third : (p q r t : Bool) → r ≡ true → (p || q || r || t) ≡ true
      third true q r t h = refl
      third false true r t h = refl
      third false false true t h = refl
      third false false false t h = absurd (cc (h))

      owned : (j : ℕ) (p p' q q' r t : Bool) → ((p || q || r || t) ≡ true → own j ≡ true) → ((p' || q' || has j a.more || has j a.found) ≡ true → own j ≡ true) → ((p || p') || (q || q') || r || t) ≡ true → own j ≡ true
      owned j true p' q q' r t x y h = x refl
      owned j false true q q' r t x y h = y refl
      owned j false false true q' r t x y h = x refl
      owned j false false false true r t x y h = y refl
      owned j false false false false true t x y h = x refl
      owned j false false false false false true x y h = x refl
      owned j false false false false false false x y h = absurd (cc (h))

  -- no store was met
  pub no_store : (v w : View) (st : Status) → SaysNothing st → Quiet v w → Stores s own v st w
  no_store v w st z q = record {
    counts = [];
    marks = [];
    more = [];
    found = [];
    counts_are = q.counts;
    marks_are = q.marks;
    broke_is = q.broke;
    met_is = q.met;
    own = λ j h. absurd (cc (h));
    by_status = says_nothing [] [] [] [] st z (refl, refl);
  }

-- steps beside a visit
pub stores_between : (s : Setting) (uses : ℕ → Bool) (v v' w w' : View) (st : Status) → Quiet v v' → Quiet w w' → Stores s uses v' st w → Stores s uses v st w'
stores_between s uses v v' w w' st p q t = record {
  counts = t.counts;
  marks = t.marks;
  more = t.more;
  found = t.found;
  counts_are = q.counts ∙ t.counts_are ∙ ap (λ z. t.counts ++ z) p.counts;
  marks_are = q.marks ∙ t.marks_are ∙ ap (λ z. t.marks ++ z) p.marks;
  broke_is = q.broke ∙ t.broke_is ∙ ap (λ z. t.more ++ z) p.broke;
  met_is = q.met ∙ t.met_is ∙ ap (λ z. t.found ++ z) p.met;
  own = t.own;
  by_status = t.by_status;
}
