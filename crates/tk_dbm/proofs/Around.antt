-- What a call knows of stores that it visits one inside another.
use Rattle.std.proofs.Common.{◌≡◌, ◌≢◌, ◌⊎◌, inl, inr, ◌<◌, ◌≤◌, ◌^◌, ◌==◌, ◌||◌, ℕ, zero, suc, Bool, true, false, cond, List, [], ◌∷◌, ◌++◌, length, take, Option, Some, None, is_some, if◌then◌else◌, refl, sym, ap, ◌∙◌, subst, ⊎_elim, arith, eq-eqb}
use Rattle.std.specs.Prelude.{Contains}
use Rattle.std.proofs.lemmas.List.{append_assoc}
use Rattle.tk_status.specs.declared.Status.{Status}
use Rattle.tk_status.specs.declared.Status.TheVariants as statuses
use Rattle.tk_model.specs.Counts.{Rose}
use Rattle.tk_model.specs.declared.record.Pair.{Pair}
use Rattle.tk_model.specs.declared.record.Group.{Group}
use Rattle.tk_model.specs.declared.record.Entry.{Entry}
use Rattle.tk_store.specs.Store.{First, StoreView, StoreConstants}
use Rattle.tk_core.specs.declared.frame.Frame.{Frame}
use Rattle.tk_core.specs.Caller.{knows_broken}
use Rattle.tk_core.specs.Covers.{store_lock}
use Rattle.tk_core.specs.Lists.{has, AllBelow}
use Rattle.tk_core.specs.Rule.{Still, map_after}
use Rattle.tk_core.proofs.Facts.{by_test, by_bool, has_cons, has_head, has_tail, not_both}
use Rattle.tk_locks.specs.View.{View, noted, marked}
use Rattle.tk_locks.specs.Rule.{Ground, records_in}
use Rattle.tk_locks.specs.Steps.{MayMark}
use Rattle.tk_locks.specs.Tells.{MayMake, Makes}
use Rattle.tk_locks.proofs.Facts.{prefix_length}
use Rattle.tk_dbm.specs.declared.visit.Part.{Part}
use Rattle.tk_dbm.specs.Setting.{Setting, setting_of, records_at, newest}
use Rattle.tk_dbm.specs.Calls.{ByStatus, Failed, is_system}
use Rattle.tk_dbm.specs.Parts.{MadeAt}
use Rattle.tk_dbm.specs.Visiting.{stores_of, Climbs, SteadyAt, Steady, VisitStores, Visits}
use Rattle.tk_dbm.proofs.Changing.{kept_at, take_front}

-- ---- places in lists of counts

contains_cons : {A : Type 0} (a x : A) (xs : List A) → Contains (x ∷ xs) a → (x ≡ a) ⊎ Contains xs a
contains_cons a x xs (zero, low, at) = inl at
contains_cons a x xs (suc k, low, at) = inr (k, omega arith, at)

pub contains_next : {A : Type 0} (a x : A) (xs : List A) → Contains xs a → Contains (x ∷ xs) a
contains_next a x xs (k, low, at) = (suc k, omega arith, at)

contains_first : {A : Type 0} (a : A) (xs : List A) → Contains (a ∷ xs) a
contains_first a xs = (0, omega arith, refl)

contains_behind : {A : Type 0} (a : A) (xs ys : List A) → Contains ys a → Contains (xs ++ ys) a
contains_behind a [] ys h = h
contains_behind a (x ∷ xs) ys h = contains_next a x (xs ++ ys) (contains_behind a xs ys h)

contains_split : {A : Type 0} (a : A) (xs ys : List A) → Contains (xs ++ ys) a → Contains xs a ⊎ Contains ys a
contains_split a [] ys h = inr h
contains_split a (x ∷ xs) ys h = ⊎_elim (λ (e : x ≡ a). inl (subst (λ (z : _). Contains (z ∷ xs) a) (sym e) (contains_first a xs)))
    (λ (t : Contains (xs ++ ys) a). ⊎_elim (λ (l : Contains xs a). inl (contains_next a x xs l)) (λ (r : Contains ys a). inr r) (contains_split a xs ys t)) (contains_cons a x (xs ++ ys) h)

-- what is told of a store is told by a newest count
told_newest : (i a : ℕ) (cs : List (ℕ × ℕ)) → Contains cs (i, a) → is_some (newest i cs) ≡ true
told_newest i a [] h = absurd (let l = h.1 in omega arith)
told_newest i a (c ∷ cs) h = ⊎_elim (λ (e : c ≡ (i, a)). ap (λ (b : Bool). is_some (if b then Some c.1 else newest i cs)) (eq-eqb c.0 i (ap (λ (z : ℕ × ℕ). z.0) e)))
    (λ (t : Contains cs (i, a)). either (c.0 == i) (told_newest i a cs t)) (contains_cons (i, a) c cs h)
  where
    either : (b : Bool) → is_some (newest i cs) ≡ true → is_some (if b then Some c.1 else newest i cs) ≡ true
    either true t = refl
    either false t = t

pub newest_here : {A : Type 0} (i : ℕ) (a : A) (ps : List (ℕ × A)) → newest i ((i, a) ∷ ps) ≡ Some a
newest_here i a ps = ap (λ (z : Bool). if z then Some a else newest i ps) (eq-eqb i i refl)

newest_past : {A : Type 0} (i j : ℕ) (a : A) (ps : List (ℕ × A)) → j ≢ i → newest j ((i, a) ∷ ps) ≡ newest j ps
newest_past i j a ps differ = by_test i j (λ (b : Bool). (if b then Some a else newest j ps) ≡ newest j ps) (λ e. absurd (differ (sym e))) (λ _. refl)

newest_front : {A : Type 0} (j : ℕ) (a : A) (ps qs : List (ℕ × A)) → newest j ps ≡ Some a → newest j (ps ++ qs) ≡ Some a
newest_front j a [] qs e = absurd (cc (e))
newest_front j a (p ∷ ps) qs e = go (p.0 == j) (newest_front j a ps qs) e
  where
    go : (b : Bool) → (newest j ps ≡ Some a → newest j (ps ++ qs) ≡ Some a) → (if b then Some p.1 else newest j ps) ≡ Some a → (if b then Some p.1 else newest j (ps ++ qs)) ≡ Some a
    go true f e = e
    go false f e = f e

newest_over : {A : Type 0} (j : ℕ) (ps qs : List (ℕ × A)) → newest j ps ≡ None → newest j (ps ++ qs) ≡ newest j qs
newest_over j [] qs e = refl
newest_over j (p ∷ ps) qs e = go (p.0 == j) (newest_over j ps qs) e
  where
    go : (b : Bool) → (newest j ps ≡ None → newest j (ps ++ qs) ≡ newest j qs) → (if b then Some p.1 else newest j ps) ≡ None → (if b then Some p.1 else newest j (ps ++ qs)) ≡ newest j qs
    go true f e = absurd (cc (e))
    go false f e = f e

none_of : {A : Type 0} (o : Option A) → is_some o ≡ false → o ≡ None
none_of None e = refl
none_of (Some a) e = absurd (cc (e))

-- a store that these lists don't name has the counts and marks of before
pub noted_over : (i : ℕ) (cs ds : List (ℕ × ℕ)) → is_some (newest i cs) ≡ false → noted i (cs ++ ds) ≡ noted i ds
noted_over i [] ds e = refl
noted_over i (c ∷ cs) ds e = by_test c.0 i (λ (b : Bool). is_some (if b then Some c.1 else newest i cs) ≡ false → noted i ((c ∷ cs) ++ ds) ≡ noted i ds) (λ _ t. absurd (cc (t)))
    (λ differ t. by_test i c.0 (λ (b : Bool). cond b c.1 (noted i (cs ++ ds)) ≡ noted i ds) (λ same. absurd (differ (sym same))) (λ _. noted_over i cs ds t)) e

pub marked_over : (i : ℕ) (cs ds : List (ℕ × Option ℕ)) → is_some (newest i cs) ≡ false → marked i (cs ++ ds) ≡ marked i ds
marked_over i [] ds e = refl
marked_over i (c ∷ cs) ds e = by_test c.0 i (λ (b : Bool). is_some (if b then Some c.1 else newest i cs) ≡ false → marked i ((c ∷ cs) ++ ds) ≡ marked i ds) (λ _ t. absurd (cc (t)))
    (λ differ t. by_test i c.0 (λ (b : Bool). cond b c.1 (marked i (cs ++ ds)) ≡ marked i ds) (λ same. absurd (differ (sym same))) (λ _. marked_over i cs ds t)) e

-- ---- stores in rising order

pub climbs_above : (f : Frame) (is held : List ℕ) → Climbs f is held → (j : ℕ) → has j is ≡ true → AllBelow (store_lock f j) held
climbs_above f [] held c j h = absurd (cc (h))
climbs_above f (i ∷ is) held c j h = ⊎_elim (λ (e : j ≡ i). subst (λ (z : ℕ). AllBelow (store_lock f z) held) (sym e) c.1)
    (λ (t : (j ≢ i) × (has j is ≡ true)). λ x at. climbs_above f is (store_lock f i ∷ held) c.2 j t.1 x (has_tail x (store_lock f i) held at)) (has_cons j i is h)

pub above : (f : Frame) (i : ℕ) (is held : List ℕ) → Climbs f (i ∷ is) held → (j : ℕ) → has j is ≡ true → i < j
above f i is held c j h = let l = climbs_above f is (store_lock f i ∷ held) c.2 j h (store_lock f i) (has_head (store_lock f i) held) in omega arith

pub apart : (f : Frame) (i : ℕ) (is held : List ℕ) → Climbs f (i ∷ is) held → has i is ≡ false
apart f i is held c = by_bool (has i is) (λ t. absurd (let l = above f i is held c i t in omega arith)) (λ e. e)

or_first : (p q r t : Bool) → p ≡ true → (p || q || r || t) ≡ true
or_first true q r t e = refl
or_first false q r t e = absurd (cc (e))

or_second : (p q r t : Bool) → q ≡ true → (p || q || r || t) ≡ true
or_second true q r t e = refl
or_second false true r t e = refl
or_second false false r t e = absurd (cc (e))

pub or_third : (p q r t : Bool) → r ≡ true → (p || q || r || t) ≡ true
or_third true q r t e = refl
or_third false true r t e = refl
or_third false false true t e = refl
or_third false false false t e = absurd (cc (e))

or_last : (p q r t : Bool) → t ≡ true → (p || q || r || t) ≡ true
or_last true q r t e = refl
or_last false true r t e = refl
or_last false false true t e = refl
or_last false false false t e = e

-- a visit of other stores leaves the count and the mark of this one
pub noted_then : (s : Setting) (ps : List Part) (u x : View) (st : Status) (i : ℕ) → has i (stores_of ps) ≡ false → VisitStores s ps u st x → noted i x.counts ≡ noted i u.counts
noted_then s ps u x st i none t = ap (noted i) t.counts_are ∙ noted_over i t.counts u.counts
    (by_bool (is_some (newest i t.counts)) (λ told. absurd (not_both (has i (stores_of ps)) (t.own i (or_first _ (is_some (newest i t.marks)) (has i t.more) (has i t.found) told)) none)) (λ e. e))

pub marked_then : (s : Setting) (ps : List Part) (u x : View) (st : Status) (i : ℕ) → has i (stores_of ps) ≡ false → VisitStores s ps u st x → marked i x.marks ≡ marked i u.marks
marked_then s ps u x st i none t = ap (marked i) t.marks_are ∙ marked_over i t.marks u.marks
    (by_bool (is_some (newest i t.marks)) (λ told. absurd (not_both (has i (stores_of ps)) (t.own i (or_second (is_some (newest i t.counts)) _ (has i t.more) (has i t.found) told)) none)) (λ e. e))

pub mark_same : (f : Frame) (begun : ℕ → ℕ) (i : ℕ) (u x : View) (b : Option ℕ) → marked i x.marks ≡ marked i u.marks → MayMark f begun i u b → MayMark f begun i x b
mark_same f begun i u x b same may = record { stays = λ t. may.stays (sym (ap is_some same) ∙ t) ∙ sym same; risen = λ n none e. may.risen n (sym same ∙ none) e }

-- ---- the number

pub numbered : {T : Type 0} (law : List Pair → Bool) (stands : T → First → List Group → ℕ → Type 0) (store_view : T → StoreView) (constants : T → StoreConstants) (faults : T → ℕ) (g : Ground T) (writable : Bool) (over : ℕ → List Entry → Entry → ℕ → ℕ → ℕ → Type 0) (room : ℕ → List Entry → Entry → Type 0) (E : List Pair → Entry) (v : View) (n : ℕ) (w : View)
    → MayMake law store_view g (E (map_after g.frame (records_in g.frame.order store_view g.start) v.caller.base)) v.caller → (makes : Makes law store_view g (E (map_after g.frame (records_in g.frame.order store_view g.start) v.caller.base)) v n w)
    → E (map_after g.frame (records_in g.frame.order store_view g.start) v.caller.base) ≡ E (map_after g.frame (records_in g.frame.order store_view g.start) makes.0) → Visits (setting_of law store_view faults g writable) over room E [] v (record { status = statuses.Success; number = Some n }) w
numbered law stands store_view constants faults g writable over room E v n w may makes same =
    let e : Entry = E (map_after g.frame (records_in g.frame.order store_view g.start) v.caller.base) in
    let past : take n w.caller.seen ≡ makes.0 = ap (λ (z : View). take n z.caller.seen) makes.5 ∙ take_front makes.0 e n makes.3 in
    let here : E (map_after g.frame (records_in g.frame.order store_view g.start) v.caller.base) ≡ E (records_at (setting_of law store_view faults g writable) w.caller n) = same ∙ ap (λ (es : List Entry). E (map_after g.frame (records_in g.frame.order store_view g.start) es)) (sym past) in
    record {
      stores = record {
        counts = [];
        marks = [];
        more = [];
        found = [];
        counts_are = ap (λ (z : View). z.counts) makes.5;
        marks_are = ap (λ (z : View). z.marks) makes.5;
        broke_is = ap (λ (z : View). z.caller.broke) makes.5;
        met_is = ap (λ (z : View). z.caller.met) makes.5;
        own = λ j h. absurd (cc (h));
        by_status = λ before steady. (refl, refl);
      };
      base = ap (λ (z : View). z.caller.base) makes.5 ∙ sym (ap (λ (z : View). z.caller.seen) makes.5);
      risen = λ k q. absurd (cc (q));
      made = λ q is. subst (λ (z : ℕ). MadeAt (setting_of law store_view faults g writable) (E (records_at (setting_of law store_view faults g writable) w.caller z)) v.caller w.caller z × Still g.frame (records_in g.frame.order store_view g.start) (take z w.caller.seen) v.caller × (length v.caller.base ≤ z) × (z < 2 ^ 62)) (same_number n q is) (
        subst (λ (z : Entry). MadeAt (setting_of law store_view faults g writable) z v.caller w.caller n) here (kept_at law stands store_view constants faults g writable e v n w may makes),
        subst (λ (es : List Entry). Still g.frame (records_in g.frame.order store_view g.start) es v.caller) (sym past) makes.1.still,
        (let p = prefix_length v.caller.base makes.0 makes.1.base in let l = makes.3 in omega arith),
        makes.4,
      );
      ended = λ q is. inl refl;
      rooms = λ q is i h. absurd (cc (h));
      not_made = λ q. absurd (cc (q));
    }
  where
    same_number : (n q : ℕ) → Some n ≡ Some q → n ≡ q
    same_number n q e = cc (e)

-- ---- a store is given back

has_over : (i : ℕ) (xs ys : List ℕ) → has i xs ≡ false → has i (xs ++ ys) ≡ has i ys
has_over i [] ys e = refl
has_over i (x ∷ xs) ys e = by_test i x (λ (b : Bool). (b || has i xs) ≡ false → (b || has i (xs ++ ys)) ≡ has i ys) (λ _ t. absurd (cc (t))) (λ _ t. has_over i xs ys t) e

has_past : (b : Bool) (i j : ℕ) (xs : List ℕ) → j ≢ i → has j (cond b (i ∷ []) [] ++ xs) ≡ has j xs
has_past true i j xs differ = by_test j i (λ (z : Bool). (z || has j xs) ≡ has j xs) (λ e. absurd (differ e)) (λ _. refl)
has_past false i j xs differ = refl

pub unknown_then : (s : Setting) (ps : List Part) (u x : View) (st : Status) (i : ℕ) → has i (stores_of ps) ≡ false → VisitStores s ps u st x → knows_broken u.caller i ≡ false → x.caller.breaking ≡ [] → knows_broken x.caller i ≡ false
unknown_then s ps u x st i none t unknown calm =
    let unfound : has i t.found ≡ false = by_bool (has i t.found) (λ told. absurd (not_both (has i (stores_of ps)) (t.own i (or_last (is_some (newest i t.counts)) (is_some (newest i t.marks)) (has i t.more) _ told)) none)) (λ e. e) in
    ap (λ (z : List ℕ). has i z || has i x.caller.breaking) t.met_is ∙ ap (λ (z : Bool). z || has i x.caller.breaking) (has_over i t.found u.caller.met unfound) ∙ ap (λ (z : List ℕ). has i u.caller.met || has i z) calm ∙ first_part (has i u.caller.met) (has i u.caller.breaking) unknown
  where
    first_part : (p q : Bool) → (p || q) ≡ false → (p || false) ≡ false
    first_part true q e = e
    first_part false q e = refl

newest_last : {A : Type 0} (i j : ℕ) (a : A) (cs : List (ℕ × A)) → j ≢ i → newest j (cs ++ (i, a) ∷ []) ≡ newest j cs
newest_last i j a [] differ = newest_past i j a [] differ
newest_last i j a (c ∷ cs) differ = ap (λ (z : Option _). if c.0 == j then Some c.1 else z) (newest_last i j a cs differ)

newest_between : {A : Type 0} (i j : ℕ) (a b : A) (cs : List (ℕ × A)) → j ≢ i → newest j ((i, a) ∷ cs ++ (i, b) ∷ []) ≡ newest j cs
newest_between i j a b cs differ = newest_past i j a (cs ++ (i, b) ∷ []) differ ∙ newest_last i j b cs differ

steady_more : (i n : ℕ) (before : List (ℕ × ℕ)) (ps : List Part) → ((j : ℕ) → has j (stores_of ps) ≡ true → i < j) → Steady before ps → Steady ((i, n) ∷ before) ps
steady_more i n before [] behind t = tt
steady_more i n before (p ∷ ps) behind t = (at p.seen t.0, steady_more i n before ps (λ j h. behind j (has_tail j p.store (stores_of ps) h)) t.1)
  where
    differ : (a : ℕ) → ◌≡◌ {A = ℕ × ℕ} (i, n) (p.store, a) → ⊥
    differ a e = let same = ap (λ (z : ℕ × ℕ). z.0) e in let low = behind p.store (has_head p.store (stores_of ps)) in absurd (omega arith)

    old : (a : ℕ) → Contains ((i, n) ∷ before) (p.store, a) → Contains before (p.store, a)
    old a h = ⊎_elim (λ (e : ◌≡◌ {A = ℕ × ℕ} (i, n) (p.store, a)). absurd (differ a e)) (λ (z : Contains before (p.store, a)). z) (contains_cons (p.store, a) (i, n) before h)

    at : (o : Option ℕ) → SteadyAt before p.store o → SteadyAt ((i, n) ∷ before) p.store o
    at None z = λ a h. z a (old a h)
    at (Some q) z = ((λ a h. z.0 a (old a h)), contains_next (p.store, q) (i, n) before z.1)

-- how a store is given back around the visits of others, by what they were told
abbrev pub Turns : (n k : ℕ) → Option ℕ → Status → Status → Type 0
Turns n k b inner st = ((b ≡ None) × (st ≡ inner) × (is_system inner ≡ false)) ⊎ (((z : ℕ) × (inner ≡ statuses.System z) × (st ≡ statuses.System z) × (b ≡ Some z) × (k ≡ n)) ⊎ ((inner ≡ statuses.Success) × (st ≡ statuses.System k) × (b ≡ Some k) × Rose n k))

module _ (s : Setting) (p : Part) (ps : List Part) (n k : ℕ) (v u x w : View) (inner : Status) (behind : (j : ℕ) → has j (stores_of ps) ≡ true → p.store < j) (t : VisitStores s ps u inner x) (seen_is : (q : ℕ) → p.seen ≡ Some q → q ≡ n) where
  abbrev i : ℕ
  i = p.store

  other : (j : ℕ) → has j (stores_of ps) ≡ true → j ≢ i
  other j h same = absurd (let l = behind j h in omega arith)

  abbrev all_counts : List (ℕ × ℕ)
  all_counts = (i, k) ∷ t.counts ++ (i, n) ∷ []

  abbrev all_marks : Option ℕ → List (ℕ × Option ℕ)
  all_marks b = (i, b) ∷ t.marks ++ (i, None) ∷ []

  abbrev all_more : Option ℕ → List ℕ
  all_more b = cond (is_some b) (i ∷ []) [] ++ t.more

  all_own : (b : Option ℕ) (j : ℕ) → (is_some (newest j all_counts) || is_some (newest j (all_marks b)) || has j (all_more b) || has j t.found) ≡ true → has j (i ∷ stores_of ps) ≡ true
  all_own b j h = by_test j i (λ (z : Bool). (z || has j (stores_of ps)) ≡ true) (λ _. refl) (λ differ. t.own j (
      ap (λ (z : Option ℕ). is_some z || is_some (newest j t.marks) || has j t.more || has j t.found) (sym (newest_between i j k n t.counts differ))
      ∙ ap (λ (z : Option (Option ℕ)). is_some (newest j all_counts) || is_some z || has j t.more || has j t.found) (sym (newest_between i j b None t.marks differ))
      ∙ ap (λ (z : Bool). is_some (newest j all_counts) || is_some (newest j (all_marks b)) || z || has j t.found) (sym (has_past (is_some b) i j t.more differ)) ∙ h))

  module _ (before : List (ℕ × ℕ)) (steady : Steady before (p ∷ ps)) where
    abbrev deep : List (ℕ × ℕ)
    deep = t.counts ++ (i, n) ∷ before

    by_inner : ByStatus s deep t.marks t.more t.found inner
    by_inner = t.by_status ((i, n) ∷ before) (steady_more i n before ps behind steady.1)

    joined : all_counts ++ before ≡ (i, k) ∷ deep
    joined = ap (λ (z : List (ℕ × ℕ)). (i, k) ∷ z) (append_assoc t.counts ((i, n) ∷ []) before)

    -- the store stays as it was
    passed : (st : Status) → is_system st ≡ false → ByStatus s deep t.marks t.more t.found st → ByStatus s (all_counts ++ before) (all_marks None) t.more t.found st
    passed statuses.Success z h = h
    passed (statuses.System faults) z h = absurd (cc (z))
    passed statuses.NotImplemented z h = h
    passed statuses.Precondition z h = h
    passed statuses.InvalidArgument z h = h
    passed statuses.NotFound z h = h
    passed statuses.Infeasible z h = h
    passed statuses.Duplication z h = h
    passed (statuses.Broken faults) z h = record {
      store = h.store;
      met = h.met;
      kept = newest_between i h.store None None t.marks (other h.store (t.own h.store (or_last (is_some (newest h.store t.counts)) (is_some (newest h.store t.marks)) (has h.store t.more) _ h.met))) ∙ h.kept;
      risen = h.risen;
      order = h.order;
      none = h.none;
    }
    passed statuses.NoMemory z h = h
    passed (statuses.Full size need limit) z h = h
    passed statuses.Limit z h = h
    passed (statuses.TooLong length) z h = h

    seen_before : (o : Option ℕ) → ((q : ℕ) → o ≡ Some q → q ≡ n) → SteadyAt before i o → (a : ℕ) → Contains before (i, a) → a ≡ n
    seen_before None same z a h = absurd (z a h)
    seen_before (Some q) same z a h = z.0 a h ∙ same q refl

    unseen : (a : ℕ) → Contains t.counts (i, a) → ⊥
    unseen a h = other i (t.own i (or_first _ (is_some (newest i t.marks)) (has i t.more) (has i t.found) (told_newest i a t.counts h))) refl

    only_n : k ≡ n → (a : ℕ) → Contains ((i, k) ∷ deep) (i, a) → a ≡ n
    only_n same a h = ⊎_elim (λ (e : ◌≡◌ {A = ℕ × ℕ} (i, k) (i, a)). sym (ap (λ (z : ℕ × ℕ). z.1) e) ∙ same)
        (λ (d : Contains deep (i, a)). ⊎_elim (λ (l : Contains t.counts (i, a)). absurd (unseen a l))
        (λ (r : Contains ((i, n) ∷ before) (i, a)). ⊎_elim (λ (e : ◌≡◌ {A = ℕ × ℕ} (i, n) (i, a)). sym (ap (λ (z : ℕ × ℕ). z.1) e)) (λ (q : Contains before (i, a)). seen_before p.seen seen_is steady.0 a q) (contains_cons (i, a) (i, n) before r))
        (contains_split (i, a) t.counts ((i, n) ∷ before) d)) (contains_cons (i, a) (i, k) deep h)

    deeper : (j a : ℕ) → j ≢ i → Contains ((i, k) ∷ deep) (j, a) → Contains deep (j, a)
    deeper j a differ h = ⊎_elim (λ (e : ◌≡◌ {A = ℕ × ℕ} (i, k) (j, a)). absurd (differ (sym (ap (λ (z : ℕ × ℕ). z.0) e)))) (λ (d : Contains deep (j, a)). d) (contains_cons (j, a) (i, k) deep h)

    -- the store is broken with those behind it
    broken_too : (z : ℕ) → k ≡ n → Failed s deep t.marks t.more t.found z → ByStatus s ((i, k) ∷ deep) (all_marks (Some z)) (all_more (Some z)) t.found (statuses.System z)
    broken_too z same h = record {
      store = h.store;
      broken = has_tail h.store i t.more h.broken;
      before = h.before;
      began = contains_next (h.store, h.before) (i, k) deep h.began;
      ended = newest_past i h.store k deep (apart_from h.store h.broken) ∙ h.ended;
      risen = h.risen;
      order = λ j less has_j. ⊎_elim (λ (e : j ≡ i). λ a b ca cb. only_n same a (subst (λ (q : ℕ). Contains ((i, k) ∷ deep) (q, a)) e ca) ∙ sym (only_n same b (subst (λ (q : ℕ). Contains ((i, k) ∷ deep) (q, b)) e cb)))
          (λ (q : (j ≢ i) × (has j t.more ≡ true)). λ a b ca cb. h.order j less q.1 a b (deeper j a q.0 ca) (deeper j b q.0 cb)) (has_cons j i t.more has_j);
      kept = λ j has_j. ⊎_elim (λ (e : j ≡ i). subst (λ (q : ℕ). newest q (all_marks (Some z)) ≡ Some (Some z)) (sym e) (newest_here i (Some z) (t.marks ++ (i, None) ∷ [])))
          (λ (q : (j ≢ i) × (has j t.more ≡ true)). newest_between i j (Some z) None t.marks q.0 ∙ h.kept j q.1) (has_cons j i t.more has_j);
      none = h.none;
    }
      where
        apart_from : (j : ℕ) → has j t.more ≡ true → j ≢ i
        apart_from j h2 = other j (t.own j (or_third (is_some (newest j t.counts)) (is_some (newest j t.marks)) _ (has j t.found) h2))

    -- the store failed, and those behind it didn't
    failed_after : (t.more ≡ []) × (t.found ≡ []) → Rose n k → ByStatus s ((i, k) ∷ deep) (all_marks (Some k)) (all_more (Some k)) t.found (statuses.System k)
    failed_after calm rose = record {
      store = i;
      broken = has_head i t.more;
      before = n;
      began = contains_next (i, n) (i, k) deep (contains_behind (i, n) t.counts ((i, n) ∷ before) (contains_first (i, n) before));
      ended = newest_here i k deep;
      risen = rose;
      order = λ j less has_j. absurd (let e = only_i j has_j in omega arith);
      kept = λ j has_j. subst (λ (q : ℕ). newest q (all_marks (Some k)) ≡ Some (Some k)) (sym (only_i j has_j)) (newest_here i (Some k) (t.marks ++ (i, None) ∷ []));
      none = calm.1;
    }
      where
        only_i : (j : ℕ) → has j (i ∷ t.more) ≡ true → j ≡ i
        only_i j h = ⊎_elim (λ (e : j ≡ i). e) (λ (q : (j ≢ i) × (has j t.more ≡ true)). absurd (not_both (has j t.more) q.1 (ap (has j) calm.0))) (has_cons j i t.more h)

    turned : (b : Option ℕ) (st : Status) → Turns n k b inner st → ByStatus s (all_counts ++ before) (all_marks b) (all_more b) t.found st
    turned b st turns = ⊎_elim
        (λ (c : (b ≡ None) × (st ≡ inner) × (is_system inner ≡ false)). subst (λ (o : Option ℕ). ByStatus s (all_counts ++ before) (all_marks o) (all_more o) t.found st) (sym c.0) (subst (λ (z : Status). ByStatus s (all_counts ++ before) (all_marks None) t.more t.found z) (sym c.1) (passed inner c.2 by_inner)))
        (λ (r : ((z : ℕ) × (inner ≡ statuses.System z) × (st ≡ statuses.System z) × (b ≡ Some z) × (k ≡ n)) ⊎ ((inner ≡ statuses.Success) × (st ≡ statuses.System k) × (b ≡ Some k) × Rose n k)). ⊎_elim
        (λ (c : (z : ℕ) × (inner ≡ statuses.System z) × (st ≡ statuses.System z) × (b ≡ Some z) × (k ≡ n)). subst (λ (cs : List (ℕ × ℕ)). ByStatus s cs (all_marks b) (all_more b) t.found st) (sym joined)
        (subst (λ (o : Option ℕ). ByStatus s ((i, k) ∷ deep) (all_marks o) (all_more o) t.found st) (sym c.3) (subst (λ (z : Status). ByStatus s ((i, k) ∷ deep) (all_marks (Some c.0)) (all_more (Some c.0)) t.found z) (sym c.2)
        (broken_too c.0 c.4 (subst (ByStatus s deep t.marks t.more t.found) c.1 by_inner)))))
        (λ (c : (inner ≡ statuses.Success) × (st ≡ statuses.System k) × (b ≡ Some k) × Rose n k). subst (λ (cs : List (ℕ × ℕ)). ByStatus s cs (all_marks b) (all_more b) t.found st) (sym joined)
        (subst (λ (o : Option ℕ). ByStatus s ((i, k) ∷ deep) (all_marks o) (all_more o) t.found st) (sym c.2) (subst (λ (z : Status). ByStatus s ((i, k) ∷ deep) (all_marks (Some k)) (all_more (Some k)) t.found z) (sym c.1)
        (failed_after (subst (ByStatus s deep t.marks t.more t.found) c.0 by_inner) c.3)))) r) turns

  pub around : (b : Option ℕ) (st : Status) → u.counts ≡ (i, n) ∷ v.counts → u.marks ≡ (i, None) ∷ v.marks → u.caller.broke ≡ v.caller.broke → u.caller.met ≡ v.caller.met
      → w.counts ≡ (i, k) ∷ x.counts → w.marks ≡ (i, b) ∷ x.marks → w.caller.broke ≡ cond (is_some b) (i ∷ []) [] ++ x.caller.broke → w.caller.met ≡ x.caller.met → Turns n k b inner st → VisitStores s (p ∷ ps) v st w
  around b st counts marks broke met counts' marks' broke' met' turns = record {
    counts = all_counts;
    marks = all_marks b;
    more = all_more b;
    found = t.found;
    counts_are = counts' ∙ ap (λ (z : List (ℕ × ℕ)). (i, k) ∷ z) (t.counts_are ∙ ap (λ (z : List (ℕ × ℕ)). t.counts ++ z) counts ∙ sym (append_assoc t.counts ((i, n) ∷ []) v.counts));
    marks_are = marks' ∙ ap (λ (z : List (ℕ × Option ℕ)). (i, b) ∷ z) (t.marks_are ∙ ap (λ (z : List (ℕ × Option ℕ)). t.marks ++ z) marks ∙ sym (append_assoc t.marks ((i, None) ∷ []) v.marks));
    broke_is = broke' ∙ ap (λ (z : List ℕ). cond (is_some b) (i ∷ []) [] ++ z) (t.broke_is ∙ ap (λ (z : List ℕ). t.more ++ z) broke) ∙ sym (append_assoc (cond (is_some b) (i ∷ []) []) t.more v.caller.broke);
    met_is = met' ∙ t.met_is ∙ ap (λ (z : List ℕ). t.found ++ z) met;
    own = all_own b;
    by_status = λ before steady. turned before steady b st turns;
  }
