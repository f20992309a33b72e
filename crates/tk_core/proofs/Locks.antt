-- Moves on locks keep the rule.
use Rattle.std.proofs.Common.{◌≡◌, ◌≢◌, ◌&&◌, ◌||◌, ◌⊎◌, inl, inr, ℕ, suc, ◌+◌, ◌<◌, ◌≤◌, Bool, true, false, cond, List, ◌∷◌, length, set, refl, sym, ap, ◌∙◌, subst, ⊎_elim, arith, None}
use mathlib.Core.Logic.{dite}
use native.Mathlib.Decide.{ℕ_discrete}
use mathlib.Core.Option.{some, some-injective}
use lib.ListN.{get_elem?}
use Rattle.tk_model.specs.declared.record.Pair.{Pair}
use Rattle.tk_model.specs.declared.record.Group.{Group}
use Rattle.tk_model.specs.declared.record.Entry.{Entry}
use Rattle.tk_core.specs.declared.frame.Frame.{Frame}
use Rattle.tk_core.specs.Lists.{has, without, count, AllBelow, times, once_below, put}
use Rattle.tk_core.specs.Caller.{Caller, weight}
use Rattle.tk_core.specs.Covers.{Reads, stripe_lock, store_of, store_lock}
use Rattle.tk_core.specs.Rule.{IsLawful, Knows, Sound, groups_of, hard_groups}
use Rattle.tk_core.specs.Moves.{took_stripe, took_store, missed, gave_stripe, gave_store, looked}
use Rattle.tk_core.specs.Needs.{MayTake, MayMiss, MayGiveStripe, MayGiveStore, MayLook}
use Rattle.tk_core.proofs.Facts.{inside, set_here, set_else, put_case, by_test, by_bool, not_both, closed, has_cons, has_head, has_tail, has_skip, has_without, has_other, has_without_other, has_count, hasnt_count, count_without_same, count_without_other, total_set, total_at, prefix_self, seats_stay}

module _ (f : Frame) (law : List Pair → Type 0) (m : List Pair) (log : List Entry) (owner : ℕ → ℕ) (spoilt away : ℕ → Bool) (stands : ℕ → List Group → ℕ → Type 0) (callers : List Caller)
    (sound : Sound f law m log owner spoilt away stands callers) (id : ℕ) (v : Caller) (at : get_elem? callers id ≡ some v) where
  -- who has a lock
  pub its : (l j : ℕ) → owner l ≡ suc j → ((j ≡ id) × (has l v.held ≡ true)) ⊎ ((j ≢ id) × (owner l ≡ suc j))
  its l j o = dite (ℕ_discrete j id)
      (λ (y : j ≡ id). let h = sound.holder l j o in let e2 : h.0 ≡ v = some-injective _ _ (sym h.1 ∙ ap (get_elem? callers) y ∙ at) in inl (y, ap (λ (u : Caller). has l u.held) (sym e2) ∙ h.2))
      (λ ne. inr (ne, o))

  -- one caller has changed, and what the rule says of all holds
  pub moved : (log' : List Entry) (owner' : ℕ → ℕ) (spoilt' away' : ℕ → Bool) (stands' : ℕ → List Group → ℕ → Type 0) (w : Caller) → IsLawful f law m log'
      → ((l j : ℕ) → owner' l ≡ suc j → ((j ≡ id) × (has l w.held ≡ true)) ⊎ ((j ≢ id) × (owner l ≡ suc j)))
      → Knows f law m log' owner' spoilt' away' stands' id w
      → ((j : ℕ) (d : Caller) → j ≢ id → Knows f law m log owner spoilt away stands j d → Knows f law m log' owner' spoilt' away' stands' j d)
      → weight w ≡ weight v → ((k : ℕ) → times k w.mine + once_below k (length log) ≡ times k v.mine + once_below k (length log')) → length w.mine + length log ≡ length v.mine + length log'
      → ((i : ℕ) → (count i w.broke + count i w.breaking) + cond (spoilt i) 1 0 ≡ (count i v.broke + count i v.breaking) + cond (spoilt' i) 1 0)
      → ((i : ℕ) → owner' (store_lock f i) ≡ 0 → away' i ≡ false)
      → ((i : ℕ) → i < f.stores → spoilt' i ≡ false → away' i ≡ false → stands' i (groups_of f m log' i) (hard_groups f m log' i))
      → Sound f law m log' owner' spoilt' away' stands' (set callers id w)
  moved log' owner' spoilt' away' stands' w lawful holder own others same whole numbers tally home stores = record {
    frame = sound.frame;
    history = lawful;
    holder = λ l j e. ⊎_elim
        (λ (t : (j ≡ id) × (has l w.held ≡ true)). (w, subst (λ (z : ℕ). get_elem? (set callers id w) z ≡ some w) (sym t.0) (set_here callers id w (inside callers id v at)), t.1))
        (λ (t : (j ≢ id) × (owner l ≡ suc j)). let h = sound.holder l j t.1 in (h.0, set_else callers id j w t.0 ∙ h.1, h.2)) (holder l j e);
    once = λ k. let t = total_set (λ (u : Caller). times k u.mine) callers id v w at in let p = sound.once k in let q = whole k in omega arith;
    made = let t = total_set (λ (u : Caller). length u.mine) callers id v w at in let p = sound.made in omega arith;
    weights = let t = total_set weight callers id v w at in let p = sound.weights in omega arith;
    knows = seats_stay (Knows f law m log' owner' spoilt' away' stands') callers id w own (λ j d ne e. others j d ne (sound.knows j d e));
    home = home;
    stores = stores;
    tally = λ i. let t = total_set (λ (u : Caller). count i u.broke + count i u.breaking) callers id v w at in let p = sound.tally i in let q = tally i in omega arith;
  }

  pub looks : MayLook v → Sound f law m log owner spoilt away stands (set callers id (looked log v))
  looks live = let k = sound.knows id v at in
      moved log owner spoilt away stands (looked log v) sound.history its
      record {
        spent = λ d. absurd (not_both v.live live d);
        owns = k.owns;
        seen = prefix_self log;
        base = prefix_self log;
        placed = k.placed;
        weighs = k.weighs;
        heavy = k.heavy;
        still = record { records = λ _ _. refl; groups = λ _ _ _. refl; hard = λ _ _ _. refl };
        out = k.out;
        wants = k.wants;
        met = k.met;
        found = k.found;
        breaking = k.breaking;
      }
      (λ _ _ _ kn. kn) refl (λ _. refl) refl (λ _. refl) sound.home sound.stores

  pub misses : (l : ℕ) → MayMiss f owner l v → Sound f law m log owner spoilt away stands (set callers id (missed l v))
  misses l may = let k = sound.knows id v at in
      moved log owner spoilt away stands (missed l v) sound.history its
      record {
        spent = λ d. absurd (not_both v.live may.live d);
        owns = k.owns;
        seen = k.seen;
        base = k.base;
        placed = k.placed;
        weighs = k.weighs;
        heavy = k.heavy;
        still = record { records = k.still.records; groups = k.still.groups; hard = k.still.hard };
        out = k.out;
        wants = λ z e. let same : l ≡ z = cc (e) in subst (λ (q : ℕ). AllBelow q v.held) same may.rising;
        met = k.met;
        found = k.found;
        breaking = k.breaking;
      }
      (λ _ _ _ kn. kn) refl (λ _. refl) refl (λ _. refl) sound.home sound.stores

  -- a caller whose locks stay its own
  pub owned : (owner' : ℕ → ℕ) (j : ℕ) (d : Caller) → ((l : ℕ) → owner l ≡ suc j → owner' l ≡ suc j) → Knows f law m log owner spoilt away stands j d → Knows f law m log owner' spoilt away stands j d
  owned owner' j d keep kn = record {
    spent = kn.spent;
    owns = λ l h. keep l (kn.owns l h);
    seen = kn.seen;
    base = kn.base;
    placed = kn.placed;
    weighs = kn.weighs;
    heavy = kn.heavy;
    still = kn.still;
    out = kn.out;
    wants = kn.wants;
    met = kn.met;
    found = kn.found;
    breaking = kn.breaking;
  }

  taken : (l : ℕ) (met : List ℕ) → MayTake f owner l v → ((i : ℕ) → has i met ≡ true → spoilt i ≡ true)
      → ((i : ℕ) → has (store_lock f i) (l ∷ v.held) ≡ true → spoilt i ≡ true → (has i met || has i v.breaking) ≡ true)
      → Sound f law m log (put owner l (suc id)) spoilt away stands (set callers id (record v { held = l ∷ v.held; want = None; base = log; met = met }))
  taken l met may are find = let k = sound.knows id v at in let w : Caller = record v { held = l ∷ v.held; want = None; base = log; met = met } in
      moved log (put owner l (suc id)) spoilt away stands w sound.history
      (λ y j. put_case owner l (suc id) y (λ o. o ≡ suc j → ((j ≡ id) × (has y w.held ≡ true)) ⊎ ((j ≢ id) × (owner y ≡ suc j)))
      (λ e o. let same : j ≡ id = omega arith in inl (same, subst (λ (z : ℕ). has z (l ∷ v.held) ≡ true) (sym e) (has_head l v.held)))
      (λ ne o. ⊎_elim (λ (t : (j ≡ id) × (has y v.held ≡ true)). inl (t.0, has_tail y l v.held t.1)) (λ (t : (j ≢ id) × (owner y ≡ suc j)). inr t) (its y j o)))
      record {
        spent = λ d. absurd (not_both v.live may.live d);
        owns = λ y h. put_case owner l (suc id) y (λ o. o ≡ suc id) (λ _. refl) (λ ne. ⊎_elim (λ e. absurd (ne e)) (λ (t : (y ≢ l) × (has y v.held ≡ true)). k.owns y t.1) (has_cons y l v.held h));
        seen = k.seen;
        base = prefix_self log;
        placed = k.placed;
        weighs = λ _ _. may.weighs;
        heavy = k.heavy;
        still = record { records = λ _ _. refl; groups = λ _ _ _. refl; hard = λ _ _ _. refl };
        out = λ i. dite (ℕ_discrete (store_lock f i) l)
            (λ e. let a : away i ≡ false = sound.home i (ap owner e ∙ may.free) in k.out i ∙ closed (has (store_lock f i) v.held) (has (store_lock f i) (l ∷ v.held)) (away i) a)
            (λ ne. k.out i ∙ ap (λ (b : Bool). b && away i) (sym (has_skip (store_lock f i) l v.held ne)));
        wants = λ _ e. absurd (cc (e));
        met = are;
        found = find;
        breaking = λ i h. has_tail (store_lock f i) l v.held (k.breaking i h);
      }
      (λ j d ne kn. owned (put owner l (suc id)) j d (λ y o. put_case owner l (suc id) y (λ z. z ≡ suc j) (λ e. let o2 : owner y ≡ owner l = ap owner e in let z = may.free in absurd (omega arith)) (λ _. o)) kn)
      refl (λ _. refl) refl (λ _. refl)
      (λ i. put_case owner l (suc id) (store_lock f i) (λ o. o ≡ 0 → away i ≡ false) (λ _ o. absurd (omega arith)) (λ _ o. sound.home i o))
      sound.stores

  pub takes_stripe : (l : ℕ) → l < f.stripes → MayTake f owner l v → Sound f law m log (put owner l (suc id)) spoilt away stands (set callers id (took_stripe l log v))
  takes_stripe l low may = let k = sound.knows id v at in taken l v.met may k.met
      (λ i h s. ⊎_elim (λ (e : store_lock f i ≡ l). absurd (omega arith)) (λ (t : (store_lock f i ≢ l) × (has (store_lock f i) v.held ≡ true)). k.found i t.1 s) (has_cons (store_lock f i) l v.held h))

  pub takes_store : (i : ℕ) → MayTake f owner (store_lock f i) v → Sound f law m log (put owner (store_lock f i) (suc id)) spoilt away stands (set callers id (took_store f i (spoilt i) log v))
  takes_store i may = let k = sound.knows id v at in let l : ℕ = store_lock f i in let back : (q : ℕ) → store_lock f q ≡ store_lock f i → q ≡ i = λ q e. omega arith in
      by_bool (spoilt i)
      (λ bad. subst (λ (b : Bool). Sound f law m log (put owner (store_lock f i) (suc id)) spoilt away stands (set callers id (took_store f i b log v))) (sym bad)
      (taken l (i ∷ v.met) may
      (λ q h. ⊎_elim (λ (e : q ≡ i). ap spoilt e ∙ bad) (λ (t : (q ≢ i) × (has q v.met ≡ true)). k.met q t.1) (has_cons q i v.met h))
      (λ q h s. ⊎_elim (λ (e : store_lock f q ≡ l). subst (λ (z : ℕ). (has z (i ∷ v.met) || has z v.breaking) ≡ true) (sym (back q e)) (ap (λ (b : Bool). b || has i v.breaking) (has_head i v.met)))
      (λ (t : (store_lock f q ≢ l) × (has (store_lock f q) v.held ≡ true)). longer_found q (k.found q t.1 s)) (has_cons (store_lock f q) l v.held h))))
      (λ good. subst (λ (b : Bool). Sound f law m log (put owner (store_lock f i) (suc id)) spoilt away stands (set callers id (took_store f i b log v))) (sym good)
      (taken l v.met may k.met
      (λ q h s. ⊎_elim (λ (e : store_lock f q ≡ l). absurd (not_both (spoilt i) (sym (ap spoilt (back q e)) ∙ s) good))
      (λ (t : (store_lock f q ≢ l) × (has (store_lock f q) v.held ≡ true)). k.found q t.1 s) (has_cons (store_lock f q) l v.held h))))
    where
      longer_found : (q : ℕ) → (has q v.met || has q v.breaking) ≡ true → (has q (i ∷ v.met) || has q v.breaking) ≡ true
      longer_found q h = by_test q i (λ b. ((b || has q v.met) || has q v.breaking) ≡ true) (λ _. refl) (λ _. h)

  given : (l : ℕ) (w : Caller) → has l v.held ≡ true → w.held ≡ without l v.held → (w.mine ≡ v.mine) × (w.allowance ≡ v.allowance) → Knows f law m log (put owner l 0) spoilt away stands id w
      → ((i : ℕ) → count i w.broke + count i w.breaking ≡ count i v.broke + count i v.breaking) → ((i : ℕ) → store_lock f i ≡ l → away i ≡ false)
      → Sound f law m log (put owner l 0) spoilt away stands (set callers id w)
  given l w holds held same own tally home = let k = sound.knows id v at in
      moved log (put owner l 0) spoilt away stands w sound.history
      (λ y j. put_case owner l 0 y (λ o. o ≡ suc j → ((j ≡ id) × (has y w.held ≡ true)) ⊎ ((j ≢ id) × (owner y ≡ suc j)))
      (λ e o. absurd (omega arith))
      (λ ne o. ⊎_elim (λ (t : (j ≡ id) × (has y v.held ≡ true)). inl (t.0, ap (has y) held ∙ has_other y l v.held ne t.1)) (λ (t : (j ≢ id) × (owner y ≡ suc j)). inr t) (its y j o)))
      own
      (λ j d ne kn. owned (put owner l 0) j d (λ y o. put_case owner l 0 y (λ z. z ≡ suc j) (λ e. let o2 : owner y ≡ owner l = ap owner e in let o3 = k.owns l holds in absurd (ne (omega arith))) (λ _. o)) kn)
      (let a = same.1 in let b : length w.mine ≡ length v.mine = ap (λ (ps : List (ℕ × Entry)). length ps) same.0 in omega arith)
      (λ q. ap (λ (ps : List (ℕ × Entry)). times q ps + once_below q (length log)) same.0) (ap (λ (ps : List (ℕ × Entry)). length ps + length log) same.0)
      (λ i. ap (λ (n : ℕ). n + cond (spoilt i) 1 0) (tally i))
      (λ i. put_case owner l 0 (store_lock f i) (λ o. o ≡ 0 → away i ≡ false) (λ e _. home i e) (λ _ o. sound.home i o))
      sound.stores

  -- what fewer locks cover is known still
  fewer : (l : ℕ) (k : List ℕ) → Reads f (without l v.held) k → Reads f v.held k
  fewer l k r = ⊎_elim (λ (t : has (stripe_lock f k) (without l v.held) ≡ true). inl (has_without (stripe_lock f k) l v.held t).1)
      (λ (t : has (store_lock f (store_of f k)) (without l v.held) ≡ true). inr (has_without (store_lock f (store_of f k)) l v.held t).1) r

  pub gives_stripe : (l : ℕ) → MayGiveStripe f l v → Sound f law m log (put owner l 0) spoilt away stands (set callers id (gave_stripe l v))
  gives_stripe l may = let k = sound.knows id v at in let low : l < f.stripes = may.stripe in
      let apart : (i : ℕ) → store_lock f i ≢ l = λ i e. absurd (omega arith) in
      given l (gave_stripe l v) may.holds refl (refl, refl)
      record {
        spent = λ d. absurd (not_both v.live may.live d);
        owns = λ y h. let t = has_without y l v.held h in put_case owner l 0 y (λ o. o ≡ suc id) (λ e. absurd (t.0 e)) (λ _. k.owns y t.1);
        seen = k.seen;
        base = k.base;
        placed = k.placed;
        weighs = λ y h. k.weighs y (has_without y l v.held h).1;
        heavy = k.heavy;
        still = record { records = λ y h. k.still.records y (fewer l y h); groups = λ i low h. k.still.groups i low (has_without (store_lock f i) l v.held h).1; hard = λ i low h. k.still.hard i low (has_without (store_lock f i) l v.held h).1 };
        out = λ i. k.out i ∙ ap (λ (b : Bool). b && away i) (sym (has_without_other (store_lock f i) l v.held (apart i)));
        wants = λ _ e. absurd (cc (e));
        met = k.met;
        found = λ i h s. k.found i (has_without (store_lock f i) l v.held h).1 s;
        breaking = λ i h. has_other (store_lock f i) l v.held (apart i) (k.breaking i h);
      }
      (λ _. refl) (λ i e. absurd (apart i e))

  pub gives_store : (i : ℕ) → MayGiveStore f i v → Sound f law m log (put owner (store_lock f i) 0) spoilt away stands (set callers id (gave_store f i v))
  gives_store i may = let k = sound.knows id v at in let l : ℕ = store_lock f i in
      let back : (q : ℕ) → store_lock f q ≡ store_lock f i → q ≡ i = λ q e. omega arith in
      let forth : (q : ℕ) → store_lock f q ≢ store_lock f i → q ≢ i = λ q n e. n (omega arith) in
      let apart : (q : ℕ) → q ≢ i → store_lock f q ≢ store_lock f i = λ q n e. n (omega arith) in
      let is_home : away i ≡ false = ap (λ (b : Bool). b && away i) (sym may.holds) ∙ sym (k.out i) ∙ may.home in
      given l (gave_store f i v) may.holds refl (refl, refl)
      record {
        spent = λ d. absurd (not_both v.live may.live d);
        owns = λ y h. let t = has_without y l v.held h in put_case owner l 0 y (λ o. o ≡ suc id) (λ e. absurd (t.0 e)) (λ _. k.owns y t.1);
        seen = k.seen;
        base = k.base;
        placed = k.placed;
        weighs = λ y h. k.weighs y (has_without y l v.held h).1;
        heavy = λ _ _. k.weighs l may.holds;
        still = record { records = λ y h. k.still.records y (fewer l y h); groups = λ q low h. k.still.groups q low (has_without (store_lock f q) l v.held h).1; hard = λ q low h. k.still.hard q low (has_without (store_lock f q) l v.held h).1 };
        out = λ q. dite (ℕ_discrete (store_lock f q) l)
            (λ e. k.out q ∙ closed (has (store_lock f q) v.held) (has (store_lock f q) (without l v.held)) (away q) (ap away (back q e) ∙ is_home))
            (λ ne. k.out q ∙ ap (λ (b : Bool). b && away q) (sym (has_without_other (store_lock f q) l v.held ne)));
        wants = λ _ e. absurd (cc (e));
        met = k.met;
        found = λ q h s. let t = has_without (store_lock f q) l v.held h in
            ap (λ (b : Bool). has q v.met || b) (has_without_other q i v.breaking (forth q t.0)) ∙ k.found q t.1 s;
        breaking = λ q h. let t = has_without q i v.breaking h in has_other (store_lock f q) l v.held (apart q t.0) (k.breaking q t.1);
      }
      (λ q. tallied q)
      (λ q e. ap away (back q e) ∙ is_home)
    where
      one : count i v.broke + count i v.breaking ≤ 1
      one = let t = total_at (λ (u : Caller). count i u.broke + count i u.breaking) callers id v at in let p = sound.tally i in
          by_bool (spoilt i) (λ e. let z : cond (spoilt i) 1 0 ≡ 1 = let F : Bool → ℕ = λ b. cond b 1 0 in ap F e in omega arith) (λ e. let z : cond (spoilt i) 1 0 ≡ 0 = let F : Bool → ℕ = λ b. cond b 1 0 in ap F e in omega arith)

      tallied : (q : ℕ) → count q (cond (has i v.breaking) (i ∷ v.broke) v.broke) + count q (without i v.breaking) ≡ count q v.broke + count q v.breaking
      tallied q = by_bool (has i v.breaking)
          (λ h. subst (λ (b : Bool). count q (cond b (i ∷ v.broke) v.broke) + count q (without i v.breaking) ≡ count q v.broke + count q v.breaking) (sym h)
          (by_test q i (λ b. (cond b 1 0 + count q v.broke) + count q (without i v.breaking) ≡ count q v.broke + count q v.breaking)
          (λ e. subst (λ (z : ℕ). (1 + count z v.broke) + count z (without i v.breaking) ≡ count z v.broke + count z v.breaking) (sym e) (let a = has_count i v.breaking h in let b = count_without_same i v.breaking in let c = one in omega arith))
          (λ ne. let a = count_without_other q i v.breaking ne in omega arith)))
          (λ h. subst (λ (b : Bool). count q (cond b (i ∷ v.broke) v.broke) + count q (without i v.breaking) ≡ count q v.broke + count q v.breaking) (sym h)
          (dite (ℕ_discrete q i)
          (λ e. subst (λ (z : ℕ). count z v.broke + count z (without i v.breaking) ≡ count z v.broke + count z v.breaking) (sym e) (let a = hasnt_count i v.breaking h in let b = count_without_same i v.breaking in omega arith))
          (λ ne. let a = count_without_other q i v.breaking ne in omega arith)))
