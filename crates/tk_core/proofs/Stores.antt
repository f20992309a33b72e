-- Stores that are taken out and put back keep the rule.
use Rattle.std.proofs.Common.{◌≡◌, ◌≢◌, ◌&&◌, ◌||◌, ℕ, ◌+◌, not, ◌<◌, Bool, true, false, cond, List, ◌∷◌, set, refl, sym, ap, ◌∙◌, subst, ⊎_elim, arith}
use mathlib.Core.Logic.{dite}
use native.Mathlib.Decide.{ℕ_discrete}
use mathlib.Core.Option.{some}
use lib.ListN.{get_elem?}
use Rattle.tk_model.specs.declared.record.Pair.{Pair}
use Rattle.tk_model.specs.declared.record.Group.{Group}
use Rattle.tk_model.specs.declared.record.Entry.{Entry}
use Rattle.tk_core.specs.declared.frame.Frame.{Frame}
use Rattle.tk_core.specs.Lists.{has, without, count, put}
use Rattle.tk_core.specs.Caller.{Caller, knows_broken}
use Rattle.tk_core.specs.Covers.{store_lock}
use Rattle.tk_core.specs.Rule.{Knows, Sound, groups_of, hard_groups}
use Rattle.tk_core.specs.Moves.{took_out, put_back}
use Rattle.tk_core.specs.Needs.{MayTakeOut, MayPutBack}
use Rattle.tk_core.proofs.Locks.{its, moved}
use Rattle.tk_core.proofs.Facts.{no_bit, shut, both, either_of, put_at, put_off, put_case, by_test, by_bool, not_both, has_cons, has_head, has_skip, has_without_other, hasnt_without, has_count, total_at}

module _ (f : Frame) (law : List Pair → Type 0) (m : List Pair) (log : List Entry) (owner : ℕ → ℕ) (spoilt away : ℕ → Bool) (stands : ℕ → List Group → ℕ → Type 0) (callers : List Caller)
    (sound : Sound f law m log owner spoilt away stands callers) (id : ℕ) (v : Caller) (at : get_elem? callers id ≡ some v) where
  abbrev Now : Caller → Type 0
  Now u = Knows f law m log owner spoilt away stands id u

  own : Knows f law m log owner spoilt away stands id v
  own = sound.knows id v at

  -- a lock of this caller is no other's
  pub other_lacks : (l j : ℕ) (d : Caller) → j ≢ id → Knows f law m log owner spoilt away stands j d → has l v.held ≡ true → has l d.held ≡ false
  other_lacks l j d ne kn h = by_bool (has l d.held) (λ t. let x = kn.owns l t in let y = own.owns l h in absurd (ne (omega arith))) (λ t. t)

  -- what is known to be broken is broken
  pub told : (i : ℕ) → knows_broken v i ≡ true → spoilt i ≡ true
  told i h = ⊎_elim (λ (t : has i v.met ≡ true). own.met i t)
      (λ (t : has i v.breaking ≡ true). by_bool (spoilt i) (λ e. e) (λ e. absurd (none_broken t e)))
      (either_of (has i v.met) (has i v.breaking) h)
    where
      none_broken : has i v.breaking ≡ true → spoilt i ≡ false → ⊥
      none_broken t e = let c = has_count i v.breaking t in let a = total_at (λ (u : Caller). count i u.broke + count i u.breaking) callers id v at in let p = sound.tally i in
          let z = no_bit (spoilt i) e in omega arith

  -- the locks of stores stay, whatever is out
  elsewhere : (i : ℕ) (b : Bool) (j : ℕ) (d : Caller) → has (store_lock f i) v.held ≡ true → j ≢ id → Knows f law m log owner spoilt away stands j d
      → (q : ℕ) → has q d.out ≡ (has (store_lock f q) d.held && put away i b q)
  elsewhere i b j d holds ne kn q = dite (ℕ_discrete q i)
      (λ e. kn.out q ∙ shut (has (store_lock f q) d.held) (away q) (put away i b q) (ap (λ (z : ℕ). has (store_lock f z) d.held) e ∙ other_lacks (store_lock f i) j d ne kn holds))
      (λ n. kn.out q ∙ ap (λ (a : Bool). has (store_lock f q) d.held && a) (sym (put_off away i b q n)))

  pub takes_out : (i : ℕ) → MayTakeOut f i v → Sound f law m log owner spoilt (put away i true) stands (set callers id (took_out i v))
  takes_out i may = let k = own in
      moved f law m log owner spoilt away stands callers sound id v at log owner spoilt (put away i true) stands (took_out i v) sound.history
      (its f law m log owner spoilt away stands callers sound id v at)
      record {
        spent = λ d. absurd (not_both v.live may.live d);
        owns = k.owns;
        seen = k.seen;
        base = k.base;
        placed = k.placed;
        weighs = k.weighs;
        heavy = k.heavy;
        still = record { records = k.still.records; groups = k.still.groups; hard = k.still.hard };
        out = λ q. dite (ℕ_discrete q i)
            (λ e. subst (λ (z : ℕ). has z (i ∷ v.out) ≡ (has (store_lock f z) v.held && put away i true z)) (sym e)
            (has_head i v.out ∙ sym (ap (λ (a : Bool). has (store_lock f i) v.held && a) (put_at away i true i refl) ∙ ap (λ (b : Bool). b && true) may.holds)))
            (λ ne. has_skip q i v.out ne ∙ k.out q ∙ ap (λ (a : Bool). has (store_lock f q) v.held && a) (sym (put_off away i true q ne)));
        wants = k.wants;
        met = k.met;
        found = k.found;
        breaking = k.breaking;
      }
      (λ j d ne kn. record {
        spent = kn.spent;
        owns = kn.owns;
        seen = kn.seen;
        base = kn.base;
        placed = kn.placed;
        weighs = kn.weighs;
        heavy = kn.heavy;
        still = kn.still;
        out = elsewhere i true j d may.holds ne kn;
        wants = kn.wants;
        met = kn.met;
        found = kn.found;
        breaking = kn.breaking;
      })
      refl (λ _. refl) refl (λ _. refl)
      (λ q o. dite (ℕ_discrete q i) (λ e. let x = k.owns (store_lock f i) may.holds in let y : owner (store_lock f q) ≡ owner (store_lock f i) = ap (λ (z : ℕ). owner (store_lock f z)) e in absurd (omega arith))
      (λ ne. put_off away i true q ne ∙ sound.home q o))
      (λ q low good here. dite (ℕ_discrete q i) (λ e. absurd (not_both (put away i true q) (put_at away i true q e) here)) (λ ne. sound.stores q low good (sym (put_off away i true q ne) ∙ here)))

  returned : (stands' : ℕ → List Group → ℕ → Type 0) (i : ℕ) (b : Bool) (br : List ℕ) → v.live ≡ true → has (store_lock f i) v.held ≡ true
      → ((q : ℕ) → spoilt q ≡ true → put spoilt i b q ≡ true) → ((q : ℕ) → has q br ≡ true → has (store_lock f q) v.held ≡ true)
      → ((q : ℕ) → has (store_lock f q) v.held ≡ true → put spoilt i b q ≡ true → (has q v.met || has q br) ≡ true)
      → ((q : ℕ) → (count q v.broke + count q br) + cond (spoilt q) 1 0 ≡ (count q v.broke + count q v.breaking) + cond (put spoilt i b q) 1 0)
      → (b ≡ false → stands' i (groups_of f m log i) (hard_groups f m log i)) → ((q : ℕ) → q ≢ i → (gs : List Group) (n : ℕ) → stands q gs n → stands' q gs n) → i < f.stores
      → Sound f law m log owner (put spoilt i b) (put away i false) stands' (set callers id (record v { out = without i v.out; breaking = br }))
  returned stands' i b br live holds more held find tally here there low_i = let k = own in let w : Caller = record v { out = without i v.out; breaking = br } in
      moved f law m log owner spoilt away stands callers sound id v at log owner (put spoilt i b) (put away i false) stands' w sound.history
      (its f law m log owner spoilt away stands callers sound id v at)
      record {
        spent = λ d. absurd (not_both v.live live d);
        owns = k.owns;
        seen = k.seen;
        base = k.base;
        placed = k.placed;
        weighs = k.weighs;
        heavy = k.heavy;
        still = record { records = k.still.records; groups = k.still.groups; hard = k.still.hard };
        out = λ q. dite (ℕ_discrete q i)
            (λ e. subst (λ (z : ℕ). has z (without i v.out) ≡ (has (store_lock f z) v.held && put away i false z)) (sym e)
            (hasnt_without i v.out ∙ sym (ap (λ (a : Bool). has (store_lock f i) v.held && a) (put_at away i false i refl) ∙ ap (λ (z : Bool). z && false) holds)))
            (λ ne. has_without_other q i v.out ne ∙ k.out q ∙ ap (λ (a : Bool). has (store_lock f q) v.held && a) (sym (put_off away i false q ne)));
        wants = k.wants;
        met = λ q h. more q (k.met q h);
        found = find;
        breaking = held;
      }
      (λ j d ne kn. record {
        spent = kn.spent;
        owns = kn.owns;
        seen = kn.seen;
        base = kn.base;
        placed = kn.placed;
        weighs = kn.weighs;
        heavy = kn.heavy;
        still = kn.still;
        out = elsewhere i false j d holds ne kn;
        wants = kn.wants;
        met = λ q h. more q (kn.met q h);
        found = λ q h s. dite (ℕ_discrete q i)
            (λ e. absurd (not_both (has (store_lock f q) d.held) h (ap (λ (z : ℕ). has (store_lock f z) d.held) e ∙ other_lacks (store_lock f i) j d ne kn holds)))
            (λ n. kn.found q h (sym (put_off spoilt i b q n) ∙ s));
        breaking = kn.breaking;
      })
      refl (λ _. refl) refl tally
      (λ q o. dite (ℕ_discrete q i) (λ e. put_at away i false q e) (λ ne. put_off away i false q ne ∙ sound.home q o))
      (λ q low good at_home. dite (ℕ_discrete q i)
      (λ e. subst (λ (z : ℕ). stands' z (groups_of f m log z) (hard_groups f m log z)) (sym e) (here (sym (put_at spoilt i b q e) ∙ good)))
      (λ ne. there q ne (groups_of f m log q) (hard_groups f m log q) (sound.stores q low (sym (put_off spoilt i b q ne) ∙ good) (sym (put_off away i false q ne) ∙ at_home))))

  -- given as it was: broken where it was broken
  unchanged : (i : ℕ) (b : Bool) → spoilt i ≡ b → (q : ℕ) → put spoilt i b q ≡ spoilt q
  unchanged i b e q = dite (ℕ_discrete q i) (λ h. put_at spoilt i b q h ∙ sym (ap spoilt h ∙ e)) (λ ne. put_off spoilt i b q ne)

  alike : (stands' : ℕ → List Group → ℕ → Type 0) (i : ℕ) (b : Bool) → spoilt i ≡ b → v.live ≡ true → has (store_lock f i) v.held ≡ true
      → (b ≡ false → stands' i (groups_of f m log i) (hard_groups f m log i)) → ((q : ℕ) → q ≢ i → (gs : List Group) (n : ℕ) → stands q gs n → stands' q gs n) → i < f.stores
      → Sound f law m log owner (put spoilt i b) (put away i false) stands' (set callers id (record v { out = without i v.out; breaking = v.breaking }))
  alike stands' i b e live holds here there low = returned stands' i b v.breaking live holds (λ q s. unchanged i b e q ∙ s) own.breaking (λ q h s. own.found q h (sym (unchanged i b e q) ∙ s))
      (λ q. ap (λ (z : Bool). (count q v.broke + count q v.breaking) + cond z 1 0) (sym (unchanged i b e q))) here there low

  pub puts_back : (stands' : ℕ → List Group → ℕ → Type 0) (i : ℕ) (b : Bool) → MayPutBack f m log (stands' i) i b v → ((q : ℕ) → q ≢ i → (gs : List Group) (n : ℕ) → stands q gs n → stands' q gs n)
      → Sound f law m log owner (put spoilt i b) (put away i false) stands' (set callers id (put_back i b v))
  puts_back stands' i b may there =
      let holds : has (store_lock f i) v.held ≡ true = (both (has (store_lock f i) v.held) (away i) (sym (own.out i) ∙ may.out)).0 in
      by_bool (knows_broken v i)
      (λ known. let given : b ≡ true = may.stays known in
      subst (λ (c : Bool). Sound f law m log owner (put spoilt i b) (put away i false) stands' (set callers id (record v { out = without i v.out; breaking = cond c (i ∷ v.breaking) v.breaking })))
      (sym (ap (λ (z : Bool). b && not z) known ∙ and_false b)) (alike stands' i b (told i known ∙ sym given) may.live holds may.stands there may.store))
      (λ unknown. let good : spoilt i ≡ false = by_bool (spoilt i) (λ s. absurd (not_both (knows_broken v i) (own.found i holds s) unknown)) (λ s. s) in
      subst (λ (c : Bool). Sound f law m log owner (put spoilt i b) (put away i false) stands' (set callers id (record v { out = without i v.out; breaking = cond c (i ∷ v.breaking) v.breaking })))
      (sym (ap (λ (z : Bool). b && not z) unknown ∙ and_true b)) (by_broken b may.live holds may.stands good may.store))
    where
      and_false : (b : Bool) → (b && false) ≡ false
      and_false true = refl
      and_false false = refl

      and_true : (b : Bool) → (b && true) ≡ b
      and_true true = refl
      and_true false = refl

      newly : v.live ≡ true → has (store_lock f i) v.held ≡ true → spoilt i ≡ false → i < f.stores
          → Sound f law m log owner (put spoilt i true) (put away i false) stands' (set callers id (record v { out = without i v.out; breaking = i ∷ v.breaking }))
      newly live holds good low = returned stands' i true (i ∷ v.breaking) live holds
          (λ q s. put_case spoilt i true q (λ z. z ≡ true) (λ _. refl) (λ _. s))
          (λ q h. ⊎_elim (λ (e : q ≡ i). ap (λ (z : ℕ). has (store_lock f z) v.held) e ∙ holds) (λ (t : (q ≢ i) × (has q v.breaking ≡ true)). own.breaking q t.1) (has_cons q i v.breaking h))
          (λ q h s. by_test q i (λ z. (has q v.met || (z || has q v.breaking)) ≡ true) (λ _. or_true (has q v.met)) (λ ne. own.found q h (sym (put_off spoilt i true q ne) ∙ s)))
          (λ q. by_test q i (λ z. (count q v.broke + (cond z 1 0 + count q v.breaking)) + cond (spoilt q) 1 0 ≡ (count q v.broke + count q v.breaking) + cond (cond z true (spoilt q)) 1 0)
          (λ e. let z = no_bit (spoilt q) (ap spoilt e ∙ good) in omega arith) (λ _. omega arith))
          (λ e. absurd cc) there low
        where
          or_true : (b : Bool) → (b || true) ≡ true
          or_true true = refl
          or_true false = refl

      by_broken : (b : Bool) → v.live ≡ true → has (store_lock f i) v.held ≡ true → (b ≡ false → stands' i (groups_of f m log i) (hard_groups f m log i)) → spoilt i ≡ false → i < f.stores
          → Sound f law m log owner (put spoilt i b) (put away i false) stands' (set callers id (record v { out = without i v.out; breaking = cond b (i ∷ v.breaking) v.breaking }))
      by_broken true live holds here good low = newly live holds good low
      by_broken false live holds here good low = alike stands' i false good live holds here there low

-- what stands at home may change where the new is good for the groups
module _ (f : Frame) (law : List Pair → Type 0) (m : List Pair) (log : List Entry) (owner : ℕ → ℕ) (spoilt away : ℕ → Bool) (stands stands' : ℕ → List Group → ℕ → Type 0) where
  knows_still : (j : ℕ) (v : Caller) → Knows f law m log owner spoilt away stands j v → Knows f law m log owner spoilt away stands' j v
  knows_still j v k = record {
    spent = k.spent;
    owns = k.owns;
    seen = k.seen;
    base = k.base;
    placed = k.placed;
    weighs = k.weighs;
    heavy = k.heavy;
    still = k.still;
    out = k.out;
    wants = k.wants;
    met = k.met;
    found = k.found;
    breaking = k.breaking;
  }

  pub stands_anew : (callers : List Caller) → Sound f law m log owner spoilt away stands callers
      → ((i : ℕ) → i < f.stores → spoilt i ≡ false → away i ≡ false → stands' i (groups_of f m log i) (hard_groups f m log i))
      → Sound f law m log owner spoilt away stands' callers
  stands_anew callers s good = record {
    frame = s.frame;
    history = s.history;
    holder = s.holder;
    once = s.once;
    made = s.made;
    weights = s.weights;
    knows = λ j v e. knows_still j v (s.knows j v e);
    home = s.home;
    stores = good;
    tally = s.tally;
  }
