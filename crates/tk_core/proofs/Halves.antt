-- Callers that are split and joined keep the rule, and who has the whole weight knows everything.
use mathlib.Core.List.{IsPrefix}
use Rattle.std.proofs.Common.{◌≡◌, ◌≢◌, ℕ, zero, suc, ◌+◌, ◌-◌, ◌/◌, ◌^◌, ◌<◌, Bool, true, false, cond, List, [], ◌∷◌, ◌++◌, length, length-append, ltb, set, refl, sym, ap, ◌∙◌, subst, ⊎_elim, arith}
use mathlib.Core.Logic.{dite}
use native.Mathlib.Decide.{ℕ_discrete}
use mathlib.Core.Option.{some, some-injective}
use lib.ListN.{get_elem?}
use Rattle.tk_model.specs.declared.record.Pair.{Pair}
use Rattle.tk_model.specs.declared.record.Group.{Group}
use Rattle.tk_model.specs.declared.record.Entry.{Entry}
use Rattle.tk_core.specs.declared.frame.Frame.{Frame}
use Rattle.tk_core.specs.Lists.{has, count, times, once_below}
use Rattle.tk_core.specs.Caller.{Caller, weight}
use Rattle.tk_core.specs.Covers.{Reads, stripe_lock, store_of, store_lock}
use Rattle.tk_core.specs.Rule.{Knows, Sound}
use Rattle.tk_core.specs.Moves.{kept_half, new_half, joined, spent}
use Rattle.tk_core.specs.Needs.{IsIdle, MayJoin}
use Rattle.tk_core.proofs.Locks.{its}
use Rattle.tk_core.proofs.Facts.{at_longer, at_snoc, total_snoc, times_append, placed_append, count_append, has_append, none_held, total_two, total_alone, set_else, by_bool, not_both, hasnt_count, total_set, seats_stay}

module _ (f : Frame) (law : List Pair → Type 0) (m : List Pair) (log : List Entry) (owner : ℕ → ℕ) (spoilt away : ℕ → Bool) (stands : ℕ → List Group → ℕ → Type 0) (callers : List Caller)
    (sound : Sound f law m log owner spoilt away stands callers) (id : ℕ) (v : Caller) (at : get_elem? callers id ≡ some v) where
  own : Knows f law m log owner spoilt away stands id v
  own = sound.knows id v at

  nothing_read : (y : List ℕ) → Reads f [] y → ⊥
  nothing_read y r = ⊎_elim (λ (t : has (stripe_lock f y) [] ≡ true). absurd cc) (λ (t : has (store_lock f (store_of f y)) [] ≡ true). absurd cc) r

  pub splits : IsIdle v → Sound f law m log owner spoilt away stands (set callers id (kept_half v) ++ new_half v ∷ [])
  splits may = let k = own in let w : Caller = kept_half v in let n : Caller = new_half v in let rest : List Caller = set callers id w in
      let half : v.allowance / 2 + (v.allowance - v.allowance / 2) ≡ v.allowance = omega arith in
      record {
        frame = sound.frame;
        history = sound.history;
        holder = λ l j o. ⊎_elim
            (λ (t : (j ≡ id) × (has l v.held ≡ true)). absurd (none_held l v.held may.1 t.1))
            (λ (t : (j ≢ id) × (owner l ≡ suc j)). let h = sound.holder l j t.1 in (h.0, at_longer rest (n ∷ []) j h.0 (set_else callers id j w t.0 ∙ h.1), h.2))
            (its f law m log owner spoilt away stands callers sound id v at l j o);
        once = λ q. let a = total_snoc (λ (u : Caller). times q u.mine) rest n in let t = total_set (λ (u : Caller). times q u.mine) callers id v w at in let p = sound.once q in omega arith;
        made = let a = total_snoc (λ (u : Caller). length u.mine) rest n in let t = total_set (λ (u : Caller). length u.mine) callers id v w at in let p = sound.made in omega arith;
        weights = let a = total_snoc weight rest n in let t = total_set weight callers id v w at in let p = sound.weights in omega arith;
        knows = λ j d e. ⊎_elim
            (λ (t : get_elem? rest j ≡ some d). seats_stay (Knows f law m log owner spoilt away stands) callers id w
            record {
              spent = λ z. absurd (not_both v.live may.0 z);
              owns = k.owns;
              seen = k.seen;
              base = k.base;
              placed = k.placed;
              weighs = λ l h. absurd (none_held l v.held may.1 h);
              heavy = λ i h. let z = k.heavy i h in omega arith;
              still = record { records = k.still.records; groups = k.still.groups; hard = k.still.hard };
              out = k.out;
              wants = k.wants;
              met = k.met;
              found = k.found;
              breaking = k.breaking;
            }
            (λ i u ne z. sound.knows i u z) j d t)
            (λ (t : n ≡ d). subst (λ (u : Caller). Knows f law m log owner spoilt away stands j u) t
            record {
              spent = λ z. absurd cc;
              owns = λ l h. absurd cc;
              seen = k.seen;
              base = k.base;
              placed = tt;
              weighs = λ l h. absurd cc;
              heavy = λ i h. absurd (omega arith);
              still = record { records = λ y r. absurd (nothing_read y r); groups = λ i low h. absurd cc; hard = λ i low h. absurd cc };
              out = λ i. refl;
              wants = λ l z. absurd (cc (z));
              met = λ i h. absurd cc;
              found = λ i h s. absurd cc;
              breaking = λ i h. absurd cc;
            })
            (at_snoc rest n d j e);
        home = sound.home;
        stores = sound.stores;
        tally = λ i. let a = total_snoc (λ (u : Caller). count i u.broke + count i u.breaking) rest n in let t = total_set (λ (u : Caller). count i u.broke + count i u.breaking) callers id v w at in let p = sound.tally i in omega arith;
      }

  pub joins : (other : ℕ) (u : Caller) → get_elem? callers other ≡ some u → MayJoin id other v u → Sound f law m log owner spoilt away stands (set (set callers id (joined v u)) other spent)
  joins other u there may = let k = own in let ku = sound.knows other u there in let w : Caller = joined v u in let z : Caller = spent in let first : List Caller = set callers id w in
      let apart : other ≢ id = λ e. may.apart (sym e) in
      let still_there : get_elem? first other ≡ some u = set_else callers id other w apart ∙ there in
      record {
        frame = sound.frame;
        history = sound.history;
        holder = λ l j o. let h = sound.holder l j o in
            dite (ℕ_discrete j id)
            (λ e. let same : h.0 ≡ v = some-injective _ _ (sym h.1 ∙ ap (get_elem? callers) e ∙ at) in absurd (none_held l v.held may.held.0 (ap (λ (c : Caller). has l c.held) (sym same) ∙ h.2)))
            (λ ne. dite (ℕ_discrete j other)
            (λ e. let same : h.0 ≡ u = some-injective _ _ (sym h.1 ∙ ap (get_elem? callers) e ∙ there) in absurd (none_held l u.held may.held.1 (ap (λ (c : Caller). has l c.held) (sym same) ∙ h.2)))
            (λ no. (h.0, set_else first other j z no ∙ set_else callers id j w ne ∙ h.1, h.2)));
        once = λ q. let a = total_set (λ (c : Caller). times q c.mine) callers id v w at in let b = total_set (λ (c : Caller). times q c.mine) first other u z still_there in let d = times_append q v.mine u.mine in let p = sound.once q in omega arith;
        made = let a = total_set (λ (c : Caller). length c.mine) callers id v w at in let b = total_set (λ (c : Caller). length c.mine) first other u z still_there in let d = length-append v.mine u.mine in let p = sound.made in omega arith;
        weights = let a = total_set weight callers id v w at in let b = total_set weight first other u z still_there in let d = length-append v.mine u.mine in let p = sound.weights in omega arith;
        knows = seats_stay (Knows f law m log owner spoilt away stands) first other z
            record {
              spent = λ _. record { light = refl; held = refl; broke = refl };
              owns = λ l h. absurd cc;
              seen = (log, refl);
              base = (log, refl);
              placed = tt;
              weighs = λ l h. absurd cc;
              heavy = λ i h. absurd (omega arith);
              still = record { records = λ y r. absurd (nothing_read y r); groups = λ i low h. absurd cc; hard = λ i low h. absurd cc };
              out = λ i. refl;
              wants = λ l e. absurd (cc (e));
              met = λ i h. absurd cc;
              found = λ i h s. absurd cc;
              breaking = λ i h. absurd cc;
            }
            (λ j d ne e. seats_stay (Knows f law m log owner spoilt away stands) callers id w
            record {
              spent = λ d. absurd (not_both v.live may.live.0 d);
              owns = k.owns;
              seen = longer_prefix (ltb (length v.seen) (length u.seen)) k.seen ku.seen;
              base = k.base;
              placed = placed_append log v.mine u.mine k.placed ku.placed;
              weighs = λ l h. absurd (none_held l v.held may.held.0 h);
              heavy = λ i h. let d = count_append i v.broke u.broke in let e = length-append v.mine u.mine in let a = k.heavy i in let b = ku.heavy i in
                  heavier (count i v.broke) (count i u.broke) (weight v) (weight u) (weight w) a b (omega arith) (omega arith);
              still = record { records = k.still.records; groups = k.still.groups; hard = k.still.hard };
              out = k.out;
              wants = k.wants;
              met = λ i h. ⊎_elim (λ (t : has i v.met ≡ true). k.met i t) (λ (t : has i u.met ≡ true). ku.met i t) (has_append i v.met u.met h);
              found = λ i h s. absurd (none_held (store_lock f i) v.held may.held.0 h);
              breaking = k.breaking;
            }
            (λ i c no y. sound.knows i c y) j d e);
        home = sound.home;
        stores = sound.stores;
        tally = λ i. let a = total_set (λ (c : Caller). count i c.broke + count i c.breaking) callers id v w at in let b = total_set (λ (c : Caller). count i c.broke + count i c.breaking) first other u z still_there in
            let d = count_append i v.broke u.broke in
            let none : count i u.breaking ≡ 0 = hasnt_count i u.breaking (by_bool (has i u.breaking) (λ h. absurd (none_held (store_lock f i) u.held may.held.1 (ku.breaking i h))) (λ h. h)) in
            let p = sound.tally i in omega arith;
      }
    where
      longer_prefix : (b : Bool) → IsPrefix v.seen log → IsPrefix u.seen log → IsPrefix (cond b u.seen v.seen) log
      longer_prefix true p q = q
      longer_prefix false p q = p

      heavier : (x y a b c : ℕ) → (0 < x → 0 < a) → (0 < y → 0 < b) → 0 < x + y → c ≡ a + b → 0 < c
      heavier zero y a b c p q h e = let t : 0 < b = q (omega arith) in omega arith
      heavier (suc x) y a b c p q h e = let t : 0 < a = p (omega arith) in omega arith

  -- with the whole weight nobody else has any
  pub knows_all : weight v ≡ 2 ^ 62 → v.held ≡ [] → ((l : ℕ) → owner l ≡ 0) × ((k : ℕ) → times k v.mine ≡ once_below k (length log)) × ((i : ℕ) → count i v.broke ≡ cond (spoilt i) 1 0) × (length v.mine ≡ length log)
  knows_all all_weight nothing_held =
      let nothing : (j : ℕ) (u : Caller) → j ≢ id → get_elem? callers j ≡ some u → weight u ≡ 0 = λ j u ne q. let t = total_two weight callers j id u v ne q at in let p = sound.weights in omega arith in (
        (λ l. nobody_has l (owner l) refl (λ j o. ⊎_elim (λ (t : (j ≡ id) × (has l v.held ≡ true)). none_held l v.held nothing_held t.1)
            (λ (t : (j ≢ id) × (owner l ≡ suc j)). let h = sound.holder l j t.1 in let light = nothing j h.0 t.0 h.1 in let w = (sound.knows j h.0 h.1).weighs l h.2 in absurd (omega arith)) (its f law m log owner spoilt away stands callers sound id v at l j o))),
        (λ k. sym (total_alone (λ (u : Caller). times k u.mine) callers id v at (λ j u ne q. let light = nothing j u ne q in no_times k u.mine (omega arith))) ∙ sound.once k),
        (λ i. let alone = total_alone (λ (u : Caller). count i u.broke + count i u.breaking) callers id v at
            (λ j u ne q. let light = nothing j u ne q in let kn = sound.knows j u q in
            let a : count i u.broke ≡ 0 = small (count i u.broke) (λ p. let w = kn.heavy i p in absurd (omega arith)) in
            let b : count i u.breaking ≡ 0 = hasnt_count i u.breaking (by_bool (has i u.breaking) (λ h. let w = kn.weighs (store_lock f i) (kn.breaking i h) in absurd (omega arith)) (λ h. h)) in omega arith) in
            let mine : count i v.breaking ≡ 0 = hasnt_count i v.breaking (by_bool (has i v.breaking) (λ h. absurd (none_held (store_lock f i) v.held nothing_held (own.breaking i h))) (λ h. h)) in
            let p = sound.tally i in omega arith),
        sym (total_alone (λ (u : Caller). length u.mine) callers id v at (λ j u ne q. let light = nothing j u ne q in omega arith)) ∙ sound.made,
      )
    where
      nobody_has : (l o : ℕ) → owner l ≡ o → ((j : ℕ) → owner l ≡ suc j → ⊥) → owner l ≡ 0
      nobody_has l zero e f = e
      nobody_has l (suc j) e f = absurd (f j e)

      no_times : (k : ℕ) (xs : List (ℕ × Entry)) → length xs ≡ 0 → times k xs ≡ 0
      no_times k [] e = refl
      no_times k (x ∷ xs) e = absurd (omega arith)

      small : (x : ℕ) → (0 < x → ⊥) → x ≡ 0
      small x f = omega arith
