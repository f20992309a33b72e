-- A call at one key may be committed.
use Rattle.std.proofs.Common.{◌≡◌, ◌≢◌, ◌≤◌, ◌<◌, ◌⊎◌, inl, inr, ◌&&◌, ℕ, Bool, true, false, List, [], ◌∷◌, ◌++◌, filter, Option, Some, None, length, nat_le, if◌then◌else◌, refl, sym, ap, ◌∙◌, subst, ⊎_elim, arith, eqb-true, eq-eqb}
use Rattle.std.proofs.lemmas.Bool.Decides.{nat_tests}
use Rattle.tk_model.specs.Records.{find}
use Rattle.tk_model.specs.Entries.{is_keep, is_legal, stored, same_value, after_entry, changes_of, net_change, net_changes, is_in_shard, holds_key}
use Rattle.tk_model.specs.declared.record.Action.{Action}
use Rattle.tk_model.specs.declared.record.Change.{Change}
use Rattle.tk_model.specs.declared.record.Change.TheVariants as changes
use Rattle.tk_model.specs.declared.record.Pair.{Pair}
use Rattle.tk_model.proofs.KeyOrders.{same_itself}
use Rattle.tk_model.specs.declared.record.Entry.{Entry}
use Rattle.tk_core.specs.declared.frame.Frame.{Frame}
use Rattle.tk_core.specs.Caller.{Caller, knows_broken}
use Rattle.tk_core.specs.Covers.{CoversWrites, Reads, Writes, store_of}
use Rattle.tk_core.specs.Lists.{has}
use Rattle.tk_core.specs.Needs.{KeepsLaw, MayCommit}
use Rattle.tk_core.specs.Rule.{known, map_after, shard, is_hard}
use Rattle.tk_core.proofs.Facts.{by_bool}
use Rattle.tk_dbm.specs.OneKey.{one}

-- the changes of a call at one key are at that key
at_key : (k : List ℕ) (before after : Option (List ℕ)) (P : List Change → Type 0) → P [] → ((v : List ℕ) → P (changes.Put (record { key = k; value = v }) ∷ [])) → P (changes.Drop k ∷ []) → P (net_change k before after)
at_key k before (Some v) P none put drop = put v
at_key k (Some u) None P none put drop = drop
at_key k None None P none put drop = none

same_value_itself : (v : Option (List ℕ)) → same_value v v ≡ true
same_value_itself None = refl
same_value_itself (Some v) = same_itself v

both_true : (a b : Bool) → a ≡ true → b ≡ true → (a && b) ≡ true
both_true true b x y = y
both_true false b x y = absurd (cc (x))

-- who knows the value may make a call that changes nothing; who has the store, too, may change it
pub record MayOne (f : Frame) (law : List Pair → Type 0) (m : List Pair) (k : List ℕ) (was : Option (List ℕ)) (a : Action) (v : Caller) : Type 0 where
  pub live : v.live ≡ true
  pub allowance : 0 < v.allowance
  pub key : length k ≤ 65535
  pub value : stored a ≤ 16777215
  pub known_is : was ≡ known f m v k
  pub keeps : KeepsLaw f law (one k was a)
  pub reads : Reads f v.held k
  pub changing : changes_of f.order (map_after f m v.base) (one k was a) ≢ [] → Writes f v.held k × (has (store_of f k) v.out ≡ true) × (knows_broken v (store_of f k) ≡ false)

module _ (f : Frame) (law : List Pair → Type 0) (m : List Pair) (k : List ℕ) (was : Option (List ℕ)) (a : Action) where
  -- no change, or one at the key
  abbrev Shape : List Change → Type 0
  Shape cs = (cs ≡ []) ⊎ (((w : List ℕ) × (cs ≡ changes.Put (record { key = k; value = w }) ∷ [])) ⊎ (cs ≡ changes.Drop k ∷ []))

  shape : (M : List Pair) → Shape (changes_of f.order M (one k was a))
  shape M = go (is_keep a)
    where
      go : (b : Bool) → Shape (net_changes (if b then [] else k ∷ []) M (after_entry f.order (one k was a) M))
      go true = inl refl
      go false = at_key k (find k M) (find k (after_entry f.order (one k was a) M)) (λ cs. Shape (cs ++ [])) (inl refl) (λ w. inr (inl (w, refl))) (inr (inr refl))

  by_change : (M : List Pair) (P : List Change → Type 0) → P [] → ((w : List ℕ) → changes_of f.order M (one k was a) ≢ [] → P (changes.Put (record { key = k; value = w }) ∷ []))
      → (changes_of f.order M (one k was a) ≢ [] → P (changes.Drop k ∷ [])) → P (changes_of f.order M (one k was a))
  by_change M P none put drop = ⊎_elim (λ (e : changes_of f.order M (one k was a) ≡ []). subst P (sym e) none)
      (λ (t : ((w : List ℕ) × (changes_of f.order M (one k was a) ≡ changes.Put (record { key = k; value = w }) ∷ [])) ⊎ (changes_of f.order M (one k was a) ≡ changes.Drop k ∷ [])).
      ⊎_elim (λ (e : (w : List ℕ) × (changes_of f.order M (one k was a) ≡ changes.Put (record { key = k; value = w }) ∷ [])). subst P (sym e.1) (put e.0 (λ z. absurd (cc (z, e.1)))))
      (λ (e : changes_of f.order M (one k was a) ≡ changes.Drop k ∷ []). subst P (sym e) (drop (λ z. absurd (cc (z, e))))) t) (shape M)

  -- in the key's shard the changes are all, and in another none
  pub all_here : (M : List Pair) (i : ℕ) → store_of f k ≡ i → filter (is_in_shard (shard f i)) (changes_of f.order M (one k was a)) ≡ changes_of f.order M (one k was a)
  all_here M i here = let holds : holds_key (shard f i) k ≡ true = eq-eqb (store_of f k) i here in
      by_change M (λ cs. filter (is_in_shard (shard f i)) cs ≡ cs) refl
      (λ w _. ap (λ (b : Bool). if b then changes.Put (record { key = k; value = w }) ∷ [] else []) holds)
      (λ _. ap (λ (b : Bool). if b then changes.Drop k ∷ [] else []) holds)

  pub none_there : (M : List Pair) (i : ℕ) → store_of f k ≢ i → filter (is_in_shard (shard f i)) (changes_of f.order M (one k was a)) ≡ []
  none_there M i there = let holds : holds_key (shard f i) k ≡ false = by_bool (holds_key (shard f i) k) (λ h. absurd (there (eqb-true (store_of f k) i h))) (λ h. h) in
      by_change M (λ cs. filter (is_in_shard (shard f i)) cs ≡ []) refl
      (λ w _. ap (λ (b : Bool). if b then changes.Put (record { key = k; value = w }) ∷ [] else []) holds)
      (λ _. ap (λ (b : Bool). if b then changes.Drop k ∷ [] else []) holds)

  module _ (v : Caller) (may : MayOne f law m k was a v) where
    abbrev M : List Pair
    M = map_after f m v.base

    abbrev e : Entry
    e = one k was a

    legal : is_legal f.order M e ≡ true
    legal = both_true (same_value was (find k M) && true) ((nat_le (length k) 65535 && nat_le (stored a) 33554431) && true)
        (both_true (same_value was (find k M)) true (ap (λ z. same_value z (find k M)) may.known_is ∙ same_value_itself (find k M)) refl)
        (both_true (nat_le (length k) 65535 && nat_le (stored a) 33554431) true (both_true (nat_le (length k) 65535) (nat_le (stored a) 33554431) (let h = may.key in grind (arith, nat_tests)) (let h = may.value in grind (arith, nat_tests))) refl)

    concerned : (i : ℕ) (c : Change) → changes_of f.order M e ≢ [] → is_in_shard (shard f i) c ≡ holds_key (shard f i) k → filter (is_in_shard (shard f i)) (c ∷ []) ≢ [] → (has i v.out ≡ true) × (knows_broken v i ≡ false)
    concerned i c changing at some = by_bool (holds_key (shard f i) k)
        (λ h. let same : store_of f k ≡ i = eqb-true (store_of f k) i h in let t = may.changing changing in subst (λ (z : ℕ). (has z v.out ≡ true) × (knows_broken v z ≡ false)) same (t.1, t.2))
        (λ h. absurd (some (ap (λ (b : Bool). if b then c ∷ [] else []) (at ∙ h))))

    pub may_commit : MayCommit f law m e v
    may_commit = record {
      live = may.live;
      allowance = may.allowance;
      fits = legal;
      keeps = may.keeps;
      reads = (may.reads, tt);
      writes = by_change M (CoversWrites f v.held) tt (λ w h. ((may.changing h).0, tt)) (λ h. ((may.changing h).0, tt));
      out = λ i low c. ⊎_elim
          (λ (some : filter (is_in_shard (shard f i)) (changes_of f.order M e) ≢ []).
          by_change M (λ cs. filter (is_in_shard (shard f i)) cs ≢ [] → (has i v.out ≡ true) × (knows_broken v i ≡ false)) (λ none. absurd (none refl))
          (λ w h. concerned i (changes.Put (record { key = k; value = w })) h refl) (λ h. concerned i (changes.Drop k) h refl) some)
          (λ (hard : is_hard e ≡ true). absurd (cc (hard))) c;
    }
