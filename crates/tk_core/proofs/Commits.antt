-- A call that is committed keeps the rule: it changes only what its locks cover, and so nothing that another caller knows.
use Rattle.std.proofs.Common.{◌≡◌, ◌≢◌, inl, inr, ℕ, ◌+◌, ◌<◌, Bool, true, false, List, [], ◌∷◌, ◌++◌, length, length-append, filter, set, refl, sym, ap, ◌∙◌, subst, ⊎_elim, arith}
use mathlib.Core.Option.{some}
use lib.ListN.{get_elem?}
use Rattle.tk_model.specs.declared.record.Pair.{Pair}
use Rattle.tk_model.specs.declared.record.Group.{Group}
use Rattle.tk_model.specs.declared.record.Entry.{Entry}
use Rattle.tk_model.specs.declared.record.Entry.TheVariants as entries
use Rattle.tk_model.specs.declared.record.Change.{Change}
use Rattle.tk_model.specs.Records.{find, Rising}
use Rattle.tk_model.specs.Entries.{is_legal, changes_of, is_in_shard}
use Rattle.tk_model.proofs.RecordLaws.{entries_rising}
use Rattle.tk_model.proofs.NetChanges.{changes_reach}
use Rattle.tk_core.specs.declared.frame.Frame.{Frame}
use Rattle.tk_core.specs.Lists.{has, once_below}
use Rattle.tk_core.specs.Caller.{Caller}
use Rattle.tk_core.specs.Covers.{Reads, Writes, CoversReads, CoversWrites, HoldsStores, stripe_lock, store_of, store_lock}
use Rattle.tk_core.specs.Rule.{map_after, shard, is_hard, Still, IsLawful, Knows, Sound, groups_of, hard_groups}
use Rattle.tk_core.specs.Moves.{committed}
use Rattle.tk_core.specs.Needs.{Concerns, MayCommit}
use Rattle.tk_core.proofs.Locks.{its, moved}
use Rattle.tk_core.proofs.Calls.{Alike, call_alike, key_stays, store_stays, replay_snoc, legal_snoc, along_snoc, groups_stay, synced_snoc}
use Rattle.tk_core.proofs.Stores.{other_lacks}
use Rattle.tk_core.proofs.Facts.{at_last, placed_longer, prefix_longer, once_more, both, by_bool, not_both, prefix_self}

hard_holds : (f : Frame) (held : List ℕ) (e : Entry) → is_hard e ≡ true → CoversReads f held e → HoldsStores f held
hard_holds f held (entries.Proc ts) h c = absurd (cc (h))
hard_holds f held (entries.Next w b found a) h c = absurd (cc (h))
hard_holds f held (entries.Each ts) h c = absurd (cc (h))
hard_holds f held (entries.Count n) h c = absurd (cc (h))
hard_holds f held entries.Clear h c = absurd (cc (h))
hard_holds f held (entries.Sync hard) h c = c

module _ (f : Frame) (law : List Pair → Type 0) (m : List Pair) (log : List Entry) (owner : ℕ → ℕ) (spoilt away : ℕ → Bool) (stands : ℕ → List Group → ℕ → Type 0) (callers : List Caller)
    (sound : Sound f law m log owner spoilt away stands callers) (id : ℕ) (v : Caller) (at : get_elem? callers id ≡ some v) where
  module _ (e : Entry) (may : MayCommit f law m e v) where
    own : Knows f law m log owner spoilt away stands id v
    own = sound.knows id v at

    rising : (es : List Entry) → Rising f.order (map_after f m es)
    rising es = entries_rising f.order es m sound.history.rising

    -- the call is on the whole history what it is on what the caller knows
    same : Alike f.order e (map_after f m v.base) (map_after f m log)
    same = call_alike f v.held sound.frame (map_after f m v.base) (map_after f m log) (rising v.base) (rising log) (λ k r. own.still.records k r) e may.reads

    fits : is_legal f.order (map_after f m log) e ≡ true
    fits = sym same.0 ∙ may.fits

    writes : CoversWrites f v.held (changes_of f.order (map_after f m log) e)
    writes = subst (λ (cs : List Change). CoversWrites f v.held cs) same.1 may.writes

    lawful : IsLawful f law m (log ++ e ∷ [])
    lawful = record {
      rising = sound.history.rising;
      calls = legal_snoc f.order log e m sound.history.calls fits;
      along = along_snoc f law log e m sound.history.rising sound.history.along may.keeps fits;
    }

    -- two callers don't cover one key, if one covers it for writing
    alone : (j : ℕ) (d : Caller) (k : List ℕ) → j ≢ id → Knows f law m log owner spoilt away stands j d → Reads f d.held k → Writes f v.held k → ⊥
    alone j d k ne kn r w = ⊎_elim
        (λ (a : has (stripe_lock f k) d.held ≡ true). not_both (has (stripe_lock f k) d.held) a (other_lacks f law m log owner spoilt away stands callers sound id v at (stripe_lock f k) j d ne kn w.0))
        (λ (a : has (store_lock f (store_of f k)) d.held ≡ true). not_both (has (store_lock f (store_of f k)) d.held) a (other_lacks f law m log owner spoilt away stands callers sound id v at (store_lock f (store_of f k)) j d ne kn w.1)) r

    lacks : (i j : ℕ) (d : Caller) → j ≢ id → Knows f law m log owner spoilt away stands j d → has (store_lock f i) d.held ≡ true → has (store_lock f i) v.held ≡ false
    lacks i j d ne kn h = by_bool (has (store_lock f i) v.held) (λ t. absurd (not_both (has (store_lock f i) d.held) h (other_lacks f law m log owner spoilt away stands callers sound id v at (store_lock f i) j d ne kn t))) (λ t. t)

    -- a hard synchronisation holds all stores
    soft_for : (i : ℕ) → i < f.stores → has (store_lock f i) v.held ≡ false → is_hard e ≡ false
    soft_for i low free = by_bool (is_hard e) (λ h. absurd (not_both (has (store_lock f i) v.held) (hard_holds f v.held e h may.reads i low) free)) (λ h. h)

    still_other : (j : ℕ) (d : Caller) → j ≢ id → Knows f law m log owner spoilt away stands j d → Still f m (log ++ e ∷ []) d
    still_other j d ne kn = record {
      records = λ k r. kn.still.records k r ∙ sym (ap (find k) (replay_snoc f.order log e m ∙ sym (changes_reach f.order e (map_after f m log) (rising log)))
          ∙ key_stays f v.held sound.frame k (alone j d k ne kn r) (changes_of f.order (map_after f m log) e) (map_after f m log) writes);
      groups = λ i low h. kn.still.groups i low h ∙ sym (groups_stay f m log e i (store_stays f v.held i low (lacks i j d ne kn h) (changes_of f.order (map_after f m log) e) writes));
      hard = λ i low h. kn.still.hard i low h ∙ sym (ap (λ (es : List Entry). length (groups_of f m es i)) (synced_snoc log e (soft_for i low (lacks i j d ne kn h))));
    }

    -- a store at home isn't concerned
    aloof : (i : ℕ) → i < f.stores → away i ≡ false → Concerns f (map_after f m v.base) e i → ⊥
    aloof i low here c = not_both (away i) ((both (has (store_lock f i) v.held) (away i) (sym (own.out i) ∙ (may.out i low c).0)).1) here

    empty : (cs : List Change) → (cs ≢ [] → ⊥) → cs ≡ []
    empty [] n = refl
    empty (c ∷ cs) n = absurd (n (λ t. absurd (cc (t))))

    at_home : (i : ℕ) → i < f.stores → spoilt i ≡ false → away i ≡ false → stands i (groups_of f m (log ++ e ∷ []) i) (hard_groups f m (log ++ e ∷ []) i)
    at_home i low good here =
        let quiet : filter (is_in_shard (shard f i)) (changes_of f.order (map_after f m v.base) e) ≡ [] = empty (filter (is_in_shard (shard f i)) (changes_of f.order (map_after f m v.base) e)) (λ n. aloof i low here (inl n)) in
        let soft : is_hard e ≡ false = by_bool (is_hard e) (λ h. absurd (aloof i low here (inr h))) (λ h. h) in
        subst (λ (es : List Entry). stands i (groups_of f m (log ++ e ∷ []) i) (length (groups_of f m es i))) (sym (synced_snoc log e soft))
        (subst (λ (gs : List Group). stands i gs (hard_groups f m log i))
        (sym (groups_stay f m log e i (sym (ap (λ (cs : List Change). filter (is_in_shard (shard f i)) cs) same.1) ∙ quiet)))
        (sound.stores i low good here))

    pub commits : Sound f law m (log ++ e ∷ []) owner spoilt away stands (set callers id (committed log e v))
    commits = let k = own in let n : ℕ = length log in
        let len : length (log ++ e ∷ []) ≡ n + 1 = length-append log (e ∷ []) in
        let room : 0 < v.allowance = may.allowance in
        moved f law m log owner spoilt away stands callers sound id v at (log ++ e ∷ []) owner spoilt away stands (committed log e v) lawful
        (its f law m log owner spoilt away stands callers sound id v at)
        record {
          spent = λ d. absurd (not_both v.live may.live d);
          owns = k.owns;
          seen = prefix_self (log ++ e ∷ []);
          base = prefix_self (log ++ e ∷ []);
          placed = (at_last log e n refl, placed_longer log (e ∷ []) v.mine k.placed);
          weighs = λ _ _. omega arith;
          heavy = λ _ _. omega arith;
          still = record { records = λ _ _. refl; groups = λ _ _ _. refl; hard = λ _ _ _. refl };
          out = k.out;
          wants = k.wants;
          met = k.met;
          found = k.found;
          breaking = k.breaking;
        }
        (λ j d ne kn. record {
          spent = kn.spent;
          owns = kn.owns;
          seen = prefix_longer d.seen log (e ∷ []) kn.seen;
          base = prefix_longer d.base log (e ∷ []) kn.base;
          placed = placed_longer log (e ∷ []) d.mine kn.placed;
          weighs = kn.weighs;
          heavy = kn.heavy;
          still = still_other j d ne kn;
          out = kn.out;
          wants = kn.wants;
          met = kn.met;
          found = kn.found;
          breaking = kn.breaking;
        })
        (omega arith) (λ q. let o = once_more q n in let o2 : once_below q (length (log ++ e ∷ [])) ≡ once_below q (n + 1) = ap (once_below q) len in omega arith) (omega arith) (λ _. refl)
        sound.home at_home
