-- What a call asks, touch by touch, is what its net changes ask.
use Rattle.std.proofs.Common.{◌≡◌, ◌≢◌, ◌⊎◌, inl, ◌||◌, ℕ, ◌<◌, Bool, true, false, not, List, [], ◌∷◌, ◌++◌, filter, drop, Option, Some, None, is_some, refl, sym, ap, subst, ◌∙◌, ⊎_elim, Decides, if◌then◌else◌}
use Rattle.tk_model.specs.Orders.{same_bytes}
use Rattle.tk_model.specs.Records.{find}
use Rattle.tk_model.specs.Entries.{is_keep, touches, all_touched, after_entry, written_keys, net_change, net_changes, changes_of, is_in_shard, holds_key}
use Rattle.tk_model.proofs.KeyOrders.{same_told}
use Rattle.tk_model.specs.declared.record.Pair.{Pair}
use Rattle.tk_model.specs.declared.record.Touch.{Touch}
use Rattle.tk_model.specs.declared.record.ShardOf.{ShardOf}
use Rattle.tk_model.specs.declared.record.Entry.{Entry}
use Rattle.tk_model.specs.declared.record.Entry.TheVariants as entries
use Rattle.tk_model.specs.declared.record.Change.{Change}
use Rattle.tk_model.specs.declared.record.Change.TheVariants as changes
use Rattle.tk_core.specs.declared.frame.Frame.{Frame}
use Rattle.tk_core.specs.Caller.{Caller}
use Rattle.tk_core.specs.Commits.{Ready, ReadyAll, MayChange, is_there, MayActEach, MayWrite}
use Rattle.tk_core.specs.Covers.{IsFrame, CoversWrites, store_of}
use Rattle.tk_core.specs.Rule.{shard, is_hard}
use Rattle.tk_core.proofs.Calls.{in_stores}
use Rattle.tk_core.proofs.Facts.{by_bool, by_test}

-- ---- something that is so of each touch

-- it is so of all, if and only if of those from this place on
abbrev pub SoFar : (List Touch → Type 0) → List Touch → ℕ → Type 0
SoFar E ts i = (E (drop i ts) → E ts) × (E ts → E (drop i ts))

-- ---- from touches to the keys that they write

module _ (f : Frame) (v : Caller) (m n : List Pair) where
  -- each of these keys that has a record before or after may be changed
  abbrev pub MayEach : List (List ℕ) → Type 0
  MayEach [] = Unit {0}
  MayEach (k ∷ ks) = (is_there k m n ≡ true → MayChange f v k) × MayEach ks

  picked : (p : List ℕ → Bool) (ks : List (List ℕ)) → MayEach ks → MayEach (filter p ks)
  picked p [] h = tt
  picked p (k ∷ ks) h = pick (p k) (picked p ks h.1)
    where
      pick : (b : Bool) → MayEach (filter p ks) → MayEach (if b then k ∷ filter p ks else filter p ks)
      pick true g = (h.0, g)
      pick false g = g

  -- but for the same key twice
  unpicked : (j : List ℕ) (ks : List (List ℕ)) → (is_there j m n ≡ true → MayChange f v j) → MayEach (filter (λ k. not (same_bytes j k)) ks) → MayEach ks
  unpicked j [] g h = tt
  unpicked j (k ∷ ks) g h = unpick (same_bytes j k) refl h (λ t. unpicked j ks g t)
    where
      unpick : (b : Bool) → same_bytes j k ≡ b → MayEach (if not b then k ∷ filter (λ i. not (same_bytes j i)) ks else filter (λ i. not (same_bytes j i)) ks)
          → (MayEach (filter (λ i. not (same_bytes j i)) ks) → MayEach ks) → MayEach (k ∷ ks)
      unpick true e t deeper = (subst (λ (z : List ℕ). is_there z m n ≡ true → MayChange f v z) (same_told j k e) g, deeper t)
      unpick false e t deeper = (t.0, deeper t.1)

  abbrev first_key : Bool → List ℕ → List (List ℕ) → List (List ℕ)
  first_key keep k ks = if keep then ks else k ∷ filter (λ j. not (same_bytes k j)) ks

  pub keys_may : (ts : List Touch) → MayActEach f v m n ts → MayEach (written_keys ts)
  keys_may [] h = tt
  keys_may (t ∷ ts) h = step (is_keep t.action) refl (keys_may ts h.1)
    where
      step : (b : Bool) → is_keep t.action ≡ b → MayEach (written_keys ts) → MayEach (first_key b t.key (written_keys ts))
      step true e rest = rest
      step false e rest = (h.0 e, picked (λ j. not (same_bytes t.key j)) (written_keys ts) rest)

  pub touches_may : (ts : List Touch) → MayEach (written_keys ts) → MayActEach f v m n ts
  touches_may [] h = tt
  touches_may (t ∷ ts) h0 = step (is_keep t.action) refl h0 (λ h. touches_may ts h)
    where
      step : (b : Bool) → is_keep t.action ≡ b → MayEach (first_key b t.key (written_keys ts)) → (MayEach (written_keys ts) → MayActEach f v m n ts) → MayActEach f v m n (t ∷ ts)
      step true e h deeper = (λ d. absurd (cc (e, d)), deeper h)
      step false e h deeper = (λ _. h.0, deeper (unpicked t.key (written_keys ts) h.0 h.1))

-- ---- from keys to net changes

-- the changes are covered, and the stores that they change are ready
pub record Covered (f : Frame) (v : Caller) (cs : List Change) : Type 0 where
  pub writes : CoversWrites f v.held cs
  pub ready : (i : ℕ) → i < f.stores → filter (is_in_shard (shard f i)) cs ≢ [] → Ready v i

no_more : (b : Bool) (c : Change) (cs : List Change) → b ≡ false → cs ≡ [] → (if b then c ∷ cs else cs) ≡ []
no_more true c cs e h = absurd (cc (e))
no_more false c cs e h = h

no_less : (b : Bool) (c : Change) (cs : List Change) → (if b then c ∷ cs else cs) ≡ [] → (b ≡ false) × (cs ≡ [])
no_less true c cs h = absurd (cc (h))
no_less false c cs h = (refl, h)

module _ (f : Frame) (frame : IsFrame f) (v : Caller) where
  own_shard : (k : List ℕ) → holds_key (shard f (store_of f k)) k ≡ true
  own_shard k = by_test (store_of f k) (store_of f k) (λ b. b ≡ true) (λ _. refl) (λ ne. absurd (ne refl))

  -- a change of one key
  module _ (k : List ℕ) (c : Change) (shards : (s : ShardOf) → is_in_shard s c ≡ holds_key s k) (cs : List Change) where
    more_ready : MayChange f v k → ((i : ℕ) → i < f.stores → filter (is_in_shard (shard f i)) cs ≢ [] → Ready v i) → (i : ℕ) → i < f.stores → filter (is_in_shard (shard f i)) (c ∷ cs) ≢ [] → Ready v i
    more_ready may h i low ne = by_bool (holds_key (shard f i) k)
        (λ e. by_test (store_of f k) i (λ b. b ≡ true → Ready v i) (λ same _. subst (Ready v) same may.1) (λ _ d. absurd (cc (d))) e)
        (λ e. h i low (λ none. ne (no_more (is_in_shard (shard f i) c) c (filter (is_in_shard (shard f i)) cs) (shards (shard f i) ∙ e) none)))

    own_ready : ((i : ℕ) → i < f.stores → filter (is_in_shard (shard f i)) (c ∷ cs) ≢ [] → Ready v i) → Ready v (store_of f k)
    own_ready h = h (store_of f k) (in_stores f k frame) (λ none. let t = no_less (is_in_shard (shard f (store_of f k)) c) c (filter (is_in_shard (shard f (store_of f k))) cs) none in
        cc (sym (own_shard k) ∙ sym (shards (shard f (store_of f k))) ∙ t.0))

    rest_ready : ((i : ℕ) → i < f.stores → filter (is_in_shard (shard f i)) (c ∷ cs) ≢ [] → Ready v i) → (i : ℕ) → i < f.stores → filter (is_in_shard (shard f i)) cs ≢ [] → Ready v i
    rest_ready h i low ne = h i low (λ none. ne (no_less (is_in_shard (shard f i) c) c (filter (is_in_shard (shard f i)) cs) none).1)

  put_covered : (p : Pair) (cs : List Change) → MayChange f v p.key → Covered f v cs → Covered f v (changes.Put p ∷ cs)
  put_covered p cs may h = record { writes = (may.0, h.writes); ready = more_ready p.key (changes.Put p) (λ s. refl) cs may h.ready }

  put_may : (p : Pair) (cs : List Change) → Covered f v (changes.Put p ∷ cs) → MayChange f v p.key × Covered f v cs
  put_may p cs h = ((h.writes.0, own_ready p.key (changes.Put p) (λ s. refl) cs h.ready), record { writes = h.writes.1; ready = rest_ready p.key (changes.Put p) (λ s. refl) cs h.ready })

  drop_covered : (k : List ℕ) (cs : List Change) → MayChange f v k → Covered f v cs → Covered f v (changes.Drop k ∷ cs)
  drop_covered k cs may h = record { writes = (may.0, h.writes); ready = more_ready k (changes.Drop k) (λ s. refl) cs may h.ready }

  drop_may : (k : List ℕ) (cs : List Change) → Covered f v (changes.Drop k ∷ cs) → MayChange f v k × Covered f v cs
  drop_may k cs h = ((h.writes.0, own_ready k (changes.Drop k) (λ s. refl) cs h.ready), record { writes = h.writes.1; ready = rest_ready k (changes.Drop k) (λ s. refl) cs h.ready })

  front : (k : List ℕ) (cs : List Change) (a b : Option (List ℕ)) → ((is_some a || is_some b) ≡ true → MayChange f v k) → Covered f v cs → Covered f v (net_change k a b ++ cs)
  front k cs None None may h = h
  front k cs None (Some w) may h = put_covered (record { key = k; value = w }) cs (may refl) h
  front k cs (Some u) None may h = drop_covered k cs (may refl) h
  front k cs (Some u) (Some w) may h = put_covered (record { key = k; value = w }) cs (may refl) h

  behind : (k : List ℕ) (cs : List Change) (a b : Option (List ℕ)) → Covered f v (net_change k a b ++ cs) → ((is_some a || is_some b) ≡ true → MayChange f v k) × Covered f v cs
  behind k cs None None h = (λ e. absurd (cc (e)), h)
  behind k cs None (Some w) h = let t = put_may (record { key = k; value = w }) cs h in (λ _. t.0, t.1)
  behind k cs (Some u) None h = let t = drop_may k cs h in (λ _. t.0, t.1)
  behind k cs (Some u) (Some w) h = let t = put_may (record { key = k; value = w }) cs h in (λ _. t.0, t.1)

  nothing_covered : Covered f v []
  nothing_covered = record { writes = tt; ready = λ i low ne. absurd (ne refl) }

  module _ (m n : List Pair) where
    net_covered : (ks : List (List ℕ)) → MayEach f v m n ks → Covered f v (net_changes ks m n)
    net_covered [] h = nothing_covered
    net_covered (k ∷ ks) h = front k (net_changes ks m n) (find k m) (find k n) h.0 (net_covered ks h.1)

    net_may : (ks : List (List ℕ)) → Covered f v (net_changes ks m n) → MayEach f v m n ks
    net_may [] h = tt
    net_may (k ∷ ks) h = let t = behind k (net_changes ks m n) (find k m) (find k n) h in (t.0, net_may ks t.1)

  -- ---- from net changes to the call

  may_write : (m : List Pair) (e : Entry) → Covered f v (changes_of f.order m e) → (is_hard e ≡ true → ReadyAll f v) → MayWrite f v m e
  may_write m e h hard = record { writes = h.writes; out = λ i low c. ⊎_elim (λ ne. h.ready i low ne) (λ t. hard t i low) c }

  write_covered : (m : List Pair) (e : Entry) → MayWrite f v m e → Covered f v (changes_of f.order m e)
  write_covered m e w = record { writes = w.writes; ready = λ i low ne. w.out i low (inl ne) }

  by_touches : (m n : List Pair) (e : Entry) (b : Bool) → changes_of f.order m e ≡ net_changes (written_keys (touches e)) m n → is_hard e ≡ false → Decides b (MayActEach f v m n (touches e)) → Decides b (MayWrite f v m e)
  by_touches m n e b net soft d = (
    λ t. may_write m e (subst (Covered f v) (sym net) (net_covered m n (written_keys (touches e)) (keys_may f v m n (touches e) (d.0 t)))) (λ hard. absurd (cc (hard, soft))),
    λ w. d.1 (touches_may f v m n (touches e) (net_may m n (written_keys (touches e)) (subst (Covered f v) net (write_covered m e w)))),
  )

  module _ (m n : List Pair) (e : Entry) (b : Bool) (after : n ≡ after_entry f.order e m) where
    abbrev May : Entry → Type 0
    May x = n ≡ after_entry f.order x m → Decides b (MayWrite f v m x)

    at : (x : Entry) → e ≡ x → May x → Decides b (MayWrite f v m e)
    at x is may = subst May (sym is) may after

    net : (ts : List Touch) (l : List Pair) → n ≡ l → net_changes (written_keys ts) m l ≡ net_changes (written_keys ts) m n
    net ts l same = ap (net_changes (written_keys ts) m) (sym same)

    pub for_touches : (ts : List Touch) → (e ≡ entries.Proc ts) ⊎ (e ≡ entries.Each ts) → Decides b (MayActEach f v m n ts) → Decides b (MayWrite f v m e)
    for_touches ts is d = ⊎_elim
        (λ (t : e ≡ entries.Proc ts). at (entries.Proc ts) t (λ same. by_touches m n (entries.Proc ts) b (net ts (all_touched f.order ts m) same) refl d))
        (λ (t : e ≡ entries.Each ts). at (entries.Each ts) t (λ same. by_touches m n (entries.Each ts) b (net ts (all_touched f.order ts m) same) refl d)) is
