-- A call is legal, and changes the same, on records that agree where it looks; and it changes only what the locks cover that it needs.
use Rattle.std.proofs.Common.{◌≡◌, ◌&&◌, inr, ℕ, ◌+◌, ◌/◌, ◌%◌, ◌^◌, ◌<◌, Bool, true, false, not, cond, List, [], ◌∷◌, ◌++◌, length, filter, refl, sym, ap, ◌∙◌, subst, arith, if◌then◌else◌}
use Rattle.std.specs.List.{list_all}
use Rattle.std.proofs.Math.Nat.{mod-lt}
use Rattle.std.proofs.lemmas.List.{append-nil}
use Rattle.tk_model.specs.Hashes.{mix_of}
use Rattle.tk_model.specs.Orders.{same_bytes}
use Rattle.tk_model.specs.Records.{find, after_one, after, Rising}
use Rattle.tk_model.specs.Entries.{touched, all_touched, fits, same_value, all_were, is_keep, is_legal, legal, after_entry, replay_entries, written_keys, net_change, net_changes, changes_of, is_in_shard, holds_key, group_of}
use Rattle.tk_model.proofs.KeyOrders.{same_told}
use Rattle.tk_model.proofs.RecordLaws.{touched_rising, entry_rising, find_put_same, find_put_other, find_without_same, find_without_other, same_records}
use Rattle.tk_model.proofs.NetChanges.{touched_other}
use Rattle.tk_model.proofs.Shards.{parts_more}
use Rattle.tk_model.specs.declared.record.Order.{Order}
use Rattle.tk_model.specs.declared.record.Pair.{Pair}
use Rattle.tk_model.specs.declared.record.Change.{Change}
use Rattle.tk_model.specs.declared.record.Change.TheVariants as changes
use Rattle.tk_model.specs.declared.record.Action.{Action}
use Rattle.tk_model.specs.declared.record.Action.TheVariants as actions
use Rattle.tk_model.specs.declared.record.Touch.{Touch}
use Rattle.tk_model.specs.declared.record.Entry.{Entry}
use Rattle.tk_model.specs.declared.record.Entry.TheVariants as entries
use Rattle.tk_core.specs.declared.frame.Frame.{Frame}
use Rattle.tk_core.specs.Lists.{has}
use Rattle.tk_core.specs.Covers.{IsFrame, Reads, Writes, ReadsEach, Searches, HoldsStores, HoldsAll, CoversReads, CoversWrites, stripe_lock, store_of, store_lock}
use Rattle.tk_core.specs.Rule.{shard, is_hard, has_hard, synced, LawAlong, map_after, groups_of}
use Rattle.tk_core.specs.Needs.{KeepsLaw}
use Rattle.tk_core.proofs.Facts.{false_unless, by_bool, by_test, both, not_both}

-- ---- records that agree at the keys of touches

abbrev pub Agree : List Pair → List Pair → List Touch → Type 0
Agree m n [] = Unit {0}
Agree m n (t ∷ ts) = (find t.key m ≡ find t.key n) × Agree m n ts

abbrev pub AgreeAt : List Pair → List Pair → List (List ℕ) → Type 0
AgreeAt m n [] = Unit {0}
AgreeAt m n (k ∷ ks) = (find k m ≡ find k n) × AgreeAt m n ks

acted_alike : (o : Order) (k : List ℕ) (a : Action) (m n : List Pair) → Rising o m → Rising o n → find k m ≡ find k n → find k (touched o k a m) ≡ find k (touched o k a n)
acted_alike o k actions.Keep m n rm rn e = e
acted_alike o k (actions.Put v) m n rm rn e = find_put_same o (record { key = k; value = v }) m ∙ sym (find_put_same o (record { key = k; value = v }) n)
acted_alike o k actions.Drop m n rm rn e = find_without_same o k m rm ∙ sym (find_without_same o k n rn)

touched_alike : (o : Order) (j k : List ℕ) (a : Action) (m n : List Pair) → Rising o m → Rising o n → find j m ≡ find j n → find j (touched o k a m) ≡ find j (touched o k a n)
touched_alike o j k a m n rm rn e = by_bool (same_bytes j k)
    (λ same. let t = same_told j k same in subst (λ z. find z (touched o k a m) ≡ find z (touched o k a n)) (sym t) (acted_alike o k a m n rm rn (subst (λ z. find z m ≡ find z n) t e)))
    (λ other. touched_other o j k a m other ∙ e ∙ sym (touched_other o j k a n other))

agree_on : (o : Order) (k : List ℕ) (a : Action) (m n : List Pair) (ts : List Touch) → Rising o m → Rising o n → Agree m n ts → Agree (touched o k a m) (touched o k a n) ts
agree_on o k a m n [] rm rn g = tt
agree_on o k a m n (t ∷ ts) rm rn g = (touched_alike o t.key k a m n rm rn g.0, agree_on o k a m n ts rm rn g.1)

ends_alike : (o : Order) (j : List ℕ) (ts : List Touch) (m n : List Pair) → Rising o m → Rising o n → find j m ≡ find j n → find j (all_touched o ts m) ≡ find j (all_touched o ts n)
ends_alike o j [] m n rm rn e = e
ends_alike o j (t ∷ ts) m n rm rn e = ends_alike o j ts (touched o t.key t.action m) (touched o t.key t.action n) (touched_rising o t.key t.action m rm) (touched_rising o t.key t.action n rn) (touched_alike o j t.key t.action m n rm rn e)

were_alike : (o : Order) (ts : List Touch) (m n : List Pair) → Rising o m → Rising o n → Agree m n ts → all_were o ts m ≡ all_were o ts n
were_alike o [] m n rm rn g = refl
were_alike o (t ∷ ts) m n rm rn g =
    let rest = were_alike o ts (touched o t.key t.action m) (touched o t.key t.action n) (touched_rising o t.key t.action m rm) (touched_rising o t.key t.action n rn) (agree_on o t.key t.action m n ts rm rn g.1) in
    ap (λ v. same_value t.was v && all_were o ts (touched o t.key t.action m)) g.0 ∙ ap (λ b. same_value t.was (find t.key n) && b) rest

agree_picked : (m n : List Pair) (p : List ℕ → Bool) (ks : List (List ℕ)) → AgreeAt m n ks → AgreeAt m n (filter p ks)
agree_picked m n p [] g = tt
agree_picked m n p (k ∷ ks) g = picked (p k) (agree_picked m n p ks g.1)
  where
    picked : (b : Bool) → AgreeAt m n (filter p ks) → AgreeAt m n (if b then k ∷ filter p ks else filter p ks)
    picked true h = (g.0, h)
    picked false h = h

agree_written : (m n : List Pair) (ts : List Touch) → Agree m n ts → AgreeAt m n (written_keys ts)
agree_written m n [] g = tt
agree_written m n (t ∷ ts) g = picked (is_keep t.action) (agree_written m n ts g.1)
  where
    picked : (b : Bool) → AgreeAt m n (written_keys ts) → AgreeAt m n (if b then written_keys ts else t.key ∷ filter (λ k. not (same_bytes t.key k)) (written_keys ts))
    picked true h = h
    picked false h = (g.0, agree_picked m n (λ k. not (same_bytes t.key k)) (written_keys ts) h)

net_alike : (ks : List (List ℕ)) (m n m' n' : List Pair) → AgreeAt m n ks → ((k : List ℕ) → find k m ≡ find k n → find k m' ≡ find k n') → net_changes ks m m' ≡ net_changes ks n n'
net_alike [] m n m' n' g e = refl
net_alike (k ∷ ks) m n m' n' g e =
    ap (λ u. net_change k u (find k m') ++ net_changes ks m m') g.0 ∙ ap (λ u. net_change k (find k n) u ++ net_changes ks m m') (e k g.0)
    ∙ ap (λ cs. net_change k (find k n) (find k n') ++ cs) (net_alike ks m n m' n' g.1 e)

reads_agree : (f : Frame) (held : List ℕ) (m n : List Pair) (ts : List Touch) → ((k : List ℕ) → Reads f held k → find k m ≡ find k n) → ReadsEach f held ts → Agree m n ts
reads_agree f held m n [] g r = tt
reads_agree f held m n (t ∷ ts) g r = (g t.key r.0, reads_agree f held m n ts g r.1)

-- ---- who holds all stores covers each key

pub in_stores : (f : Frame) (k : List ℕ) → IsFrame f → store_of f k < f.stores
in_stores f k frame = mod-lt (mix_of k / 2 ^ 16 % 2 ^ 16) (let h = frame.stores in omega arith)

pub in_stripes : (f : Frame) (k : List ℕ) → IsFrame f → stripe_lock f k < f.stripes
in_stripes f k frame = mod-lt (mix_of k) (let h = frame.stripes in omega arith)

pub reads_all : (f : Frame) (held : List ℕ) → IsFrame f → HoldsStores f held → (k : List ℕ) → Reads f held k
reads_all f held frame all k = inr (all (store_of f k) (in_stores f k frame))

pub writes_all : (f : Frame) (held : List ℕ) → IsFrame f → HoldsAll f held → (k : List ℕ) → Writes f held k
writes_all f held frame all k = (all (stripe_lock f k) (let h = in_stripes f k frame in omega arith), all (store_lock f (store_of f k)) (let h = in_stores f k frame in omega arith))

stores_of_all : (f : Frame) (held : List ℕ) → HoldsAll f held → HoldsStores f held
stores_of_all f held all i low = all (store_lock f i) (omega arith)

searches_stores : (f : Frame) (held : List ℕ) (b : Bool) → Searches f held b → HoldsStores f held
searches_stores f held true h = h
searches_stores f held false h = stores_of_all f held h

-- ---- the same call on records that agree

abbrev pub Alike : Order → Entry → List Pair → List Pair → Type 0
Alike o e m n = (is_legal o m e ≡ is_legal o n e) × (changes_of o m e ≡ changes_of o n e)

module _ (f : Frame) (held : List ℕ) (frame : IsFrame f) (m n : List Pair) (rm : Rising f.order m) (rn : Rising f.order n) (agree : (k : List ℕ) → Reads f held k → find k m ≡ find k n) where
  whole_alike : (e : Entry) → HoldsStores f held → Alike f.order e m n
  whole_alike e all = let same : m ≡ n = same_records f.order m n rm rn (λ k. agree k (reads_all f held frame all k)) in (ap (λ r. is_legal f.order r e) same, ap (λ r. changes_of f.order r e) same)

  pub call_alike : (e : Entry) → CoversReads f held e → Alike f.order e m n
  call_alike (entries.Proc ts) c = let g = reads_agree f held m n ts agree c in (
    ap (λ b. b && list_all fits ts) (were_alike f.order ts m n rm rn g),
    net_alike (written_keys ts) m n (all_touched f.order ts m) (all_touched f.order ts n) (agree_written m n ts g) (λ k e. ends_alike f.order k ts m n rm rn e),
  )
  call_alike (entries.Next w b found a) c = whole_alike (entries.Next w b found a) (searches_stores f held (is_keep a) c)
  call_alike (entries.Each ts) c = whole_alike (entries.Each ts) (stores_of_all f held c)
  call_alike (entries.Count q) c = whole_alike (entries.Count q) c
  call_alike entries.Clear c = whole_alike entries.Clear (stores_of_all f held c)
  call_alike (entries.Sync hard) c = whole_alike (entries.Sync hard) c

-- ---- what a call leaves alone

pub key_stays : (f : Frame) (held : List ℕ) → IsFrame f → (k : List ℕ) → (Writes f held k → ⊥) → (cs : List Change) (m : List Pair) → CoversWrites f held cs → find k (after f.order cs m) ≡ find k m
key_stays f held frame k free [] m c = refl
key_stays f held frame k free (changes.Put p ∷ cs) m c =
    key_stays f held frame k free cs (after_one f.order (changes.Put p) m) c.1
    ∙ find_put_other f.order k p m (false_unless (same_bytes k p.key) (λ same. free (subst (λ z. Writes f held z) (sym (same_told k p.key same)) c.0)))
key_stays f held frame k free (changes.Drop j ∷ cs) m c =
    key_stays f held frame k free cs (after_one f.order (changes.Drop j) m) c.1
    ∙ find_without_other k j m (false_unless (same_bytes k j) (λ same. free (subst (λ z. Writes f held z) (sym (same_told k j same)) c.0)))
key_stays f held frame k free (changes.Clear ∷ cs) m c = absurd (free (writes_all f held frame c.0 k))

shard_else : (f : Frame) (held : List ℕ) (i : ℕ) (k : List ℕ) → has (store_lock f i) held ≡ false → has (store_lock f (store_of f k)) held ≡ true → holds_key (shard f i) k ≡ false
shard_else f held i k free h = by_test (store_of f k) i (λ b. b ≡ false) (λ e. absurd (not_both (has (store_lock f i) held) (subst (λ (z : ℕ). has (store_lock f z) held ≡ true) e h) free)) (λ _. refl)

skipped : (b : Bool) (c : Change) (cs : List Change) → b ≡ false → cs ≡ [] → (if b then c ∷ cs else cs) ≡ []
skipped true c cs e h = absurd cc
skipped false c cs e h = h

pub store_stays : (f : Frame) (held : List ℕ) (i : ℕ) → i < f.stores → has (store_lock f i) held ≡ false → (cs : List Change) → CoversWrites f held cs → filter (is_in_shard (shard f i)) cs ≡ []
store_stays f held i low free [] c = refl
store_stays f held i low free (changes.Put p ∷ cs) c =
    skipped (holds_key (shard f i) p.key) (changes.Put p) (filter (is_in_shard (shard f i)) cs) (shard_else f held i p.key free c.0.1) (store_stays f held i low free cs c.1)
store_stays f held i low free (changes.Drop k ∷ cs) c =
    skipped (holds_key (shard f i) k) (changes.Drop k) (filter (is_in_shard (shard f i)) cs) (shard_else f held i k free c.0.1) (store_stays f held i low free cs c.1)
store_stays f held i low free (changes.Clear ∷ cs) c = absurd (not_both (has (store_lock f i) held) (c.0 (store_lock f i) (omega arith)) free)

-- ---- one more call

pub replay_snoc : (o : Order) (es : List Entry) (e : Entry) (m : List Pair) → replay_entries o (es ++ e ∷ []) m ≡ after_entry o e (replay_entries o es m)
replay_snoc o [] e m = refl
replay_snoc o (x ∷ xs) e m = replay_snoc o xs e (after_entry o x m)

pub legal_snoc : (o : Order) (es : List Entry) (e : Entry) (m : List Pair) → legal o m es ≡ true → is_legal o (replay_entries o es m) e ≡ true → legal o m (es ++ e ∷ []) ≡ true
legal_snoc o [] e m l h = ap (λ b. b && true) h
legal_snoc o (x ∷ xs) e m l h = let t = both (is_legal o m x) (legal o (after_entry o x m) xs) l in
    ap (λ b. b && legal o (after_entry o x m) (xs ++ e ∷ [])) t.0 ∙ legal_snoc o xs e (after_entry o x m) t.1 h

pub along_snoc : (f : Frame) (law : List Pair → Type 0) (es : List Entry) (e : Entry) (m : List Pair) → Rising f.order m → LawAlong f.order law m es → KeepsLaw f law e → is_legal f.order (replay_entries f.order es m) e ≡ true
    → LawAlong f.order law m (es ++ e ∷ [])
along_snoc f law [] e m rm l keeps h = (l, keeps m rm l h)
along_snoc f law (x ∷ xs) e m rm l keeps h = (l.0, along_snoc f law xs e (after_entry f.order x m) (entry_rising f.order x m rm) l.1 keeps h)

pub groups_stay : (f : Frame) (m : List Pair) (es : List Entry) (e : Entry) (i : ℕ) → filter (is_in_shard (shard f i)) (changes_of f.order (map_after f m es) e) ≡ [] → groups_of f m (es ++ e ∷ []) i ≡ groups_of f m es i
groups_stay f m es e i none_here = parts_more f.order (shard f i) f.base m es e
    ∙ ap (λ cs. groups_of f m es i ++ group_of (f.base + length es) cs) none_here ∙ append-nil (groups_of f m es i)

hard_snoc : (es : List Entry) (e : Entry) → is_hard e ≡ false → has_hard (es ++ e ∷ []) ≡ has_hard es
hard_snoc [] e h = ap (λ b. cond b true false) h
hard_snoc (x ∷ xs) e h = ap (λ b. cond (is_hard x) true b) (hard_snoc xs e h)

pub synced_snoc : (es : List Entry) (e : Entry) → is_hard e ≡ false → synced (es ++ e ∷ []) ≡ synced es
synced_snoc [] e h = ap (λ b. cond b (e ∷ []) []) (hard_snoc [] e h)
synced_snoc (x ∷ xs) e h = ap (λ b. cond b (x ∷ synced (xs ++ e ∷ [])) []) (hard_snoc (x ∷ xs) e h) ∙ ap (λ es. cond (has_hard (x ∷ xs)) (x ∷ es) []) (synced_snoc xs e h)

-- a hard synchronisation that is the last call makes all safe
pub synced_hard : (es : List Entry) (e : Entry) → is_hard e ≡ true → synced (es ++ e ∷ []) ≡ es ++ e ∷ []
synced_hard [] e h = ap (λ b. cond b (e ∷ []) []) (ap (λ b. cond b true false) h)
synced_hard (x ∷ xs) e h = ap (λ b. cond b (x ∷ synced (xs ++ e ∷ [])) []) (ends_hard (x ∷ xs) e h) ∙ ap (λ es. x ∷ es) (synced_hard xs e h)
  where
    ends_hard : (es : List Entry) (e : Entry) → is_hard e ≡ true → has_hard (es ++ e ∷ []) ≡ true
    ends_hard [] e h = ap (λ b. cond b true false) h
    ends_hard (x ∷ xs) e h = ap (λ b. cond (is_hard x) true b) (ends_hard xs e h) ∙ always (is_hard x)
      where
        always : (b : Bool) → cond b true true ≡ true
        always true = refl
        always false = refl
