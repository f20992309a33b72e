-- What a store that is good for a history answers, and what a call makes of it.
use Rattle.std.proofs.Common.{◌≡◌, ◌≢◌, ℕ, zero, suc, ◌+◌, ◌<◌, ◌≤◌, Bool, true, false, List, [], ◌∷◌, ◌++◌, length, filter, Option, Some, None, IfSome, Result, IfOk, is_some, if◌then◌else◌, refl, sym, ap, ◌∙◌, subst, arith, eq-eqb}
use mathlib.Core.Option.{some, some-injective, some-ne-none}
use lib.ListN.{get_elem?}
use Rattle.tk_model.specs.Records.{find, replay}
use Rattle.tk_model.specs.Entries.{changes_of, is_in_shard, shard_records, holds_key, group_of}
use Rattle.tk_model.specs.declared.record.Pair.{Pair}
use Rattle.tk_model.specs.declared.record.Group.{Group}
use Rattle.tk_model.specs.declared.record.Change.{Change}
use Rattle.tk_model.specs.declared.record.Entry.{Entry}
use Rattle.tk_model.specs.declared.record.Order.{Order}
use Rattle.tk_model.proofs.Shards.{shard_find, parts_reach, parts_more}
use Rattle.tk_store.specs.declared.error.StoreError.{StoreError}
use Rattle.tk_store.specs.Store.{First, StoreView, StoreConstants, groups_made_by, IsWhole, Keeps, Gives, floor_after}
use Rattle.tk_core.specs.declared.frame.Frame.{Frame}
use Rattle.tk_core.specs.Covers.{store_of}
use Rattle.tk_core.specs.Rule.{map_after, shard, groups_of, hard_groups, is_hard}
use Rattle.tk_core.proofs.Calls.{synced_snoc, synced_hard, groups_stay}
use Rattle.std.proofs.lemmas.List.{append-nil}
use Rattle.tk_locks.specs.declared.home.Home.{Home}
use Rattle.tk_locks.specs.Made.{Fresh}
use Rattle.tk_locks.specs.Rule.{Ground, Began, good_of, next_fits, records_in}
use Rattle.tk_dbm.specs.Setting.{tells_at, IsWritable}

there : {A : Type 0} (xs : List A) (i : ℕ) → i < length xs → (x : A) × (get_elem? xs i ≡ some x)
there [] i h = absurd (omega arith)
there (x ∷ xs) zero h = (x, refl)
there (x ∷ xs) (suc i) h = there xs i (omega arith)

if_some : {A : Type 0} (o : Option A) (P Q : A → Type 0) → ((a : A) → P a → Q a) → IfSome o P → IfSome o Q
if_some None P Q f h = tt
if_some (Some a) P Q f h = f a h

if_told : {A : Type 0} (o : Option A) (P : A → Type 0) → (is_some o ≡ true → IfSome o P) → IfSome o P
if_told None P f = tt
if_told (Some a) P f = f refl

tells_home : {T : Type 0} (store_view : T → StoreView) (hs : List (Option (Home T))) (i : ℕ) (h : Home T) → get_elem? hs i ≡ some (Some h) → tells_at store_view hs i ≡ is_some (store_view h.store).map
tells_home store_view [] i h e = absurd (some-ne-none (Some h) (sym e))
tells_home store_view (None ∷ hs) zero h e = absurd (cc (e))
tells_home store_view (Some x ∷ hs) zero h e = let same : Some x ≡ Some h = some-injective (Some x) (Some h) e in let q : x ≡ h = cc (same) in ap (λ (z : Home _). is_some (store_view z.store).map) q
tells_home store_view (None ∷ hs) (suc i) h e = tells_home store_view hs i h e
tells_home store_view (Some x ∷ hs) (suc i) h e = tells_home store_view hs i h e

made_is : (n : StoreConstants) (number : ℕ) (cs : List Change) → cs ≢ [] → groups_made_by n number cs ≡ group_of number cs
made_is n number [] any = absurd (any refl)
made_is n number (c ∷ cs) any = refl

floor_is : (n : StoreConstants) (floor number : ℕ) (cs : List Change) → cs ≢ [] → floor_after floor (groups_made_by n number cs) ≡ number + 1
floor_is n floor number [] any = absurd (any refl)
floor_is n floor number (c ∷ cs) any = refl

module _ {T : Type 0} (law : List Pair → Bool) (stands : T → First → List Group → ℕ → Type 0) (store_view : T → StoreView) (constants : T → StoreConstants) (g : Ground T) (fresh : Fresh law stands store_view constants g.frame g.start) (i : ℕ) (low : i < g.frame.stores) where
  abbrev f : Frame
  f = g.frame

  abbrev m : List Pair
  m = records_in g.frame.order store_view g.start

  abbrev Good : T → List Group → ℕ → Type 0
  Good x gs n = good_of stands store_view constants g i x gs n

  pub at_start : (h : Home T) × (get_elem? g.start i ≡ some (Some h))
  at_start = let x = there g.start i (let z = fresh.long in omega arith) in let y = fresh.there i x.0 x.1 in (y.0, x.1 ∙ ap some y.1)

  began : (first : First) × Began stands g.start i first
  began = let x = there g.start i (let z = fresh.long in omega arith) in let y = fresh.there i x.0 x.1 in (y.5.0, (y.0, x.1 ∙ ap some y.1, y.5.1))

  pub whole : (x : T) (gs : List Group) (n : ℕ) → Good x gs n → IsWhole stands x
  unfolding good_of
  whole x gs n good = good.whole

  pub unclosed : (x : T) (gs : List Group) (n : ℕ) → Good x gs n → (store_view x).closed ≡ false
  unfolding good_of
  unclosed x gs n good = good.unclosed

  pub same_constants : (x : T) (gs : List Group) (n : ℕ) → Good x gs n → constants x ≡ constants at_start.0.store
  unfolding good_of
  same_constants x gs n good = (good.natured at_start.0 at_start.1).0

  pub tells_still : (x : T) (gs : List Group) (n : ℕ) → Good x gs n → is_some (store_view x).map ≡ tells_at store_view g.start i
  unfolding good_of
  tells_still x gs n good = (good.natured at_start.0 at_start.1).1 ∙ sym (tells_home store_view g.start i at_start.0 at_start.1)

  pub writes : (x : T) (gs : List Group) (n : ℕ) (w : Bool) → IsWritable constants g w → w ≡ true → Good x gs n → (constants x).writable ≡ true
  writes x gs n w all is good = ap (λ (z : StoreConstants). z.writable) (same_constants x gs n good) ∙ all is i at_start.0 at_start.1

  in_order : (x : T) (gs : List Group) (n : ℕ) → Good x gs n → (constants x).order ≡ f.order
  in_order x gs n good = ap (λ (z : StoreConstants). z.order) (same_constants x gs n good) ∙ fresh.order i at_start.0 at_start.1

  -- whatever keeps its records, its constants and whether it is closed keeps it good
  pub stays : (x y : T) (gs : List Group) (n : ℕ) → Keeps stands x y → constants y ≡ constants x → (store_view y).map ≡ (store_view x).map → (store_view y).closed ≡ (store_view x).closed → Good x gs n → Good y gs n
  unfolding good_of
  stays x y gs n keeps same_constant same_map same_closed good = record {
    stands_now = λ told first b. let s = good.stands_now (ap is_some (sym same_map) ∙ told) first b in (s.0, s.1, keeps first gs s.0 s.2);
    whole = let w = good.whole in (w.0, w.1, w.2, keeps w.0 w.1 w.2 w.3);
    natured = λ h at. let t = good.natured h at in (same_constant ∙ t.0, ap is_some same_map ∙ t.1);
    unclosed = same_closed ∙ good.unclosed;
  }

  module _ (replays : (s : T) (first : First) (since : List Group) (hard : ℕ) → stands s first since hard → IfSome (store_view s).map (λ n. n ≡ replay (constants s).order since first.records)) where
    -- its records are those of its shard after the history
    pub map_in : (x : T) (log : List Entry) (n : ℕ) → Good x (groups_of f m log i) n → IfSome (store_view x).map (λ r. r ≡ shard_records (shard f i) (map_after f m log))
    unfolding good_of
    map_in x log n good = if_told (store_view x).map (λ r. r ≡ shard_records (shard f i) (map_after f m log)) (λ told. let b = began in let s = good.stands_now told b.0 b.1 in
        if_some (store_view x).map (λ r. r ≡ replay (constants x).order (groups_of f m log i) b.0.records) (λ r. r ≡ shard_records (shard f i) (map_after f m log))
        (λ r e. e ∙ ap (λ (o : Order). replay o (groups_of f m log i) b.0.records) (in_order x (groups_of f m log i) n good) ∙ ap (replay f.order (groups_of f m log i)) (fresh.shards i b.0 b.1 (sym ((good.natured b.1.0 b.1.1).1) ∙ told)) ∙ parts_reach f.order (shard f i) f.base m log fresh.rising)
        (replays x b.0 (groups_of f m log i) s.0 s.2))

    pub found_in : (x : T) (log : List Entry) (n : ℕ) (k : List ℕ) → store_of f k ≡ i → Good x (groups_of f m log i) n → IfSome (store_view x).map (λ r. find k r ≡ find k (map_after f m log))
    found_in x log n k here good = if_some (store_view x).map (λ r. r ≡ shard_records (shard f i) (map_after f m log)) (λ r. find k r ≡ find k (map_after f m log))
        (λ r e. ap (find k) e ∙ shard_find (shard f i) k (map_after f m log) ∙ held (holds_key (shard f i) k) (eq-eqb (store_of f k) i here))
        (map_in x log n good)
      where
        held : (b : Bool) → b ≡ true → (if b then find k (map_after f m log) else None) ≡ find k (map_after f m log)
        held true e = refl
        held false e = absurd (cc (e))

    -- what a look-up there gives is the value that the history left
    pub found_value : (x : T) (log : List Entry) (n : ℕ) (k : List ℕ) → store_of f k ≡ i → Good x (groups_of f m log i) n → tells_at store_view g.start i ≡ true → (r : Result Bool StoreError) (old new : List ℕ)
        → IfSome (store_view x).map (λ q. IfOk r (Gives (find k q) old new)) → IfOk r (Gives (find k (map_after f m log)) old new)
    found_value x log n k here good tells r old new gives = go (store_view x).map (tells_still x (groups_of f m log i) n good ∙ tells) (found_in x log n k here good) gives
      where
        go : (o : Option (List Pair)) → is_some o ≡ true → IfSome o (λ q. find k q ≡ find k (map_after f m log)) → IfSome o (λ q. IfOk r (Gives (find k q) old new)) → IfOk r (Gives (find k (map_after f m log)) old new)
        go None t e h = absurd (cc (t))
        go (Some q) t e h = subst (λ (z : Option (List ℕ)). IfOk r (Gives z old new)) e h

    -- so many records it tells
    pub counted_in : (x : T) (log : List Entry) (n : ℕ) → Good x (groups_of f m log i) n → tells_at store_view g.start i ≡ true → (k : ℕ) → (IsWhole stands x → IfSome (store_view x).map (λ q. k ≡ length q)) → k ≡ length (shard_records (shard f i) (map_after f m log))
    counted_in x log n good tells k is = go (store_view x).map (tells_still x (groups_of f m log i) n good ∙ tells) (map_in x log n good) (is (whole x (groups_of f m log i) n good))
      where
        go : (o : Option (List Pair)) → is_some o ≡ true → IfSome o (λ q. q ≡ shard_records (shard f i) (map_after f m log)) → IfSome o (λ q. k ≡ length q) → k ≡ length (shard_records (shard f i) (map_after f m log))
        go None t e h = absurd (cc (t))
        go (Some q) t e h = h ∙ ap (λ (z : List Pair). length z) e

  -- a group was made: where the store tells its records, that of the call
  pub grows : (x y : T) (log : List Entry) (e : Entry) (number : ℕ) (cs : List Change) → Good x (groups_of f m log i) (hard_groups f m log i) → number ≡ f.base + length log → cs ≢ [] → is_hard e ≡ false
      → (is_some (store_view x).map ≡ true → cs ≡ filter (is_in_shard (shard f i)) (changes_of f.order (map_after f m log) e))
      → ((first : First) (since : List Group) (hard : ℕ) → stands x first since hard → stands y first (since ++ groups_made_by (constants x) number cs) hard)
      → constants y ≡ constants x → is_some (store_view y).map ≡ is_some (store_view x).map → (store_view y).closed ≡ false → Good y (groups_of f m (log ++ e ∷ []) i) (hard_groups f m (log ++ e ∷ []) i)
  unfolding good_of
  grows x y log e number cs good counted any soft told more same_constant same_told ajar = record {
    stands_now = λ tells first b. let was = sym same_told ∙ tells in let s = good.stands_now was first b in (
      s.0,
      subst (λ (es : List Entry). length (groups_of f m es i) ≤ s.0) (sym (synced_snoc log e soft)) s.1,
      subst (λ (gs : List Group). stands y first gs s.0)
          (ap (λ (gs : List Group). groups_of f m log i ++ gs) (made_is (constants x) number cs any ∙ ap (group_of number) (told was)
          ∙ ap (λ (k : ℕ). group_of k (filter (is_in_shard (shard f i)) (changes_of f.order (map_after f m log) e))) counted) ∙ sym (parts_more f.order (shard f i) f.base m log e))
          (more first (groups_of f m log i) s.0 s.2),
    );
    whole = let w = good.whole in (w.0, w.1 ++ groups_made_by (constants x) number cs, w.2, more w.0 w.1 w.2 w.3);
    natured = λ h at. let t = good.natured h at in (same_constant ∙ t.0, same_told ∙ t.1);
    unclosed = ajar;
  }

  -- nothing of the store was changed by the call
  pub goes_on : (x y : T) (log : List Entry) (e : Entry) → Good x (groups_of f m log i) (hard_groups f m log i) → is_hard e ≡ false → (is_some (store_view x).map ≡ true → filter (is_in_shard (shard f i)) (changes_of f.order (map_after f m log) e) ≡ [])
      → Keeps stands x y → constants y ≡ constants x → (store_view y).map ≡ (store_view x).map → (store_view y).closed ≡ (store_view x).closed → Good y (groups_of f m (log ++ e ∷ []) i) (hard_groups f m (log ++ e ∷ []) i)
  unfolding good_of
  goes_on x y log e good soft none keeps same_constant same_map same_closed = record {
    stands_now = λ tells first b. let was = ap is_some (sym same_map) ∙ tells in let s = good.stands_now was first b in (
      s.0,
      subst (λ (es : List Entry). length (groups_of f m es i) ≤ s.0) (sym (synced_snoc log e soft)) s.1,
      subst (λ (gs : List Group). stands y first gs s.0) (sym (groups_stay f m log e i (none was))) (keeps first (groups_of f m log i) s.0 s.2),
    );
    whole = let w = good.whole in (w.0, w.1, w.2, keeps w.0 w.1 w.2 w.3);
    natured = λ h at. let t = good.natured h at in (same_constant ∙ t.0, ap is_some same_map ∙ t.1);
    unclosed = same_closed ∙ good.unclosed;
  }

  -- a hard synchronisation made all of it safe
  pub hardens : (x y : T) (log : List Entry) (e : Entry) (number : ℕ) → Good x (groups_of f m log i) (hard_groups f m log i) → is_hard e ≡ true → filter (is_in_shard (shard f i)) (changes_of f.order (map_after f m log) e) ≡ [] → groups_made_by (constants x) number [] ≡ []
      → ((first : First) (since : List Group) (hard : ℕ) → stands x first since hard → stands y first (since ++ groups_made_by (constants x) number []) (length (since ++ groups_made_by (constants x) number [])))
      → constants y ≡ constants x → is_some (store_view y).map ≡ is_some (store_view x).map → (store_view y).closed ≡ false → Good y (groups_of f m (log ++ e ∷ []) i) (hard_groups f m (log ++ e ∷ []) i)
  unfolding good_of
  hardens x y log e number good is_sync none unmarked more same_constant same_told ajar = record {
    stands_now = λ tells first b. let was = sym same_told ∙ tells in let s = good.stands_now was first b in
        let same = groups_stay f m log e i none in (
          length (groups_of f m log i),
          (let a = ap (λ (es : List Entry). length (groups_of f m es i)) (synced_hard log e is_sync) in let b = ap (λ (gs : List Group). length gs) same in omega arith),
          subst (λ (gs : List Group). stands y first gs (length (groups_of f m log i))) (sym same) (all first (groups_of f m log i) s.0 s.2),
        );
    whole = let w = good.whole in (w.0, w.1, length w.1, all w.0 w.1 w.2 w.3);
    natured = λ h at. let t = good.natured h at in (same_constant ∙ t.0, same_told ∙ t.1);
    unclosed = ajar;
  }
    where
      all : (first : First) (since : List Group) (hard : ℕ) → stands x first since hard → stands y first since (length since)
      all first since hard st = subst (λ (gs : List Group). stands y first gs (length gs)) (ap (λ (gs : List Group). since ++ gs) unmarked ∙ append-nil since) (more first since hard st)

  pub next_stays : (x y : T) (n : ℕ) → constants y ≡ constants x → (store_view y).floor ≡ (store_view x).floor → next_fits store_view constants g x n → next_fits store_view constants g y n
  next_stays x y n same_constant same_floor fits w = let h = fits (sym (ap (λ (z : StoreConstants). z.writable) same_constant) ∙ w) in omega arith

  -- behind the group that was made, one of the next number may follow
  pub next_on : (y : T) (floor number k : ℕ) (cs : List Change) (n : StoreConstants) → cs ≢ [] → number ≡ g.frame.base + k → (store_view y).floor ≡ floor_after floor (groups_made_by n number cs) → next_fits store_view constants g y (k + 1)
  next_on y floor number k cs n any is e w = let z = floor_is n floor number cs any in omega arith
