-- Runs of processors are legal calls.
use Rattle.std.proofs.Common.{◌≡◌, ℕ, ◌≤◌, Bool, true, false, ◌&&◌, List, [], ◌∷◌, length, map, Option, Some, None, refl, sym, ap, subst, ◌∙◌, arith, if◌then◌else◌}
use Rattle.std.proofs.lemmas.Bool.Decides.{nat_tests}
use Rattle.std.proofs.lemmas.List.{append-nil}
use Rattle.std.specs.Prelude.{nat_le}
use Rattle.std.specs.List.{list_all}
use Rattle.tk_model.specs.Orders.{same_bytes}
use Rattle.tk_model.specs.Records.{find, put, without, named, first_within, last_within, or_else, reaches, AllBehind, Rising, AllHeld}
use Rattle.tk_model.specs.Entries.{touched, same_value, same_record, all_were, are_all, stored, fits, is_legal, net_change, changes_of}
use Rattle.tk_model.proofs.KeyOrders.{same_itself}
use Rattle.tk_model.proofs.RecordLaws.{apart_greater, flipped, found_head, found_deeper, find_put_same, find_without_same}
use Rattle.tk_model.proofs.NetChanges.{touched_other}
use Rattle.tk_model.specs.declared.record.Order.{Order}
use Rattle.tk_model.specs.declared.record.Way.{Way}
use Rattle.tk_model.specs.declared.record.Way.TheVariants.{Up, Down}
use Rattle.tk_model.specs.declared.record.Bound.{Bound}
use Rattle.tk_model.specs.declared.record.Pair.{Pair}
use Rattle.tk_model.specs.declared.record.Touch.{Touch}
use Rattle.tk_model.specs.declared.record.Action.{Action}
use Rattle.tk_model.specs.declared.record.Action.TheVariants.{Keep, Put, Drop}
use Rattle.tk_model.specs.declared.record.Entry.TheVariants as entries
use Rattle.std.specs.declared.cmp.Ordering.TheVariants.{Less}
use Rattle.tk_proc.specs.Runs.{counted, is_long, first_long, kept, touches_by, keys_of, unless_long, action_changes, run_touches, keys_entry, each_entry, found_entry, next_entry}
use Rattle.tk_proc.specs.RunLaws.{AllShort}

-- ---- tests

same_found : (v : Option (List ℕ)) → same_value v v ≡ true
same_found None = refl
same_found (Some v) = same_itself v

both : (a b : Bool) → a ≡ true → b ≡ true → (a && b) ≡ true
both a b e f = rw (e, f) refl

at_most : (n limit : ℕ) → n ≤ limit → nat_le n limit ≡ true
at_most n limit e = grind (arith, nat_tests)

not_long : (a : Action) → is_long a ≡ false → stored a ≤ 16777215
not_long a e = grind (arith, nat_tests)

short_fits : (k : List ℕ) (was : Option (List ℕ)) (a : Action) → length k ≤ 65535 → stored a ≤ 16777215 → fits (record { key = k; was = was; action = a }) ≡ true
short_fits k was a key value = both (nat_le (length k) 65535) (nat_le (stored a) 33554431) (at_most (length k) 65535 key) (at_most (stored a) 33554431 (omega arith))

none_first : (b : Bool) (n : ℕ) (rest : Option ℕ) → (if b then Some n else rest) ≡ None → b ≡ false
none_first true n rest e = absurd (cc)
none_first false n rest e = refl

none_rest : (b : Bool) (n : ℕ) (rest : Option ℕ) → (if b then Some n else rest) ≡ None → rest ≡ None
none_rest true n rest e = absurd (cc)
none_rest false n rest e = e

pub short_stores : (a : Action) → stored (unless_long a) ≤ 16777215
short_stores a = by (is_long a) refl
  where
    by : (b : Bool) → is_long a ≡ b → stored (if b then Keep else a) ≤ 16777215
    by true e = omega arith
    by false e = not_long a e

-- ---- touches that keep

kept_were : (o : Order) (ks : List (List ℕ)) (m : List Pair) → all_were o (map (kept m) ks) m ≡ true
kept_were o [] m = refl
kept_were o (k ∷ ks) m = both (same_value (find k m) (find k m)) (all_were o (map (kept m) ks) m) (same_found (find k m)) (kept_were o ks m)

kept_fit : (ks : List (List ℕ)) (m : List Pair) → AllShort ks → list_all fits (map (kept m) ks) ≡ true
kept_fit [] m short = refl
kept_fit (k ∷ ks) m short =
    both (fits (kept m k)) (list_all fits (map (kept m) ks)) (short_fits k (find k m) Keep short.0 (omega arith)) (kept_fit ks m short.1)

-- ---- each record is found

abbrev pub AllFound : List Pair → List Pair → Type 0
AllFound m [] = Unit {0}
AllFound m (p ∷ ps) = (find p.key m ≡ Some p.value) × AllFound m ps

found_past : (o : Order) (k : List ℕ) (m n ps : List Pair) → ((j : List ℕ) → same_bytes j k ≡ false → find j n ≡ find j m) → AllBehind o k ps → AllFound m ps → AllFound n ps
found_past o k m n [] same behind found = tt
found_past o k m n (p ∷ ps) same behind found =
    (same p.key (apart_greater o p.key k (flipped o k p.key Less behind.0)) ∙ found.0, found_past o k m n ps same behind.1 found.1)

pub all_found : (o : Order) (m : List Pair) → Rising o m → AllFound m m
all_found o [] rising = tt
all_found o (p ∷ ps) rising =
    (found_head p.key p ps (same_itself p.key), found_past o p.key ps (p ∷ ps) ps (λ j other. found_deeper j p ps other) rising.0 (all_found o ps rising.1))

found_same : (p : Pair) (m : List Pair) → find p.key m ≡ Some p.value → same_value (find p.key m) (Some p.value) ≡ true
found_same p m e = rw e (same_itself p.value)

kept_each : (ps m : List Pair) → AllFound m ps → are_all (map (kept m) (keys_of ps)) ps ≡ true
kept_each [] m found = refl
kept_each (p ∷ ps) m found =
    let rest : (same_value (find p.key m) (Some p.value) && are_all (map (kept m) (keys_of ps)) ps) ≡ true =
    both (same_value (find p.key m) (Some p.value)) (are_all (map (kept m) (keys_of ps)) ps) (found_same p m found.0) (kept_each ps m found.1) in
    rw (same_itself p.key) rest

keys_short : (m : List Pair) → AllHeld m → AllShort (keys_of m)
keys_short [] held = tt
keys_short (p ∷ ps) held = (held.0, keys_short ps held.2)

-- ---- the record that a bound names

pick_held : (b : Bool) (p q : Pair) (rest : Option Pair) → length p.key ≤ 65535 → (rest ≡ Some q → length q.key ≤ 65535) → (if b then Some p else rest) ≡ Some q → length q.key ≤ 65535
pick_held true p q rest key deeper e = let same : p ≡ q = cc in subst (λ (r : Pair). length r.key ≤ 65535) same key
pick_held false p q rest key deeper e = deeper e

first_held : (o : Order) (b : Bound) (m : List Pair) (q : Pair) → AllHeld m → first_within o b m ≡ Some q → length q.key ≤ 65535
first_held o b [] q held e = absurd (cc)
first_held o b (p ∷ ps) q held e = pick_held (reaches o Up b p.key) p q (first_within o b ps) held.0 (first_held o b ps q held.2) e

or_held : (r : Option Pair) (b : Bool) (p q : Pair) → length p.key ≤ 65535 → (r ≡ Some q → length q.key ≤ 65535) → or_else r (if b then Some p else None) ≡ Some q → length q.key ≤ 65535
or_held None b p q key deeper e = pick_held b p q None key (λ none. absurd (cc)) e
or_held (Some r) b p q key deeper e = deeper e

last_held : (o : Order) (b : Bound) (m : List Pair) (q : Pair) → AllHeld m → last_within o b m ≡ Some q → length q.key ≤ 65535
last_held o b [] q held e = absurd (cc)
last_held o b (p ∷ ps) q held e = or_held (last_within o b ps) (reaches o Down b p.key) p q held.0 (last_held o b ps q held.2) e

named_held : (o : Order) (way : Way) (b : Bound) (m : List Pair) (q : Pair) → AllHeld m → named o way b m ≡ Some q → length q.key ≤ 65535
named_held o Up b m q held e = first_held o b m q held e
named_held o Down b m q held e = last_held o b m q held e

-- ---- one key

dropped : (o : Order) (k : List ℕ) (m : List Pair) (was : Option (List ℕ)) → find k (without k m) ≡ None → net_change k was (find k (without k m)) ≡ action_changes k was Drop
dropped o k m None e = rw e refl
dropped o k m (Some v) e = rw e refl

one_changes : (o : Order) (k : List ℕ) (a : Action) (m : List Pair) → Rising o m
    → changes_of o m (entries.Proc (record { key = k; was = find k m; action = a } ∷ [])) ≡ action_changes k (find k m) a
one_changes o k Keep m rising = refl
one_changes o k (Put v) m rising =
    append-nil (net_change k (find k m) (find k (put o (record { key = k; value = v }) m)))
    ∙ ap (net_change k (find k m)) (find_put_same o (record { key = k; value = v }) m)
one_changes o k Drop m rising =
    append-nil (net_change k (find k m) (find k (without k m)))
    ∙ dropped o k m (find k m) (find_without_same o k m rising)

short_changes : (o : Order) (k : List ℕ) (a : Action) (b : Bool) (m : List Pair) → Rising o m
    → changes_of o m (entries.Proc (touches_by (if b then Some (stored a) else None) (k ∷ []) m (record { key = k; was = find k m; action = a } ∷ [])))
    ≡ action_changes k (find k m) (if b then Keep else a)
short_changes o k a true m rising = refl
short_changes o k a false m rising = one_changes o k a m rising

module _ {S : Type 0} (acts : S → List ℕ → Option (List ℕ) → Action) (turns : S → List ℕ → Option (List ℕ) → S) where
  run_were : (o : Order) (w : Bool) (s : S) (ks : List (List ℕ)) (m : List Pair) → all_were o (run_touches acts turns o w s ks m) m ≡ true
  run_were o w s [] m = refl
  run_were o w s (k ∷ ks) m =
      both (same_value (find k m) (find k m))
      (all_were o (run_touches acts turns o w (turns s k (find k m)) ks (touched o k (counted w (acts s k (find k m))) m)) (touched o k (counted w (acts s k (find k m))) m))
      (same_found (find k m)) (run_were o w (turns s k (find k m)) ks (touched o k (counted w (acts s k (find k m))) m))

  run_fit : (o : Order) (w : Bool) (s : S) (ks : List (List ℕ)) (m : List Pair) → AllShort ks → first_long (run_touches acts turns o w s ks m) ≡ None
      → list_all fits (run_touches acts turns o w s ks m) ≡ true
  run_fit o w s [] m short none = refl
  run_fit o w s (k ∷ ks) m short none =
      let a : Action = counted w (acts s k (find k m)) in
      let rest : List Touch = run_touches acts turns o w (turns s k (find k m)) ks (touched o k a m) in
      both (fits (record { key = k; was = find k m; action = a })) (list_all fits rest)
      (short_fits k (find k m) a short.0 (not_long a (none_first (is_long a) (stored a) (first_long rest) none)))
      (run_fit o w (turns s k (find k m)) ks (touched o k a m) short.1 (none_rest (is_long a) (stored a) (first_long rest) none))

  counts_were : (o : Order) (ks : List (List ℕ)) (m : List Pair) (ts : List Touch) (long : Option ℕ) → all_were o ts m ≡ true → all_were o (touches_by long ks m ts) m ≡ true
  counts_were o ks m ts None e = e
  counts_were o ks m ts (Some n) e = kept_were o ks m

  counts_fit : (ks : List (List ℕ)) (m : List Pair) (ts : List Touch) (long : Option ℕ) → AllShort ks → (long ≡ None → list_all fits ts ≡ true) → list_all fits (touches_by long ks m ts) ≡ true
  counts_fit ks m ts None short fit = fit refl
  counts_fit ks m ts (Some n) short fit = kept_fit ks m short

  pub keys_legal : (o : Order) (w : Bool) (s : S) (ks : List (List ℕ)) (m : List Pair) → AllShort ks → is_legal o m (keys_entry acts turns o w s ks m) ≡ true
  keys_legal o w s ks m short =
      let ts : List Touch = run_touches acts turns o w s ks m in
      both (all_were o (touches_by (first_long ts) ks m ts) m) (list_all fits (touches_by (first_long ts) ks m ts))
      (counts_were o ks m ts (first_long ts) (run_were o w s ks m)) (counts_fit ks m ts (first_long ts) short (run_fit o w s ks m short))

  run_each : (o : Order) (w : Bool) (s : S) (ps m : List Pair) → Rising o ps → AllFound m ps → are_all (run_touches acts turns o w s (keys_of ps) m) ps ≡ true
  run_each o w s [] m rising found = refl
  run_each o w s (p ∷ ps) m rising found =
      let a : Action = counted w (acts s p.key (find p.key m)) in
      let next : List Pair = touched o p.key a m in
      let deeper : are_all (run_touches acts turns o w (turns s p.key (find p.key m)) (keys_of ps) next) ps ≡ true =
      run_each o w (turns s p.key (find p.key m)) ps next rising.1
      (found_past o p.key m next ps (λ j other. touched_other o j p.key a m other) rising.0 found.1) in
      let rest : (same_value (find p.key m) (Some p.value) && are_all (run_touches acts turns o w (turns s p.key (find p.key m)) (keys_of ps) next) ps) ≡ true =
      both (same_value (find p.key m) (Some p.value)) (are_all (run_touches acts turns o w (turns s p.key (find p.key m)) (keys_of ps) next) ps) (found_same p m found.0) deeper in
      rw (same_itself p.key) rest

  counts_each : (m : List Pair) (ts : List Touch) (long : Option ℕ) → AllFound m m → are_all ts m ≡ true → are_all (touches_by long (keys_of m) m ts) m ≡ true
  counts_each m ts None found e = e
  counts_each m ts (Some n) found e = kept_each m m found

  pub each_legal : (o : Order) (w : Bool) (s : S) (m : List Pair) → Rising o m → AllHeld m → is_legal o m (each_entry acts turns o w s m) ≡ true
  each_legal o w s m rising held =
      let ts : List Touch = run_touches acts turns o w (turns s [] None) (keys_of m) m in
      both (are_all (touches_by (first_long ts) (keys_of m) m ts) m) (list_all fits (touches_by (first_long ts) (keys_of m) m ts))
      (counts_each m ts (first_long ts) (all_found o m rising) (run_each o w (turns s [] None) m m rising (all_found o m rising)))
      (counts_fit (keys_of m) m ts (first_long ts) (keys_short m held) (run_fit o w (turns s [] None) (keys_of m) m (keys_short m held)))

  found_legal : (o : Order) (w : Bool) (s : S) (way : Way) (b : Bound) (m : List Pair) (r : Option Pair) → r ≡ named o way b m → AllHeld m
      → is_legal o m (found_entry acts turns w s way b r) ≡ true
  found_legal o w s way b m None e held = rw (← e) refl
  found_legal o w s way b m (Some p) e held =
      let a : Action = unless_long (counted w (acts s p.key (Some p.value))) in
      let same : same_record (Some p) (named o way b m) ≡ true =
      subst (λ r. same_record (Some p) r ≡ true) e (both (same_bytes p.key p.key) (same_bytes p.value p.value) (same_itself p.key) (same_itself p.value)) in
      let fit : fits (record { key = p.key; was = Some p.value; action = a }) ≡ true =
      short_fits p.key (Some p.value) a (named_held o way b m p held (sym e)) (short_stores (counted w (acts s p.key (Some p.value)))) in
      rw (same, fit) refl

  pub next_legal : (o : Order) (w : Bool) (s : S) (way : Way) (b : Bound) (m : List Pair) → AllHeld m → is_legal o m (next_entry acts turns o w s way b m) ≡ true
  next_legal o w s way b m held = found_legal o w s way b m (named o way b m) refl held

  pub one_key_changes : (o : Order) (w : Bool) (s : S) (k : List ℕ) (m : List Pair) → Rising o m
      → changes_of o m (keys_entry acts turns o w s (k ∷ []) m) ≡ action_changes k (find k m) (unless_long (counted w (acts s k (find k m))))
  one_key_changes o w s k m rising = short_changes o k (counted w (acts s k (find k m))) (is_long (counted w (acts s k (find k m)))) m rising
