-- What changes keep of records in order, and what is found afterwards.
use Rattle.std.proofs.Common.{◌≡◌, ℕ, Bool, true, false, ◌⊎◌, inl, inr, List, [], ◌∷◌, Some, None, refl, sym, ap, subst, ◌∙◌, if◌then◌else◌}
use Rattle.std.specs.Ordering.{is_eq, ordering_reverse}
use Rattle.std.specs.declared.cmp.Ordering.{Ordering}
use Rattle.std.specs.declared.cmp.Ordering.TheVariants.{Less, Equal, Greater}
use Rattle.tk_model.specs.Orders.{same_bytes, key_cmp}
use Rattle.tk_model.specs.Records.{find, put, put_by, without, after_one, after, replay, AllBehind, Rising}
use Rattle.tk_model.specs.Entries.{touched, all_touched, touches, after_entry, replay_entries}
use Rattle.tk_model.proofs.KeyOrders.{keys_total, keys_apart, keys_equal, same_told, same_itself}
use Rattle.tk_model.specs.declared.record.Order.{Order}
use Rattle.tk_model.specs.declared.record.Pair.{Pair}
use Rattle.tk_model.specs.declared.record.Group.{Group}
use Rattle.tk_model.specs.declared.record.Change.{Change}
use Rattle.tk_model.specs.declared.record.Change.TheVariants as changes
use Rattle.tk_model.specs.declared.record.Action.{Action}
use Rattle.tk_model.specs.declared.record.Action.TheVariants as actions
use Rattle.tk_model.specs.declared.record.Touch.{Touch}
use Rattle.tk_model.specs.declared.record.Entry.{Entry}
use Rattle.tk_model.specs.declared.record.Entry.TheVariants as entries

-- ---- tests of keys

pub so_or_not : (b : Bool) → (b ≡ true) ⊎ (b ≡ false)
so_or_not true = inl refl
so_or_not false = inr refl

false_unless : (b : Bool) → (b ≡ true → ⊥) → b ≡ false
false_unless true f = absurd (f refl)
false_unless false f = refl

-- keys that compare as unequal have different bytes
pub apart_from_cmp : (o : Order) (a b : List ℕ) → is_eq (key_cmp o a b) ≡ false → same_bytes a b ≡ false
apart_from_cmp o a b ne = false_unless (same_bytes a b) (λ same.
    let e : key_cmp o a a ≡ key_cmp o a b = ap (key_cmp o a) (same_told a b same) in
    let f : is_eq (key_cmp o a b) ≡ true = ap is_eq (sym e ∙ keys_equal o a) in cc)

pub apart_less : (o : Order) (a b : List ℕ) → key_cmp o a b ≡ Less → same_bytes a b ≡ false
apart_less o a b e = apart_from_cmp o a b (ap is_eq e)

pub apart_greater : (o : Order) (a b : List ℕ) → key_cmp o a b ≡ Greater → same_bytes a b ≡ false
apart_greater o a b e = apart_from_cmp o a b (ap is_eq e)

pub flipped : (o : Order) (a b : List ℕ) (c : Ordering) → key_cmp o a b ≡ c → key_cmp o b a ≡ ordering_reverse c
flipped o a b c e = (keys_total o).antisymm b a ∙ ap ordering_reverse e

pub same_flipped : (a b : List ℕ) → same_bytes a b ≡ false → same_bytes b a ≡ false
same_flipped a b e = false_unless (same_bytes b a) (λ same.
    let f : same_bytes a b ≡ true = subst (λ c. same_bytes a c ≡ true) (sym (same_told b a same)) (same_itself a) in cc)

-- ---- records in rising order

pub behind_earlier : (o : Order) (j k : List ℕ) (m : List Pair) → key_cmp o j k ≡ Less → AllBehind o k m → AllBehind o j m
behind_earlier o j k [] e all = tt
behind_earlier o j k (p ∷ ps) e all = ((keys_total o).trans j k p.key e all.0, behind_earlier o j k ps e all.1)

put_by_behind : (o : Order) (k : List ℕ) (c : Ordering) (new p : Pair) (ps deeper : List Pair) → key_cmp o k new.key ≡ Less → AllBehind o k (p ∷ ps) → AllBehind o k deeper
    → AllBehind o k (put_by c new p ps deeper)
put_by_behind o k Less new p ps deeper first all more = (first, all)
put_by_behind o k Equal new p ps deeper first all more = (first, all.1)
put_by_behind o k Greater new p ps deeper first all more = (all.0, more)

put_behind : (o : Order) (k : List ℕ) (new : Pair) (m : List Pair) → key_cmp o k new.key ≡ Less → AllBehind o k m → AllBehind o k (put o new m)
put_behind o k new [] first all = (first, tt)
put_behind o k new (p ∷ ps) first all =
    put_by_behind o k (key_cmp o new.key p.key) new p ps (put o new ps) first all (put_behind o k new ps first all.1)

put_by_rising : (o : Order) (c : Ordering) (new p : Pair) (ps : List Pair) → key_cmp o new.key p.key ≡ c → Rising o (p ∷ ps) → Rising o (put o new ps)
    → Rising o (put_by c new p ps (put o new ps))
put_by_rising o Less new p ps e rising deeper = ((e, behind_earlier o new.key p.key ps e rising.0), rising)
put_by_rising o Equal new p ps e rising deeper = (subst (λ k. AllBehind o k ps) (sym (keys_apart o new.key p.key e)) rising.0, rising.1)
put_by_rising o Greater new p ps e rising deeper = (put_behind o p.key new ps (flipped o new.key p.key Greater e) rising.0, deeper)

pub put_rising : (o : Order) (new : Pair) (m : List Pair) → Rising o m → Rising o (put o new m)
put_rising o new [] rising = (tt, tt)
put_rising o new (p ∷ ps) rising = put_by_rising o (key_cmp o new.key p.key) new p ps refl rising (put_rising o new ps rising.1)

pick_behind : (o : Order) (j : List ℕ) (b : Bool) (p : Pair) (ps deeper : List Pair) → AllBehind o j (p ∷ ps) → AllBehind o j deeper → AllBehind o j (if b then ps else p ∷ deeper)
pick_behind o j true p ps deeper all more = all.1
pick_behind o j false p ps deeper all more = (all.0, more)

without_behind : (o : Order) (j k : List ℕ) (m : List Pair) → AllBehind o j m → AllBehind o j (without k m)
without_behind o j k [] all = tt
without_behind o j k (p ∷ ps) all = pick_behind o j (same_bytes k p.key) p ps (without k ps) all (without_behind o j k ps all.1)

pick_rising : (o : Order) (b : Bool) (p : Pair) (ps deeper : List Pair) → Rising o (p ∷ ps) → AllBehind o p.key deeper → Rising o deeper → Rising o (if b then ps else p ∷ deeper)
pick_rising o true p ps deeper rising behind more = rising.1
pick_rising o false p ps deeper rising behind more = (behind, more)

pub without_rising : (o : Order) (k : List ℕ) (m : List Pair) → Rising o m → Rising o (without k m)
without_rising o k [] rising = tt
without_rising o k (p ∷ ps) rising =
    pick_rising o (same_bytes k p.key) p ps (without k ps) rising (without_behind o p.key k ps rising.0) (without_rising o k ps rising.1)

pub one_rising : (o : Order) (c : Change) (m : List Pair) → Rising o m → Rising o (after_one o c m)
one_rising o (changes.Put p) m rising = put_rising o p m rising
one_rising o (changes.Drop k) m rising = without_rising o k m rising
one_rising o changes.Clear m rising = tt

pub after_rising : (o : Order) (cs : List Change) (m : List Pair) → Rising o m → Rising o (after o cs m)
after_rising o [] m rising = rising
after_rising o (c ∷ cs) m rising = after_rising o cs (after_one o c m) (one_rising o c m rising)

pub replay_rising : (o : Order) (gs : List Group) (m : List Pair) → Rising o m → Rising o (replay o gs m)
replay_rising o [] m rising = rising
replay_rising o (g ∷ gs) m rising = replay_rising o gs (after o g.changes m) (after_rising o g.changes m rising)

pub touched_rising : (o : Order) (k : List ℕ) (a : Action) (m : List Pair) → Rising o m → Rising o (touched o k a m)
touched_rising o k actions.Keep m rising = rising
touched_rising o k (actions.Put v) m rising = put_rising o (record { key = k; value = v }) m rising
touched_rising o k actions.Drop m rising = without_rising o k m rising

pub all_touched_rising : (o : Order) (ts : List Touch) (m : List Pair) → Rising o m → Rising o (all_touched o ts m)
all_touched_rising o [] m rising = rising
all_touched_rising o (t ∷ ts) m rising = all_touched_rising o ts (touched o t.key t.action m) (touched_rising o t.key t.action m rising)

pub entry_rising : (o : Order) (e : Entry) (m : List Pair) → Rising o m → Rising o (after_entry o e m)
entry_rising o (entries.Proc ts) m rising = all_touched_rising o ts m rising
entry_rising o (entries.Next w b found a) m rising = all_touched_rising o (touches (entries.Next w b found a)) m rising
entry_rising o (entries.Each ts) m rising = all_touched_rising o ts m rising
entry_rising o (entries.Count n) m rising = rising
entry_rising o entries.Clear m rising = tt
entry_rising o (entries.Sync hard) m rising = rising

pub entries_rising : (o : Order) (es : List Entry) (m : List Pair) → Rising o m → Rising o (replay_entries o es m)
entries_rising o [] m rising = rising
entries_rising o (e ∷ es) m rising = entries_rising o es (after_entry o e m) (entry_rising o e m rising)

-- ---- what is found

pub found_head : (k : List ℕ) (p : Pair) (ps : List Pair) → same_bytes k p.key ≡ true → find k (p ∷ ps) ≡ Some p.value
found_head k p ps e = rw e refl

pub found_deeper : (k : List ℕ) (p : Pair) (ps : List Pair) → same_bytes k p.key ≡ false → find k (p ∷ ps) ≡ find k ps
found_deeper k p ps e = rw e refl

pub none_behind : (o : Order) (k : List ℕ) (m : List Pair) → AllBehind o k m → find k m ≡ None
none_behind o k [] all = refl
none_behind o k (p ∷ ps) all = found_deeper k p ps (apart_less o k p.key all.0) ∙ none_behind o k ps all.1

put_by_same : (o : Order) (c : Ordering) (new p : Pair) (ps deeper : List Pair) → key_cmp o new.key p.key ≡ c → find new.key deeper ≡ Some new.value
    → find new.key (put_by c new p ps deeper) ≡ Some new.value
put_by_same o Less new p ps deeper e more = found_head new.key new (p ∷ ps) (same_itself new.key)
put_by_same o Equal new p ps deeper e more = found_head new.key new ps (same_itself new.key)
put_by_same o Greater new p ps deeper e more = found_deeper new.key p deeper (apart_greater o new.key p.key e) ∙ more

pub find_put_same : (o : Order) (new : Pair) (m : List Pair) → find new.key (put o new m) ≡ Some new.value
find_put_same o new [] = found_head new.key new [] (same_itself new.key)
find_put_same o new (p ∷ ps) = put_by_same o (key_cmp o new.key p.key) new p ps (put o new ps) refl (find_put_same o new ps)

put_by_other : (o : Order) (c : Ordering) (k : List ℕ) (new p : Pair) (ps deeper : List Pair) → same_bytes k new.key ≡ false → key_cmp o new.key p.key ≡ c
    → find k deeper ≡ find k ps → find k (put_by c new p ps deeper) ≡ find k (p ∷ ps)
put_by_other o Less k new p ps deeper other e more = found_deeper k new (p ∷ ps) other
put_by_other o Equal k new p ps deeper other e more =
    found_deeper k new ps other ∙ sym (found_deeper k p ps (subst (λ j. same_bytes k j ≡ false) (keys_apart o new.key p.key e) other))
put_by_other o Greater k new p ps deeper other e more = ap (λ v. if same_bytes k p.key then Some p.value else v) more

pub find_put_other : (o : Order) (k : List ℕ) (new : Pair) (m : List Pair) → same_bytes k new.key ≡ false → find k (put o new m) ≡ find k m
find_put_other o k new [] other = found_deeper k new [] other
find_put_other o k new (p ∷ ps) other = put_by_other o (key_cmp o new.key p.key) k new p ps (put o new ps) other refl (find_put_other o k new ps other)

pick_other : (b : Bool) (j k : List ℕ) (p : Pair) (ps deeper : List Pair) → same_bytes j k ≡ false → same_bytes k p.key ≡ b → find j deeper ≡ find j ps
    → find j (if b then ps else p ∷ deeper) ≡ find j (p ∷ ps)
pick_other true j k p ps deeper other e more = sym (found_deeper j p ps (subst (λ q. same_bytes j q ≡ false) (same_told k p.key e) other))
pick_other false j k p ps deeper other e more = ap (λ v. if same_bytes j p.key then Some p.value else v) more

pub find_without_other : (j k : List ℕ) (m : List Pair) → same_bytes j k ≡ false → find j (without k m) ≡ find j m
find_without_other j k [] other = refl
find_without_other j k (p ∷ ps) other = pick_other (same_bytes k p.key) j k p ps (without k ps) other refl (find_without_other j k ps other)

pick_same : (o : Order) (b : Bool) (k : List ℕ) (p : Pair) (ps deeper : List Pair) → same_bytes k p.key ≡ b → AllBehind o p.key ps → find k deeper ≡ None
    → find k (if b then ps else p ∷ deeper) ≡ None
pick_same o true k p ps deeper e behind more = none_behind o k ps (subst (λ j. AllBehind o j ps) (sym (same_told k p.key e)) behind)
pick_same o false k p ps deeper e behind more = found_deeper k p deeper e ∙ more

pub find_without_same : (o : Order) (k : List ℕ) (m : List Pair) → Rising o m → find k (without k m) ≡ None
find_without_same o k [] rising = refl
find_without_same o k (p ∷ ps) rising = pick_same o (same_bytes k p.key) k p ps (without k ps) refl rising.0 (find_without_same o k ps rising.1)

-- ---- records in order are what is found in them

some_none : (v : List ℕ) → Some v ≡ None → ⊥
some_none v e = cc

same_pair : (p q : Pair) → p.key ≡ q.key → p.value ≡ q.value → p ≡ q
same_pair p q e f = λ i. record { key = e i; value = f i }

tails_agree : (o : Order) (p q : Pair) (ms ns : List Pair) (k : List ℕ) → p.key ≡ q.key → AllBehind o p.key ms → AllBehind o q.key ns
    → find k (p ∷ ms) ≡ find k (q ∷ ns) → (same_bytes k p.key ≡ true) ⊎ (same_bytes k p.key ≡ false) → find k ms ≡ find k ns
tails_agree o p q ms ns k e before_m before_n found (inl same) =
    let at_p : k ≡ p.key = same_told k p.key same in
    none_behind o k ms (subst (λ j. AllBehind o j ms) (sym at_p) before_m) ∙ sym (none_behind o k ns (subst (λ j. AllBehind o j ns) (sym (at_p ∙ e)) before_n))
tails_agree o p q ms ns k e before_m before_n found (inr other) =
    sym (found_deeper k p ms other) ∙ found ∙ found_deeper k q ns (subst (λ j. same_bytes k j ≡ false) e other)

heads_agree : (o : Order) (p q : Pair) (ms ns : List Pair) (c : Ordering) → key_cmp o p.key q.key ≡ c → Rising o (p ∷ ms) → Rising o (q ∷ ns)
    → ((k : List ℕ) → find k (p ∷ ms) ≡ find k (q ∷ ns)) → (((k : List ℕ) → find k ms ≡ find k ns) → ms ≡ ns) → p ∷ ms ≡ q ∷ ns
heads_agree o p q ms ns Less e rising_m rising_n found tails =
    absurd (some_none p.value
    (sym (found_head p.key p ms (same_itself p.key)) ∙ found p.key
    ∙ none_behind o p.key (q ∷ ns) (e, behind_earlier o p.key q.key ns e rising_n.0)))
heads_agree o p q ms ns Equal e rising_m rising_n found tails =
    let key : p.key ≡ q.key = keys_apart o p.key q.key e in
    let value : Some p.value ≡ Some q.value =
    sym (found_head p.key p ms (same_itself p.key)) ∙ found p.key ∙ found_head p.key q ns (subst (λ j. same_bytes p.key j ≡ true) key (same_itself p.key)) in
    let head : p ≡ q = same_pair p q key (cc) in
    let tail : ms ≡ ns = tails (λ k. tails_agree o p q ms ns k key rising_m.0 rising_n.0 (found k) (so_or_not (same_bytes k p.key))) in
    λ i. head i ∷ tail i
heads_agree o p q ms ns Greater e rising_m rising_n found tails =
    let less : key_cmp o q.key p.key ≡ Less = flipped o p.key q.key Greater e in
    absurd (some_none q.value
    (sym (found_head q.key q ns (same_itself q.key)) ∙ sym (found q.key)
    ∙ none_behind o q.key (p ∷ ms) (less, behind_earlier o q.key p.key ms less rising_m.0)))

pub same_records : (o : Order) (m n : List Pair) → Rising o m → Rising o n → ((k : List ℕ) → find k m ≡ find k n) → m ≡ n
same_records o [] [] rising_m rising_n found = refl
same_records o [] (q ∷ ns) rising_m rising_n found = absurd (some_none q.value (sym (found q.key ∙ found_head q.key q ns (same_itself q.key))))
same_records o (p ∷ ms) [] rising_m rising_n found = absurd (some_none p.value (sym (found_head p.key p ms (same_itself p.key)) ∙ found p.key))
same_records o (p ∷ ms) (q ∷ ns) rising_m rising_n found =
    heads_agree o p q ms ns (key_cmp o p.key q.key) refl rising_m rising_n found (same_records o ms ns rising_m.1 rising_n.1)
