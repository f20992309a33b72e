-- Keys and values stay within what a file can hold.
use Rattle.std.proofs.Common.{◌≡◌, ℕ, ◌≤◌, Bool, true, false, ◌&&◌, List, [], ◌∷◌, ◌++◌, length, Option, Some, None, refl, arith, if◌then◌else◌}
use Rattle.std.proofs.lemmas.Bool.Decides.{nat_tests}
use Rattle.std.specs.Prelude.{nat_le, filter, not}
use Rattle.std.specs.List.{list_all}
use Rattle.std.specs.declared.cmp.Ordering.{Ordering}
use Rattle.std.specs.declared.cmp.Ordering.TheVariants.{Less, Equal, Greater}
use Rattle.tk_model.specs.Orders.{same_bytes, key_cmp}
use Rattle.tk_model.specs.Records.{find, put, put_by, without, after, AllFit, AllHeld, HasNoClear, IsClearAlone}
use Rattle.tk_model.specs.Entries.{touched, all_touched, touches, tells, fits, stored, is_legal, after_entry, is_keep, written_keys, net_change, net_changes, changes_of}
use Rattle.tk_model.specs.declared.record.Order.{Order}
use Rattle.tk_model.specs.declared.record.Pair.{Pair}
use Rattle.tk_model.specs.declared.record.Change.{Change}
use Rattle.tk_model.specs.declared.record.Change.TheVariants as changes
use Rattle.tk_model.specs.declared.record.Action.{Action}
use Rattle.tk_model.specs.declared.record.Action.TheVariants as actions
use Rattle.tk_model.specs.declared.record.Touch.{Touch}
use Rattle.tk_model.specs.declared.record.Entry.{Entry}
use Rattle.tk_model.specs.declared.record.Entry.TheVariants as entries

pick_fits : (b : Bool) (k : List ℕ) (p : Pair) (ps : List Pair) (v : List ℕ) → AllHeld (p ∷ ps) → ((u : List ℕ) → find k ps ≡ Some u → length u ≤ 33554431)
    → (if b then Some p.value else find k ps) ≡ Some v → length v ≤ 33554431
pick_fits true k p ps v fit deeper e = let s : p.value ≡ v = cc in let le : length p.value ≤ 33554431 = fit.1 in rw (← s) le
pick_fits false k p ps v fit deeper e = deeper v e

-- a value that is found is no longer than a file can hold
pub found_held : (k : List ℕ) (m : List Pair) (v : List ℕ) → AllHeld m → find k m ≡ Some v → length v ≤ 33554431
found_held k [] v fit e = absurd (cc)
found_held k (p ∷ ps) v fit e = pick_fits (same_bytes k p.key) k p ps v fit (λ u h. found_held k ps u fit.2 h) e

put_by_held : (c : Ordering) (new p : Pair) (ps deeper : List Pair) → length new.key ≤ 65535 → length new.value ≤ 33554431 → AllHeld (p ∷ ps) → AllHeld deeper
    → AllHeld (put_by c new p ps deeper)
put_by_held Less new p ps deeper k v fit d = (k, v, fit)
put_by_held Equal new p ps deeper k v fit d = (k, v, fit.2)
put_by_held Greater new p ps deeper k v fit d = (fit.0, fit.1, d)

pub put_held : (o : Order) (new : Pair) (m : List Pair) → length new.key ≤ 65535 → length new.value ≤ 33554431 → AllHeld m → AllHeld (put o new m)
put_held o new [] k v fit = (k, v, tt)
put_held o new (p ∷ ps) k v fit = put_by_held (key_cmp o new.key p.key) new p ps (put o new ps) k v fit (put_held o new ps k v fit.2)

pick_held : (b : Bool) (p : Pair) (ps deeper : List Pair) → AllHeld (p ∷ ps) → AllHeld deeper → AllHeld (if b then ps else p ∷ deeper)
pick_held true p ps deeper fit d = fit.2
pick_held false p ps deeper fit d = (fit.0, fit.1, d)

pub without_held : (k : List ℕ) (m : List Pair) → AllHeld m → AllHeld (without k m)
without_held k [] fit = tt
without_held k (p ∷ ps) fit = pick_held (same_bytes k p.key) p ps (without k ps) fit (without_held k ps fit.2)

pub after_held : (o : Order) (cs : List Change) (m : List Pair) → AllFit cs → AllHeld m → AllHeld (after o cs m)
after_held o [] m f fit = fit
after_held o (changes.Put p ∷ cs) m f fit = after_held o cs (put o p m) f.2 (put_held o p m f.0 f.1 fit)
after_held o (changes.Drop k ∷ cs) m f fit = after_held o cs (without k m) f.1 (without_held k m fit)
after_held o (changes.Clear ∷ cs) m f fit = after_held o cs [] f tt

-- ---- calls

first_yes : (a b : Bool) → (a && b) ≡ true → a ≡ true
first_yes true b e = refl
first_yes false b e = e

second_yes : (a b : Bool) → (a && b) ≡ true → b ≡ true
second_yes true b e = e
second_yes false b e = absurd (cc)

below : (m n : ℕ) → nat_le m n ≡ true → m ≤ n
below m n e = grind (arith, nat_tests)

pub touched_held : (o : Order) (k : List ℕ) (a : Action) (m : List Pair) → length k ≤ 65535 → stored a ≤ 33554431 → AllHeld m → AllHeld (touched o k a m)
touched_held o k actions.Keep m key value fit = fit
touched_held o k (actions.Put v) m key value fit = put_held o (record { key = k; value = v }) m key value fit
touched_held o k actions.Drop m key value fit = without_held k m fit

all_touched_held : (o : Order) (ts : List Touch) (m : List Pair) → list_all fits ts ≡ true → AllHeld m → AllHeld (all_touched o ts m)
all_touched_held o [] m e fit = fit
all_touched_held o (t ∷ ts) m e fit =
    let here : fits t ≡ true = first_yes (fits t) (list_all fits ts) e in
    all_touched_held o ts (touched o t.key t.action m) (second_yes (fits t) (list_all fits ts) e)
    (touched_held o t.key t.action m
    (below (length t.key) 65535 (first_yes (nat_le (length t.key) 65535) (nat_le (stored t.action) 33554431) here))
    (below (stored t.action) 33554431 (second_yes (nat_le (length t.key) 65535) (nat_le (stored t.action) 33554431) here)) fit)

pub entry_held : (o : Order) (e : Entry) (m : List Pair) → is_legal o m e ≡ true → AllHeld m → AllHeld (after_entry o e m)
entry_held o (entries.Proc ts) m l fit = all_touched_held o ts m (second_yes (tells o (entries.Proc ts) m) (list_all fits ts) l) fit
entry_held o (entries.Next w b found a) m l fit =
    all_touched_held o (touches (entries.Next w b found a)) m (second_yes (tells o (entries.Next w b found a) m) (list_all fits (touches (entries.Next w b found a))) l) fit
entry_held o (entries.Each ts) m l fit = all_touched_held o ts m (second_yes (tells o (entries.Each ts) m) (list_all fits ts) l) fit
entry_held o (entries.Count n) m l fit = fit
entry_held o entries.Clear m l fit = tt
entry_held o (entries.Sync hard) m l fit = fit

-- ---- changes

abbrev AllShort : List (List ℕ) → Type 0
AllShort [] = Unit {0}
AllShort (k ∷ ks) = (length k ≤ 65535) × AllShort ks

pick_short : (b : Bool) (k : List ℕ) (ks : List (List ℕ)) → length k ≤ 65535 → AllShort ks → AllShort (if b then k ∷ ks else ks)
pick_short true k ks e more = (e, more)
pick_short false k ks e more = more

filter_short : (test : List ℕ → Bool) (ks : List (List ℕ)) → AllShort ks → AllShort (filter test ks)
filter_short test [] all = tt
filter_short test (k ∷ ks) all = pick_short (test k) k (filter test ks) all.0 (filter_short test ks all.1)

pick_written : (b : Bool) (k : List ℕ) (rest ks : List (List ℕ)) → length k ≤ 65535 → AllShort rest → AllShort ks → AllShort (if b then ks else k ∷ rest)
pick_written true k rest ks e more all = all
pick_written false k rest ks e more all = (e, more)

written_short : (ts : List Touch) → list_all fits ts ≡ true → AllShort (written_keys ts)
written_short [] e = tt
written_short (t ∷ ts) e =
    let here : fits t ≡ true = first_yes (fits t) (list_all fits ts) e in
    let deeper : AllShort (written_keys ts) = written_short ts (second_yes (fits t) (list_all fits ts) e) in
    pick_written (is_keep t.action) t.key (filter (λ i. not (same_bytes t.key i)) (written_keys ts)) (written_keys ts)
    (below (length t.key) 65535 (first_yes (nat_le (length t.key) 65535) (nat_le (stored t.action) 33554431) here))
    (filter_short (λ i. not (same_bytes t.key i)) (written_keys ts) deeper) deeper

net_fits : (k : List ℕ) (u v : Option (List ℕ)) (cs : List Change) → length k ≤ 65535 → ((w : List ℕ) → v ≡ Some w → length w ≤ 33554431) → AllFit cs × HasNoClear cs
    → AllFit (net_change k u v ++ cs) × HasNoClear (net_change k u v ++ cs)
net_fits k u (Some w) cs key value more = ((key, value w refl, more.0), more.1)
net_fits k (Some w) None cs key value more = ((key, more.0), more.1)
net_fits k None None cs key value more = more

all_net_fits : (ks : List (List ℕ)) (before end : List Pair) → AllShort ks → AllHeld end → AllFit (net_changes ks before end) × HasNoClear (net_changes ks before end)
all_net_fits [] before end short held = (tt, tt)
all_net_fits (k ∷ ks) before end short held =
    net_fits k (find k before) (find k end) (net_changes ks before end) short.0 (λ w e. found_held k end w held e) (all_net_fits ks before end short.1 held)

lone : (cs : List Change) → HasNoClear cs → IsClearAlone cs
lone [] none = tt
lone (changes.Clear ∷ []) none = tt
lone (changes.Clear ∷ d ∷ cs) none = none
lone (changes.Put p ∷ cs) none = none
lone (changes.Drop k ∷ cs) none = none

touches_fit : (o : Order) (ts : List Touch) (m : List Pair) → list_all fits ts ≡ true → AllHeld m
    → AllFit (net_changes (written_keys ts) m (all_touched o ts m)) × IsClearAlone (net_changes (written_keys ts) m (all_touched o ts m))
touches_fit o ts m e held =
    let all = all_net_fits (written_keys ts) m (all_touched o ts m) (written_short ts e) (all_touched_held o ts m e held) in
    (all.0, lone (net_changes (written_keys ts) m (all_touched o ts m)) all.1)

pub changes_fit : (o : Order) (e : Entry) (m : List Pair) → is_legal o m e ≡ true → AllHeld m → AllFit (changes_of o m e) × IsClearAlone (changes_of o m e)
changes_fit o (entries.Proc ts) m l fit = touches_fit o ts m (second_yes (tells o (entries.Proc ts) m) (list_all fits ts) l) fit
changes_fit o (entries.Next w b found a) m l fit =
    touches_fit o (touches (entries.Next w b found a)) m (second_yes (tells o (entries.Next w b found a) m) (list_all fits (touches (entries.Next w b found a))) l) fit
changes_fit o (entries.Each ts) m l fit = touches_fit o ts m (second_yes (tells o (entries.Each ts) m) (list_all fits ts) l) fit
changes_fit o (entries.Count n) m l fit = (tt, tt)
changes_fit o entries.Clear m l fit = (tt, tt)
changes_fit o (entries.Sync hard) m l fit = (tt, tt)
