-- The net changes of a call lead to the records after it.
use Rattle.std.proofs.Common.{◌≡◌, ℕ, Bool, true, false, not, ◌||◌, ◌⊎◌, inl, inr, List, [], ◌∷◌, ◌++◌, filter, Option, Some, None, refl, sym, ap, subst, ◌∙◌, if◌then◌else◌}
use Rattle.tk_model.specs.Orders.{same_bytes}
use Rattle.tk_model.specs.Records.{find, after_one, after, Rising}
use Rattle.tk_model.specs.Entries.{touched, all_touched, touches, after_entry, is_keep, written_keys, net_change, net_changes, changes_of}
use Rattle.tk_model.proofs.KeyOrders.{same_told}
use Rattle.tk_model.proofs.RecordLaws.{so_or_not, after_rising, all_touched_rising, find_put_same, find_put_other, find_without_same, find_without_other, same_records}
use Rattle.tk_model.specs.declared.record.Order.{Order}
use Rattle.tk_model.specs.declared.record.Pair.{Pair}
use Rattle.tk_model.specs.declared.record.Change.{Change}
use Rattle.tk_model.specs.declared.record.Action.{Action}
use Rattle.tk_model.specs.declared.record.Action.TheVariants as actions
use Rattle.tk_model.specs.declared.record.Touch.{Touch}
use Rattle.tk_model.specs.declared.record.Entry.{Entry}
use Rattle.tk_model.specs.declared.record.Entry.TheVariants as entries

pub after_append : (o : Order) (cs ds : List Change) (m : List Pair) → after o (cs ++ ds) m ≡ after o ds (after o cs m)
after_append o [] ds m = refl
after_append o (c ∷ cs) ds m = after_append o cs ds (after_one o c m)

abbrev pub among : List ℕ → List (List ℕ) → Bool
among k [] = false
among k (j ∷ js) = same_bytes k j || among k js

-- the value at a key is that before or that after
abbrev pub Between : Option (List ℕ) → Option (List ℕ) → Option (List ℕ) → Type 0
Between before after now = (now ≡ before) ⊎ (now ≡ after)

neither : (now : Option (List ℕ)) → Between None None now → now ≡ None
neither now (inl e) = e
neither now (inr e) = e

net_same : (o : Order) (k : List ℕ) (u v : Option (List ℕ)) (m : List Pair) → Rising o m → Between u v (find k m) → find k (after o (net_change k u v) m) ≡ v
net_same o k u (Some w) m rising now = find_put_same o (record { key = k; value = w }) m
net_same o k (Some w) None m rising now = find_without_same o k m rising
net_same o k None None m rising now = neither (find k m) now

net_other : (o : Order) (j k : List ℕ) (u v : Option (List ℕ)) (m : List Pair) → same_bytes j k ≡ false → find j (after o (net_change k u v) m) ≡ find j m
net_other o j k u (Some w) m other = find_put_other o j (record { key = k; value = w }) m other
net_other o j k (Some w) None m other = find_without_other j k m other
net_other o j k None None m other = refl

pub record NetFound (o : Order) (ks : List (List ℕ)) (before end now : List Pair) (k : List ℕ) : Type 0 where
  pub written : among k ks ≡ true → find k (after o (net_changes ks before end) now) ≡ find k end
  pub kept : among k ks ≡ false → find k (after o (net_changes ks before end) now) ≡ find k now

carried : (before end now next : List Pair) (k : List ℕ) → find k next ≡ find k now → Between (find k before) (find k end) (find k now) → Between (find k before) (find k end) (find k next)
carried before end now next k e (inl f) = inl (e ∙ f)
carried before end now next k e (inr f) = inr (e ∙ f)

first_changed : (o : Order) (j : List ℕ) (before end now : List Pair) (k : List ℕ) → Rising o now → Between (find j before) (find j end) (find j now)
    → same_bytes k j ≡ true → find k (after o (net_change j (find j before) (find j end)) now) ≡ find k end
first_changed o j before end now k rising at_j same =
    subst (λ i. find i (after o (net_change j (find j before) (find j end)) now) ≡ find i end) (sym (same_told k j same))
    (net_same o j (find j before) (find j end) now rising at_j)

next_between : (o : Order) (j : List ℕ) (before end now : List Pair) (k : List ℕ) → Rising o now → Between (find j before) (find j end) (find j now)
    → Between (find k before) (find k end) (find k now) → (same_bytes k j ≡ true) ⊎ (same_bytes k j ≡ false)
    → Between (find k before) (find k end) (find k (after o (net_change j (find j before) (find j end)) now))
next_between o j before end now k rising at_j at_k (inl same) = inr (first_changed o j before end now k rising at_j same)
next_between o j before end now k rising at_j at_k (inr other) =
    carried before end now (after o (net_change j (find j before) (find j end)) now) k (net_other o k j (find j before) (find j end) now other) at_k

net_step : (o : Order) (j : List ℕ) (js : List (List ℕ)) (before end now : List Pair) (k : List ℕ) → Rising o now → Between (find j before) (find j end) (find j now)
    → (same_bytes k j ≡ true) ⊎ (same_bytes k j ≡ false) → NetFound o js before end (after o (net_change j (find j before) (find j end)) now) k
    → NetFound o (j ∷ js) before end now k
net_step o j js before end now k rising at_j (inl same) deeper =
    let goes : after o (net_changes (j ∷ js) before end) now ≡ after o (net_changes js before end) (after o (net_change j (find j before) (find j end)) now) =
    after_append o (net_change j (find j before) (find j end)) (net_changes js before end) now in
    let here = first_changed o j before end now k rising at_j same in
    record {
      written = λ _. ap (find k) goes ∙ elim (so_or_not (among k js)) [ inl e ↦ deeper.written e | inr e ↦ deeper.kept e ∙ here ];
      kept = λ e. absurd (let f : same_bytes k j || among k js ≡ true = rw same refl in cc);
    }
net_step o j js before end now k rising at_j (inr other) deeper =
    let goes : after o (net_changes (j ∷ js) before end) now ≡ after o (net_changes js before end) (after o (net_change j (find j before) (find j end)) now) =
    after_append o (net_change j (find j before) (find j end)) (net_changes js before end) now in
    let rest : same_bytes k j || among k js ≡ among k js = rw other refl in
    record {
      written = λ e. ap (find k) goes ∙ deeper.written (sym rest ∙ e);
      kept = λ e. ap (find k) goes ∙ deeper.kept (sym rest ∙ e) ∙ net_other o k j (find j before) (find j end) now other;
    }

net_found : (o : Order) (ks : List (List ℕ)) (before end now : List Pair) → Rising o now → ((k : List ℕ) → Between (find k before) (find k end) (find k now))
    → (k : List ℕ) → NetFound o ks before end now k
net_found o [] before end now rising between k = record { written = λ e. absurd (cc); kept = λ _. refl }
net_found o (j ∷ js) before end now rising between k =
    net_step o j js before end now k rising (between j) (so_or_not (same_bytes k j))
    (net_found o js before end (after o (net_change j (find j before) (find j end)) now)
    (after_rising o (net_change j (find j before) (find j end)) now rising)
    (λ i. next_between o j before end now i rising (between j) (between i) (so_or_not (same_bytes i j))) k)

-- ---- a key that no touch writes

pick_among : (b : Bool) (k j i : List ℕ) (rest more : List (List ℕ)) → same_bytes k j ≡ false → same_bytes j i ≡ b → among k rest ≡ among k more
    → among k (if not b then i ∷ rest else rest) ≡ among k (i ∷ more)
pick_among true k j i rest more other same e =
    let apart : same_bytes k i ≡ false = subst (λ l. same_bytes k l ≡ false) (same_told j i same) other in
    e ∙ sym (ap (λ b. b || among k more) apart)
pick_among false k j i rest more other apart e = ap (λ b. same_bytes k i || b) e

among_filtered : (k j : List ℕ) (js : List (List ℕ)) → same_bytes k j ≡ false → among k (filter (λ i. not (same_bytes j i)) js) ≡ among k js
among_filtered k j [] other = refl
among_filtered k j (i ∷ js) other =
    pick_among (same_bytes j i) k j i (filter (λ l. not (same_bytes j l)) js) js other refl (among_filtered k j js other)

pub touched_other : (o : Order) (j k : List ℕ) (a : Action) (m : List Pair) → same_bytes j k ≡ false → find j (touched o k a m) ≡ find j m
touched_other o j k actions.Keep m other = refl
touched_other o j k (actions.Put v) m other = find_put_other o j (record { key = k; value = v }) m other
touched_other o j k actions.Drop m other = find_without_other j k m other

first_no : (a b : Bool) → (a || b) ≡ false → a ≡ false
first_no true b e = e
first_no false b e = refl

second_no : (a b : Bool) → (a || b) ≡ false → b ≡ false
second_no true b e = absurd (cc)
second_no false b e = e

pub kept_all : (o : Order) (k : List ℕ) (a : Action) (m : List Pair) → is_keep a ≡ true → touched o k a m ≡ m
kept_all o k actions.Keep m e = refl
kept_all o k (actions.Put v) m e = absurd (cc)
kept_all o k actions.Drop m e = absurd (cc)

unwritten_step : (o : Order) (k : List ℕ) (t : Touch) (ts : List Touch) (m : List Pair) → (is_keep t.action ≡ true) ⊎ (is_keep t.action ≡ false)
    → ((next : List Pair) → among k (written_keys ts) ≡ false → find k (all_touched o ts next) ≡ find k next)
    → among k (written_keys (t ∷ ts)) ≡ false → find k (all_touched o (t ∷ ts) m) ≡ find k m
unwritten_step o k t ts m (inl keeps) deeper e =
    let keys : written_keys (t ∷ ts) ≡ written_keys ts = rw keeps refl in
    deeper (touched o t.key t.action m) (sym (ap (among k) keys) ∙ e) ∙ ap (find k) (kept_all o t.key t.action m keeps)
unwritten_step o k t ts m (inr writes) deeper e =
    let keys : written_keys (t ∷ ts) ≡ t.key ∷ filter (λ i. not (same_bytes t.key i)) (written_keys ts) = rw writes refl in
    let none : same_bytes k t.key || among k (filter (λ i. not (same_bytes t.key i)) (written_keys ts)) ≡ false = sym (ap (among k) keys) ∙ e in
    let other : same_bytes k t.key ≡ false = first_no (same_bytes k t.key) (among k (filter (λ i. not (same_bytes t.key i)) (written_keys ts))) none in
    let rest : among k (written_keys ts) ≡ false =
    sym (among_filtered k t.key (written_keys ts) other) ∙ second_no (same_bytes k t.key) (among k (filter (λ i. not (same_bytes t.key i)) (written_keys ts))) none in
    deeper (touched o t.key t.action m) rest ∙ touched_other o k t.key t.action m other

pub unwritten : (o : Order) (k : List ℕ) (ts : List Touch) (m : List Pair) → among k (written_keys ts) ≡ false → find k (all_touched o ts m) ≡ find k m
unwritten o k [] m e = refl
unwritten o k (t ∷ ts) m e = unwritten_step o k t ts m (so_or_not (is_keep t.action)) (unwritten o k ts) e

-- ---- the law

net_reaches : (o : Order) (ts : List Touch) (m : List Pair) → Rising o m → after o (net_changes (written_keys ts) m (all_touched o ts m)) m ≡ all_touched o ts m
net_reaches o ts m rising =
    same_records o (after o (net_changes (written_keys ts) m (all_touched o ts m)) m) (all_touched o ts m)
    (after_rising o (net_changes (written_keys ts) m (all_touched o ts m)) m rising) (all_touched_rising o ts m rising)
    (λ k.
    let at_k = net_found o (written_keys ts) m (all_touched o ts m) m rising (λ j. inl refl) k in
    elim (so_or_not (among k (written_keys ts))) [ inl e ↦ at_k.written e | inr e ↦ at_k.kept e ∙ sym (unwritten o k ts m e) ])

pub changes_reach : (o : Order) (e : Entry) (m : List Pair) → Rising o m → after o (changes_of o m e) m ≡ after_entry o e m
changes_reach o (entries.Proc ts) m rising = net_reaches o ts m rising
changes_reach o (entries.Next w b found a) m rising = net_reaches o (touches (entries.Next w b found a)) m rising
changes_reach o (entries.Each ts) m rising = net_reaches o ts m rising
changes_reach o (entries.Count n) m rising = refl
changes_reach o entries.Clear m rising = refl
changes_reach o (entries.Sync hard) m rising = refl
