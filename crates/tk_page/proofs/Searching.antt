-- One step of a binary search.
use Rattle.std.proofs.Common.{◌≡◌, ◌↔◌, ℕ, ◌<◌, ◌≤◌, ◌-◌, take, drop, slice_index_or, true, false, List, [], ◌∷◌, ◌++◌, length, Some, refl, sym, ap, subst, ◌∙◌, if◌then◌else◌, length-append, arith}
use Rattle.std.specs.Ordering.{is_le, is_lt, is_gt}
use Rattle.std.specs.declared.cmp.Ordering.{Ordering}
use Rattle.std.specs.declared.cmp.Ordering.TheVariants.{Less, Equal, Greater}
use Rattle.tk_model.specs.Orders.{same_bytes, key_cmp}
use Rattle.tk_model.specs.Records.{find, AllBehind, Rising}
use Rattle.tk_model.specs.declared.record.Order.{Order}
use Rattle.tk_model.specs.declared.record.Pair.{Pair}
use Rattle.tk_model.proofs.KeyOrders.{keys_total, keys_apart, same_itself}
use Rattle.tk_model.proofs.RecordLaws.{apart_less, apart_greater, behind_earlier, none_behind, flipped, found_deeper}
use Rattle.std.proofs.lemmas.List.{map-append, take_all}
use Rattle.tk_model.specs.RecordText.{pair_here}
use Rattle.tk_model.specs.declared.text.RecordHere.{RecordHere}
use Rattle.tk_page.specs.View.{child_seen, children_seen, records_seen}
use Rattle.tk_page.specs.declared.view.ChildHere.{ChildHere}
use Rattle.tk_page.specs.Search.{child_behind, AllPast, ChildrenRise}
use Rattle.tk_page.specs.declared.page.Child.{Child}

-- ---- records

behind_front : (o : Order) (k : List ℕ) (xs ys : List Pair) → AllBehind o k (xs ++ ys) → AllBehind o k xs
behind_front o k [] ys all = tt
behind_front o k (x ∷ xs) ys all = (all.0, behind_front o k xs ys all.1)

behind_at : (o : Order) (k : List ℕ) (xs : List Pair) (p : Pair) (ys : List Pair) → AllBehind o k (xs ++ p ∷ ys) → key_cmp o k p.key ≡ Less
behind_at o k [] p ys all = all.0
behind_at o k (x ∷ xs) p ys all = behind_at o k xs p ys all.1

pub rising_front : (o : Order) (xs ys : List Pair) → Rising o (xs ++ ys) → Rising o xs
rising_front o [] ys rising = tt
rising_front o (x ∷ xs) ys rising = (behind_front o x.key xs ys rising.0, rising_front o xs ys rising.1)

pub rising_behind : (o : Order) (xs : List Pair) (p : Pair) (ys : List Pair) → Rising o (xs ++ p ∷ ys) → Rising o ys
rising_behind o [] p ys rising = rising.1
rising_behind o (x ∷ xs) p ys rising = rising_behind o xs p ys rising.1

pub find_front : (o : Order) (k : List ℕ) (xs : List Pair) (p : Pair) (ys : List Pair) → Rising o (xs ++ p ∷ ys) → key_cmp o k p.key ≡ Less → find k (xs ++ p ∷ ys) ≡ find k xs
find_front o k [] p ys rising less = found_deeper k p ys (apart_less o k p.key less) ∙ none_behind o k ys (behind_earlier o k p.key ys less rising.0)
find_front o k (x ∷ xs) p ys rising less = ap (λ v. if same_bytes k x.key then Some x.value else v) (find_front o k xs p ys rising.1 less)

pub find_middle : (o : Order) (k : List ℕ) (xs : List Pair) (p : Pair) (ys : List Pair) → Rising o (xs ++ p ∷ ys) → key_cmp o k p.key ≡ Equal → find k (xs ++ p ∷ ys) ≡ Some p.value
find_middle o k [] p ys rising equal = ap (λ b. if b then Some p.value else find k ys) (subst (λ j. same_bytes k j ≡ true) (keys_apart o k p.key equal) (same_itself k))
find_middle o k (x ∷ xs) p ys rising equal =
    let same : k ≡ p.key = keys_apart o k p.key equal in
    let past : key_cmp o k x.key ≡ Greater = flipped o x.key k Less (subst (λ j. key_cmp o x.key j ≡ Less) (sym same) (behind_at o x.key xs p ys rising.0)) in
    found_deeper k x (xs ++ p ∷ ys) (apart_greater o k x.key past) ∙ find_middle o k xs p ys rising.1 equal

pub find_behind : (o : Order) (k : List ℕ) (xs : List Pair) (p : Pair) (ys : List Pair) → Rising o (xs ++ p ∷ ys) → key_cmp o k p.key ≡ Greater → find k (xs ++ p ∷ ys) ≡ find k ys
find_behind o k [] p ys rising past = found_deeper k p ys (apart_greater o k p.key past)
find_behind o k (x ∷ xs) p ys rising past =
    let before : key_cmp o x.key k ≡ Less = (keys_total o).trans x.key p.key k (behind_at o x.key xs p ys rising.0) (flipped o k p.key Greater past) in
    found_deeper k x (xs ++ p ∷ ys) (apart_greater o k x.key (flipped o x.key k Less before)) ∙ find_behind o k xs p ys rising.1 past

-- ---- children

past_front : (o : Order) (k : List ℕ) (xs ys : List Child) → AllPast o k (xs ++ ys) → AllPast o k xs
past_front o k [] ys all = tt
past_front o k (x ∷ xs) ys all = (all.0, past_front o k xs ys all.1)

past_at : (o : Order) (k : List ℕ) (xs : List Child) (c : Child) (ys : List Child) → AllPast o k (xs ++ c ∷ ys) → key_cmp o k c.key ≡ Less
past_at o k [] c ys all = all.0
past_at o k (x ∷ xs) c ys all = past_at o k xs c ys all.1

pub children_front : (o : Order) (xs ys : List Child) → ChildrenRise o (xs ++ ys) → ChildrenRise o xs
children_front o [] ys rise = tt
children_front o (x ∷ xs) ys rise = (past_front o x.key xs ys rise.0, children_front o xs ys rise.1)

pub children_behind : (o : Order) (xs : List Child) (c : Child) (ys : List Child) → ChildrenRise o (xs ++ c ∷ ys) → ChildrenRise o ys
children_behind o [] c ys rise = rise.1
children_behind o (x ∷ xs) c ys rise = children_behind o xs c ys rise.1

pub behind_less : (o : Order) (key : List ℕ) (n : ℕ) (xs : List Child) (c : Child) (ys : List Child) → is_le (key_cmp o c.key key) ≡ false → child_behind o key n (xs ++ c ∷ ys) ≡ child_behind o key n xs
behind_less o key n [] c ys past = ap (λ b. if b then child_behind o key c.page ys else n) past
behind_less o key n (x ∷ xs) c ys past = ap (λ v. if is_le (key_cmp o x.key key) then v else n) (behind_less o key x.page xs c ys past)

before_le : (o : Order) (a b c : List ℕ) (r : Ordering) → key_cmp o a b ≡ Less → key_cmp o b c ≡ r → is_le r ≡ true → is_le (key_cmp o a c) ≡ true
before_le o a b c Less e f h = ap is_le ((keys_total o).trans a b c e f)
before_le o a b c Equal e f h = ap is_le (subst (λ k. key_cmp o a k ≡ Less) (keys_apart o b c f) e)
before_le o a b c Greater e f h = absurd (cc)

pub behind_more : (o : Order) (key : List ℕ) (n : ℕ) (xs : List Child) (c : Child) (ys : List Child) → ChildrenRise o (xs ++ c ∷ ys) → is_le (key_cmp o c.key key) ≡ true → child_behind o key n (xs ++ c ∷ ys) ≡ child_behind o key c.page ys
behind_more o key n [] c ys rise within = ap (λ b. if b then child_behind o key c.page ys else n) within
behind_more o key n (x ∷ xs) c ys rise within =
    ap (λ b. if b then child_behind o key x.page (xs ++ c ∷ ys) else n) (before_le o x.key c.key key (key_cmp o c.key key) (past_at o x.key xs c ys rise.0) refl within)
    ∙ behind_more o key x.page xs c ys rise.1 within

-- what isn't past is at or before
pub not_past : (r : Ordering) → is_gt r ≡ false → is_le r ≡ true
not_past Less e = refl
not_past Equal e = refl
not_past Greater e = absurd (cc)

pub past_so : (r : Ordering) → is_gt r ≡ true → is_le r ≡ false
past_so Less e = absurd (cc)
past_so Equal e = absurd (cc)
past_so Greater e = refl

-- both sides of a middle are shorter
pub front_shorter : {A : Type 0} (all xs : List A) (x : A) (ys : List A) → all ≡ xs ++ x ∷ ys → length xs < length all
front_shorter all xs x ys is = omega (arith, ap length is, length-append xs (x ∷ ys))

pub behind_shorter : {A : Type 0} (all xs : List A) (x : A) (ys : List A) → all ≡ xs ++ x ∷ ys → length ys < length all
behind_shorter all xs x ys is = omega (arith, ap length is, length-append xs (x ∷ ys))

-- ---- as they lie in a text

seen_records : (all xs : List RecordHere) (x : RecordHere) (ys : List RecordHere) → all ≡ xs ++ x ∷ ys → records_seen all ≡ records_seen xs ++ pair_here x ∷ records_seen ys
seen_records all xs x ys is = ap records_seen is ∙ map-append pair_here xs (x ∷ ys)

module _ (o : Order) (key : List ℕ) (all xs : List RecordHere) (x : RecordHere) (ys : List RecordHere) (is : all ≡ xs ++ x ∷ ys) (rising : Rising o (records_seen all)) where
  there : Rising o (records_seen xs ++ pair_here x ∷ records_seen ys)
  there = subst (λ m. Rising o m) (seen_records all xs x ys is) rising

  pub value_front_rises : Rising o (records_seen xs)
  value_front_rises = rising_front o (records_seen xs) (pair_here x ∷ records_seen ys) there

  pub value_behind_rises : Rising o (records_seen ys)
  value_behind_rises = rising_behind o (records_seen xs) (pair_here x) (records_seen ys) there

  pub value_front : key_cmp o key x.key.now ≡ Less → find key (records_seen xs) ≡ find key (records_seen all)
  value_front less = sym (ap (find key) (seen_records all xs x ys is) ∙ find_front o key (records_seen xs) (pair_here x) (records_seen ys) there less)

  pub value_middle : key_cmp o key x.key.now ≡ Equal → Some x.value.now ≡ find key (records_seen all)
  value_middle equal = sym (ap (find key) (seen_records all xs x ys is) ∙ find_middle o key (records_seen xs) (pair_here x) (records_seen ys) there equal)

  pub value_behind : key_cmp o key x.key.now ≡ Greater → find key (records_seen ys) ≡ find key (records_seen all)
  value_behind past = sym (ap (find key) (seen_records all xs x ys is) ∙ find_behind o key (records_seen xs) (pair_here x) (records_seen ys) there past)

seen_children : (all xs : List ChildHere) (x : ChildHere) (ys : List ChildHere) → all ≡ xs ++ x ∷ ys → children_seen all ≡ children_seen xs ++ child_seen x ∷ children_seen ys
seen_children all xs x ys is = ap children_seen is ∙ map-append child_seen xs (x ∷ ys)

module _ (o : Order) (key : List ℕ) (n : ℕ) (all xs : List ChildHere) (x : ChildHere) (ys : List ChildHere) (is : all ≡ xs ++ x ∷ ys) (rise : ChildrenRise o (children_seen all)) where
  lie : ChildrenRise o (children_seen xs ++ child_seen x ∷ children_seen ys)
  lie = subst (λ m. ChildrenRise o m) (seen_children all xs x ys is) rise

  pub child_front_rises : ChildrenRise o (children_seen xs)
  child_front_rises = children_front o (children_seen xs) (child_seen x ∷ children_seen ys) lie

  pub child_behind_rises : ChildrenRise o (children_seen ys)
  child_behind_rises = children_behind o (children_seen xs) (child_seen x) (children_seen ys) lie

  pub child_front : is_gt (key_cmp o x.key.now key) ≡ true → child_behind o key n (children_seen xs) ≡ child_behind o key n (children_seen all)
  child_front past = sym (ap (child_behind o key n) (seen_children all xs x ys is) ∙ behind_less o key n (children_seen xs) (child_seen x) (children_seen ys) (past_so (key_cmp o x.key.now key) past))

  pub child_more : is_gt (key_cmp o x.key.now key) ≡ false → child_behind o key x.page (children_seen ys) ≡ child_behind o key n (children_seen all)
  child_more within = sym (ap (child_behind o key n) (seen_children all xs x ys is) ∙ behind_more o key n (children_seen xs) (child_seen x) (children_seen ys) lie (not_past (key_cmp o x.key.now key) within))

-- ---- whether keys rise

cut_whole : {A : Type 0} (xs : List A) → take (length xs - 1) (drop 1 xs) ≡ drop 1 xs
cut_whole [] = refl
cut_whole (x ∷ xs) = take_all _ xs (omega arith)

less_so : (r : Ordering) → is_lt r ≡ true → r ≡ Less
less_so Less e = refl
less_so Equal e = absurd (cc)
less_so Greater e = absurd (cc)

abbrev key_at : RecordHere → List RecordHere → ℕ → List ℕ
key_at d xs i = (slice_index_or xs i d).key.now

records_on : (d : RecordHere) (o : Order) (rest : List RecordHere) → 2 ≤ length rest → key_cmp o (key_at d rest 0) (key_at d rest 1) ≡ Less → Rising o (records_seen (drop 1 rest)) ↔ Rising o (records_seen rest)
records_on d o [] two less = absurd (omega arith)
records_on d o (x ∷ []) two less = absurd (omega arith)
records_on d o (x ∷ y ∷ zs) two less = (λ rising. ((less, behind_earlier o x.key.now y.key.now (records_seen zs) less rising.0), rising), λ rising. rising.1)

pub records_short : (o : Order) (rest : List RecordHere) → length rest < 2 → Rising o (records_seen rest)
records_short o [] few = tt
records_short o (x ∷ []) few = (tt, tt)
records_short o (x ∷ y ∷ zs) few = absurd (omega arith)

pub records_step : (d : RecordHere) (o : Order) (All : Type 0) (rest : List RecordHere) → 2 ≤ length rest → is_lt (key_cmp o (key_at d rest 0) (key_at d rest 1)) ≡ true → (Rising o (records_seen rest) ↔ All)
    → Rising o (records_seen (take (length rest - 1) (drop 1 rest))) ↔ All
records_step d o All rest two lt same =
    let on = records_on d o rest two (less_so _ lt) in
    subst (λ l. Rising o (records_seen l) ↔ All) (sym (cut_whole rest)) (λ rising. same.0 (on.0 rising), λ rising. on.1 (same.1 rising))

past_earlier : (o : Order) (j k : List ℕ) (cs : List Child) → key_cmp o j k ≡ Less → AllPast o k cs → AllPast o j cs
past_earlier o j k [] e all = tt
past_earlier o j k (c ∷ cs) e all = ((keys_total o).trans j k c.key e all.0, past_earlier o j k cs e all.1)

abbrev child_key_at : ChildHere → List ChildHere → ℕ → List ℕ
child_key_at d xs i = (slice_index_or xs i d).key.now

children_on : (d : ChildHere) (o : Order) (rest : List ChildHere) → 2 ≤ length rest → key_cmp o (child_key_at d rest 0) (child_key_at d rest 1) ≡ Less → ChildrenRise o (children_seen (drop 1 rest)) ↔ ChildrenRise o (children_seen rest)
children_on d o [] two less = absurd (omega arith)
children_on d o (x ∷ []) two less = absurd (omega arith)
children_on d o (x ∷ y ∷ zs) two less = (λ rising. ((less, past_earlier o x.key.now y.key.now (children_seen zs) less rising.0), rising), λ rising. rising.1)

pub children_short : (o : Order) (rest : List ChildHere) → length rest < 2 → ChildrenRise o (children_seen rest)
children_short o [] few = tt
children_short o (x ∷ []) few = (tt, tt)
children_short o (x ∷ y ∷ zs) few = absurd (omega arith)

pub children_step : (d : ChildHere) (o : Order) (All : Type 0) (rest : List ChildHere) → 2 ≤ length rest → is_lt (key_cmp o (child_key_at d rest 0) (child_key_at d rest 1)) ≡ true → (ChildrenRise o (children_seen rest) ↔ All)
    → ChildrenRise o (children_seen (take (length rest - 1) (drop 1 rest))) ↔ All
children_step d o All rest two lt same =
    let on = children_on d o rest two (less_so _ lt) in
    subst (λ l. ChildrenRise o (children_seen l) ↔ All) (sym (cut_whole rest)) (λ rising. same.0 (on.0 rising), λ rising. on.1 (same.1 rising))
