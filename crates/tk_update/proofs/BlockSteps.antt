-- Changes of blocks are changes of records.
use Rattle.std.proofs.Common.{◌≡◌, ◌⊎◌, inl, inr, ℕ, ◌+◌, ◌<◌, ◌≤◌, Bool, true, false, List, [], ◌∷◌, refl, sym, ◌∙◌, ap, subst, arith, if◌then◌else◌}
use Rattle.std.specs.Prelude.{Option, Some, None, ◌==◌, ◌&&◌, nat_le}
use Rattle.std.proofs.lemmas.Bool.Decides.{nat_tests}
use Rattle.tk_model.specs.Orders.{same_bytes}
use Rattle.tk_model.specs.Records.{find, put, without, after_one, after, Rising, HasNoClear}
use Rattle.tk_model.proofs.KeyOrders.{same_told, same_itself}
use Rattle.tk_model.proofs.RecordLaws.{so_or_not, same_flipped, put_rising, one_rising, find_put_same, find_put_other, find_without_same, find_without_other, same_records}
use Rattle.tk_model.specs.declared.record.Order.{Order}
use Rattle.tk_model.specs.declared.record.Pair.{Pair}
use Rattle.tk_model.specs.declared.record.Change.{Change}
use Rattle.tk_model.specs.declared.record.Change.TheVariants as changes
use Rattle.tk_block.specs.Blocks.{room_of, extent_of}
use Rattle.tk_block.specs.declared.block.Body.{Body}
use Rattle.tk_block.proofs.Lengths.{room_fits}
use Rattle.tk_block.specs.Layout.{Placed}
use Rattle.tk_update.specs.Blocks.{set_body, void_body, is_of, block_of, better, best_void, appended, written_at, voided, put_into, put_over, put_block, blocks_after_one, blocks_after, AreInLine, KeyIsOnce, KeysAreOnce, KeepPlaces, records_in, value_in}
use Rattle.tk_update.specs.Laws.{BlocksAreRecords}
use Rattle.tk_update.specs.Spelled.{placed_at}
use Rattle.tk_update.proofs.Told.{two_true, not_both, no_some, same_some, told, within, false_unless}

-- ---- tests

pub same_place : (a : ℕ) → (a == a) ≡ true
same_place a = grind (arith, nat_tests)

pub below : (a b : ℕ) → a < b → (a == b) ≡ false
below a b is = grind (arith, nat_tests)

pub key_is : (k : List ℕ) (b : Body) → is_of k b ≡ true → (b.kind ≡ 1) × (k ≡ b.key)
key_is k b is =
    let two = two_true (b.kind == 1) (same_bytes k b.key) is in
    (told b.kind 1 two.0, same_told k b.key two.1)

-- a block of one key is of no other
other_key : (j k : List ℕ) (b : Body) → is_of k b ≡ true → same_bytes j k ≡ false → is_of j b ≡ false
other_key j k b is apart = false_unless (is_of j b) (λ its.
    let one = key_is j b its in
    let two = key_is k b is in
    not_both (same_bytes j k) (subst (λ (i : List ℕ). same_bytes j i ≡ true) (one.1 ∙ sym two.1) (same_itself j)) apart)

set_other : (j : List ℕ) (new : Pair) (n : ℕ) → same_bytes j new.key ≡ false → is_of j (set_body new n) ≡ false
set_other j new n apart = apart

set_own : (new : Pair) (n : ℕ) → is_of new.key (set_body new n) ≡ true
set_own new n = same_itself new.key

-- ---- a block's place

-- a block that is found at its place, not in front of another
pub record Stands (at : ℕ) (x : Placed) (xs : List Placed) : Type 0 where
  pub least : at ≤ x.place
  pub there : placed_at x.place xs ≡ Some x

stands_first : (at : ℕ) (x : Placed) (xs : List Placed) → x.place ≡ at → Stands at x (x ∷ xs)
stands_first at x xs is = record { least = omega (arith, is); there = ap (λ (t : Bool). if t then Some x else placed_at x.place xs) (same_place x.place) }

stands_later : (at : ℕ) (x y : Placed) (xs : List Placed) → y.place ≡ at → 48 ≤ y.extent → Stands (at + y.extent) x xs → Stands at x (y ∷ xs)
stands_later at x y xs is long s = record {
  least = omega (arith, s.least);
  there = ap (λ (t : Bool). if t then Some y else placed_at x.place xs) (below y.place x.place (omega (arith, s.least, is, long))) ∙ s.there;
}

of_if : (t : Bool) (k : List ℕ) (at : ℕ) (x y : Placed) (xs : List Placed) → is_of k y.body ≡ t → y.place ≡ at → 48 ≤ y.extent → (block_of k xs ≡ Some x → Stands (at + y.extent) x xs × (is_of k x.body ≡ true))
    → (if t then Some y else block_of k xs) ≡ Some x → Stands at x (y ∷ xs) × (is_of k x.body ≡ true)
of_if true k at x y xs its is long go found =
    let one = same_some y x found in
    subst (λ (z : Placed). Stands at z (y ∷ xs) × (is_of k z.body ≡ true)) one (stands_first at y xs is, its)
of_if false k at x y xs its is long go found = (stands_later at x y xs is long (go found).0, (go found).1)

pub of_stands : (k : List ℕ) (at : ℕ) (xs : List Placed) (x : Placed) → AreInLine at xs → block_of k xs ≡ Some x → Stands at x xs × (is_of k x.body ≡ true)
of_stands k at [] x laid found = absurd (no_some x found)
of_stands k at (y ∷ ys) x laid found = of_if (is_of k y.body) k at x y ys refl laid.0 laid.1 (λ more. of_stands k (at + y.extent) ys x laid.3 more) found

record Best (at room : ℕ) (x : Placed) (xs : List Placed) : Type 0 where
  stands : Stands at x xs
  kind : x.body.kind ≡ 3
  fits : room ≤ x.extent

best_later : (at room : ℕ) (x y : Placed) (xs : List Placed) → y.place ≡ at → 48 ≤ y.extent → Best (at + y.extent) room x xs → Best at room x (y ∷ xs)
best_later at room x y xs is long b = record { stands = stands_later at x y xs is long b.stands; kind = b.kind; fits = b.fits }

pick : (t : Bool) (at room : ℕ) (x y z : Placed) (xs : List Placed) → Best at room y xs → Best at room z xs → (if t then Some y else Some z) ≡ Some x → Best at room x xs
pick true at room x y z xs one two found = subst (λ (w : Placed). Best at room w xs) (same_some y x found) one
pick false at room x y z xs one two found = subst (λ (w : Placed). Best at room w xs) (same_some z x found) two

best_or : (o : Option Placed) (at room : ℕ) (x y : Placed) (xs : List Placed) → Best at room y (y ∷ xs) → ((z : Placed) → o ≡ Some z → Best at room z (y ∷ xs)) → better (Some y) o ≡ Some x → Best at room x (y ∷ xs)
best_or None at room x y xs one go found = subst (λ (w : Placed). Best at room w (y ∷ xs)) (same_some y x found) one
best_or (Some z) at room x y xs one go found = pick (nat_le y.extent z.extent) at room x y z (y ∷ xs) one (go z refl) found

best_if : (t : Bool) (at room : ℕ) (x y : Placed) (xs : List Placed) → ((y.body.kind == 3) && nat_le room y.extent) ≡ t → y.place ≡ at → 48 ≤ y.extent → ((z : Placed) → best_void room xs ≡ Some z → Best (at + y.extent) room z xs)
    → better (if t then Some y else None) (best_void room xs) ≡ Some x → Best at room x (y ∷ xs)
best_if false at room x y xs test is long go found = best_later at room x y xs is long (go x found)
best_if true at room x y xs test is long go found =
    let two = two_true (y.body.kind == 3) (nat_le room y.extent) test in
    best_or (best_void room xs) at room x y xs (record { stands = stands_first at y xs is; kind = told y.body.kind 3 two.0; fits = within room y.extent two.1 }) (λ z more. best_later at room z y xs is long (go z more)) found

best_stands : (at room : ℕ) (xs : List Placed) (x : Placed) → AreInLine at xs → best_void room xs ≡ Some x → Best at room x xs
best_stands at room [] x laid found = absurd (no_some x found)
best_stands at room (y ∷ ys) x laid found = best_if ((y.body.kind == 3) && nat_le room y.extent) at room x y ys refl laid.0 laid.1 (λ z more. best_stands (at + y.extent) room ys z laid.3 more) found

void_of : (k : List ℕ) (b : Body) → b.kind ≡ 3 → is_of k b ≡ false
void_of k b is = ap (λ (n : ℕ). (n == 1) && same_bytes k b.key) is

-- ---- the first block of a key

skip : (j : List ℕ) (y : Placed) (ys : List Placed) → is_of j y.body ≡ false → block_of j (y ∷ ys) ≡ block_of j ys
skip j y ys is = ap (λ (t : Bool). if t then Some y else block_of j ys) is

hit : (j : List ℕ) (y : Placed) (ys : List Placed) → is_of j y.body ≡ true → block_of j (y ∷ ys) ≡ Some y
hit j y ys is = ap (λ (t : Bool). if t then Some y else block_of j ys) is

none_both : (k : List ℕ) (y : Placed) (ys : List Placed) → block_of k (y ∷ ys) ≡ None → (is_of k y.body ≡ false) × (block_of k ys ≡ None)
none_both k y ys none =
    let un = false_unless (is_of k y.body) (λ its. no_some y (sym none ∙ hit k y ys its)) in
    (un, sym (skip k y ys un) ∙ none)

-- none, or this one
abbrev OnlyAt : (key : List ℕ) → Placed → List Placed → Type 0
OnlyAt k x xs = (block_of k xs ≡ None) ⊎ (block_of k xs ≡ Some x)

only_later : (k : List ℕ) (x y : Placed) (ys : List Placed) → is_of k y.body ≡ false → OnlyAt k x (y ∷ ys) → OnlyAt k x ys
only_later k x y ys un (inl none) = inl (sym (skip k y ys un) ∙ none)
only_later k x y ys un (inr one) = inr (sym (skip k y ys un) ∙ one)

-- a block at another place is not the key's
only_apart : (k : List ℕ) (x y : Placed) (ys : List Placed) → (y.place == x.place) ≡ false → OnlyAt k x (y ∷ ys) → is_of k y.body ≡ false
only_apart k x y ys apart (inl none) = (none_both k y ys none).0
only_apart k x y ys apart (inr one) = false_unless (is_of k y.body) (λ its.
    let same = same_some y x (sym (hit k y ys its) ∙ one) in
    not_both (y.place == x.place) (subst (λ (z : Placed). (y.place == z.place) ≡ true) same (same_place y.place)) apart)

-- ---- another body at a place

abbrev pub with_body : Body → Placed → Placed
with_body b y = record { place = y.place; extent = y.extent; body = b }

other_if : (t : Bool) (j : List ℕ) (b : Body) (x y : Placed) (ys new : List Placed) → is_of j x.body ≡ false → is_of j b ≡ false → (placed_at x.place ys ≡ Some x → block_of j new ≡ block_of j ys)
    → (if t then Some y else placed_at x.place ys) ≡ Some x → block_of j (if t then with_body b y ∷ ys else y ∷ new) ≡ block_of j (y ∷ ys)
other_if true j b x y ys new un wrote go found =
    skip j (with_body b y) ys wrote ∙ sym (skip j y ys (subst (λ (z : Placed). is_of j z.body ≡ false) (sym (same_some y x found)) un))
other_if false j b x y ys new un wrote go found = ap (λ (o : Option Placed). if is_of j y.body then Some y else o) (go found)

written_other : (j : List ℕ) (b : Body) (x : Placed) (xs : List Placed) → placed_at x.place xs ≡ Some x → is_of j x.body ≡ false → is_of j b ≡ false → block_of j (written_at x.place b xs) ≡ block_of j xs
written_other j b x [] found un wrote = absurd (no_some x found)
written_other j b x (y ∷ ys) found un wrote = other_if (y.place == x.place) j b x y ys (written_at x.place b ys) un wrote (λ more. written_other j b x ys more un wrote) found

own_if : (t : Bool) (k : List ℕ) (b : Body) (x y : Placed) (ys new : List Placed) → (y.place == x.place) ≡ t → is_of k b ≡ true → OnlyAt k x (y ∷ ys) → (placed_at x.place ys ≡ Some x → OnlyAt k x ys → value_in (block_of k new) ≡ Some b.value)
    → (if t then Some y else placed_at x.place ys) ≡ Some x → value_in (block_of k (if t then with_body b y ∷ ys else y ∷ new)) ≡ Some b.value
own_if true k b x y ys new test its only go found = ap value_in (hit k (with_body b y) ys its)
own_if false k b x y ys new test its only go found =
    let un = only_apart k x y ys test only in
    ap value_in (skip k y new un) ∙ go found (only_later k x y ys un only)

written_own : (k : List ℕ) (b : Body) (x : Placed) (xs : List Placed) → placed_at x.place xs ≡ Some x → OnlyAt k x xs → is_of k b ≡ true → value_in (block_of k (written_at x.place b xs)) ≡ Some b.value
written_own k b x [] found only its = absurd (no_some x found)
written_own k b x (y ∷ ys) found only its = own_if (y.place == x.place) k b x y ys (written_at x.place b ys) refl its only (λ more later. written_own k b x ys more later its) found

none_if : (t : Bool) (j : List ℕ) (b : Body) (y : Placed) (ys new : List Placed) → is_of j b ≡ false → block_of j (y ∷ ys) ≡ None → (block_of j ys ≡ None → block_of j new ≡ None) → block_of j (if t then with_body b y ∷ ys else y ∷ new) ≡ None
none_if true j b y ys new wrote none go = skip j (with_body b y) ys wrote ∙ (none_both j y ys none).1
none_if false j b y ys new wrote none go = skip j y new (none_both j y ys none).0 ∙ go (none_both j y ys none).1

written_none : (j : List ℕ) (place : ℕ) (b : Body) (xs : List Placed) → block_of j xs ≡ None → is_of j b ≡ false → block_of j (written_at place b xs) ≡ None
written_none j place b [] none wrote = refl
written_none j place b (y ∷ ys) none wrote = none_if (y.place == place) j b y ys (written_at place b ys) wrote none (λ more. written_none j place b ys more wrote)

-- a set block that is not the key's has another key
apart_by : (k : List ℕ) (b : Body) → b.kind ≡ 1 → is_of k b ≡ false → same_bytes b.key k ≡ false
apart_by k b set un = same_flipped k b.key (sym (ap (λ (n : ℕ). (n == 1) && same_bytes k b.key) set) ∙ un)

of_itself : (k : List ℕ) (xs : List Placed) (x : Placed) → block_of k xs ≡ Some x → is_of k x.body ≡ true
of_itself k [] x found = absurd (no_some x found)
of_itself k (y ∷ ys) x found = step (is_of k y.body) y x refl (λ more. of_itself k ys x more) found
  where
    step : (t : Bool) (y x : Placed) → is_of k y.body ≡ t → (block_of k ys ≡ Some x → is_of k x.body ≡ true) → (if t then Some y else block_of k ys) ≡ Some x → is_of k x.body ≡ true
    step true y x its go found = subst (λ (z : Placed). is_of k z.body ≡ true) (same_some y x found) its
    step false y x its go found = go found

-- where the first is this one, none is behind it
behind_only : (k : List ℕ) (x : Placed) (ys : List Placed) → KeyIsOnce x ys → OnlyAt k x (x ∷ ys) → block_of k ys ≡ None
behind_only k x ys once (inl none) = (none_both k x ys none).1
behind_only k x ys once (inr one) =
    let key = key_is k x.body (of_itself k (x ∷ ys) x one) in
    subst (λ (j : List ℕ). block_of j ys ≡ None) (sym key.1) (once key.0)

once_if : (t : Bool) (k : List ℕ) (b : Body) (x y : Placed) (ys : List Placed) → (y.place == x.place) ≡ t → is_of k b ≡ true → OnlyAt k x (y ∷ ys) → KeysAreOnce (y ∷ ys)
    → (placed_at x.place ys ≡ Some x → OnlyAt k x ys → KeysAreOnce (written_at x.place b ys)) → (if t then Some y else placed_at x.place ys) ≡ Some x
    → KeysAreOnce (if t then with_body b y ∷ ys else y ∷ written_at x.place b ys)
once_if true k b x y ys test its only once go found =
    let same = same_some y x found in
    let key = key_is k b its in
    (λ set. subst (λ (j : List ℕ). block_of j ys ≡ None) key.1 (behind_only k x ys (subst (λ (z : Placed). KeyIsOnce z ys) same once.0) (subst (λ (z : Placed). OnlyAt k x (z ∷ ys)) same only)), once.1)
once_if false k b x y ys test its only once go found =
    let un = only_apart k x y ys test only in
    (λ set. written_none y.body.key x.place b ys (once.0 set) (other_key y.body.key k b its (apart_by k y.body set un)), go found (only_later k x y ys un only))

written_once : (k : List ℕ) (b : Body) (x : Placed) (xs : List Placed) → placed_at x.place xs ≡ Some x → OnlyAt k x xs → is_of k b ≡ true → KeysAreOnce xs → KeysAreOnce (written_at x.place b xs)
written_once k b x [] found only its once = tt
written_once k b x (y ∷ ys) found only its once = once_if (y.place == x.place) k b x y ys refl its only once (λ more later. written_once k b x ys more later its once.1) found

laid_if : (t : Bool) (at : ℕ) (b : Body) (x y : Placed) (ys : List Placed) → room_of b ≤ x.extent → AreInLine at (y ∷ ys) → (placed_at x.place ys ≡ Some x → AreInLine (at + y.extent) (written_at x.place b ys)) → (if t then Some y else placed_at x.place ys) ≡ Some x
    → AreInLine at (if t then with_body b y ∷ ys else y ∷ written_at x.place b ys)
laid_if true at b x y ys fits laid go found = (laid.0, laid.1, subst (λ (z : Placed). room_of b ≤ z.extent) (sym (same_some y x found)) fits, laid.3)
laid_if false at b x y ys fits laid go found = (laid.0, laid.1, laid.2, go found)

written_laid : (at : ℕ) (b : Body) (x : Placed) (xs : List Placed) → placed_at x.place xs ≡ Some x → room_of b ≤ x.extent → AreInLine at xs → AreInLine at (written_at x.place b xs)
written_laid at b x [] found fits laid = tt
written_laid at b x (y ∷ ys) found fits laid = laid_if (y.place == x.place) at b x y ys fits laid (λ more. written_laid (at + y.extent) b x ys more fits laid.3) found

-- ---- blocks of a key made void

abbrev pub void_if : Bool → (number : ℕ) → Placed → Placed
void_if t n y = if t then with_body (void_body n) y else y

voided_own_if : (t : Bool) (k : List ℕ) (n : ℕ) (y : Placed) (new : List Placed) → is_of k y.body ≡ t → block_of k new ≡ None → block_of k (void_if t n y ∷ new) ≡ None
voided_own_if true k n y new its none = none
voided_own_if false k n y new its none = skip k y new its ∙ none

voided_own : (k : List ℕ) (n : ℕ) (xs : List Placed) → block_of k (voided k n xs) ≡ None
voided_own k n [] = refl
voided_own k n (y ∷ ys) = voided_own_if (is_of k y.body) k n y (voided k n ys) refl (voided_own k n ys)

voided_other_if : (t : Bool) (j k : List ℕ) (n : ℕ) (y : Placed) (ys new : List Placed) → is_of k y.body ≡ t → same_bytes j k ≡ false → block_of j new ≡ block_of j ys → block_of j (void_if t n y ∷ new) ≡ block_of j (y ∷ ys)
voided_other_if true j k n y ys new its apart same = same ∙ sym (skip j y ys (other_key j k y.body its apart))
voided_other_if false j k n y ys new its apart same = ap (λ (o : Option Placed). if is_of j y.body then Some y else o) same

voided_other : (j k : List ℕ) (n : ℕ) (xs : List Placed) → same_bytes j k ≡ false → block_of j (voided k n xs) ≡ block_of j xs
voided_other j k n [] apart = refl
voided_other j k n (y ∷ ys) apart = voided_other_if (is_of k y.body) j k n y ys (voided k n ys) refl apart (voided_other j k n ys apart)

voided_once_if : (t : Bool) (k : List ℕ) (n : ℕ) (y : Placed) (ys : List Placed) → is_of k y.body ≡ t → KeyIsOnce y ys → KeysAreOnce (voided k n ys) → KeysAreOnce (void_if t n y ∷ voided k n ys)
voided_once_if true k n y ys its once more = (λ set. absurd (omega (arith, set)), more)
voided_once_if false k n y ys its once more = (λ set. voided_other y.body.key k n ys (apart_by k y.body set its) ∙ once set, more)

voided_once : (k : List ℕ) (n : ℕ) (xs : List Placed) → KeysAreOnce xs → KeysAreOnce (voided k n xs)
voided_once k n [] once = tt
voided_once k n (y ∷ ys) once = voided_once_if (is_of k y.body) k n y ys refl once.0 (voided_once k n ys once.1)

voided_laid_if : (t : Bool) (at n : ℕ) (y : Placed) (ys : List Placed) (more : List Placed) → AreInLine at (y ∷ ys) → AreInLine (at + y.extent) more → AreInLine at (void_if t n y ∷ more)
voided_laid_if true at n y ys more laid go = (laid.0, laid.1, omega (arith, laid.1), go)
voided_laid_if false at n y ys more laid go = (laid.0, laid.1, laid.2, go)

voided_laid : (at : ℕ) (k : List ℕ) (n : ℕ) (xs : List Placed) → AreInLine at xs → AreInLine at (voided k n xs)
voided_laid at k n [] laid = tt
voided_laid at k n (y ∷ ys) laid = voided_laid_if (is_of k y.body) at n y ys (voided k n ys) laid (voided_laid (at + y.extent) k n ys laid.3)

voided_spot_if : (t s : Bool) (k : List ℕ) (n : ℕ) (x y : Placed) (ys : List Placed) → (y.place == x.place) ≡ s → is_of k y.body ≡ t → is_of k x.body ≡ false → (placed_at x.place ys ≡ Some x → placed_at x.place (voided k n ys) ≡ Some x)
    → (if s then Some y else placed_at x.place ys) ≡ Some x → placed_at x.place (void_if t n y ∷ voided k n ys) ≡ Some x
voided_spot_if true true k n x y ys test its un go found = absurd (not_both (is_of k x.body) (subst (λ (z : Placed). is_of k z.body ≡ true) (same_some y x found) its) un)
voided_spot_if false true k n x y ys test its un go found = ap (λ (s : Bool). if s then Some y else placed_at x.place (voided k n ys)) test ∙ found
voided_spot_if true false k n x y ys test its un go found = ap (λ (s : Bool). if s then Some (with_body (void_body n) y) else placed_at x.place (voided k n ys)) test ∙ go found
voided_spot_if false false k n x y ys test its un go found = ap (λ (s : Bool). if s then Some y else placed_at x.place (voided k n ys)) test ∙ go found

voided_spot : (k : List ℕ) (n : ℕ) (x : Placed) (xs : List Placed) → placed_at x.place xs ≡ Some x → is_of k x.body ≡ false → placed_at x.place (voided k n xs) ≡ Some x
voided_spot k n x [] found un = found
voided_spot k n x (y ∷ ys) found un = voided_spot_if (is_of k y.body) (y.place == x.place) k n x y ys refl refl un (λ more. voided_spot k n x ys more un) found

-- ---- a block at the end

appended_other : (j : List ℕ) (at : ℕ) (b : Body) (xs : List Placed) → is_of j b ≡ false → block_of j (appended at b xs) ≡ block_of j xs
appended_other j at b [] un = skip j (record { place = at; extent = extent_of b; body = b }) [] un
appended_other j at b (y ∷ ys) un = ap (λ (o : Option Placed). if is_of j y.body then Some y else o) (appended_other j (y.place + y.extent) b ys un)

appended_own : (k : List ℕ) (at : ℕ) (b : Body) (xs : List Placed) → block_of k xs ≡ None → is_of k b ≡ true → value_in (block_of k (appended at b xs)) ≡ Some b.value
appended_own k at b [] none its = ap value_in (hit k (record { place = at; extent = extent_of b; body = b }) [] its)
appended_own k at b (y ∷ ys) none its =
    let two = none_both k y ys none in
    ap value_in (skip k y (appended (y.place + y.extent) b ys) two.0) ∙ appended_own k (y.place + y.extent) b ys two.1 its

appended_once : (k : List ℕ) (at : ℕ) (b : Body) (xs : List Placed) → block_of k xs ≡ None → is_of k b ≡ true → KeysAreOnce xs → KeysAreOnce (appended at b xs)
appended_once k at b [] none its once = (λ set. refl, tt)
appended_once k at b (y ∷ ys) none its once =
    let two = none_both k y ys none in (
      λ set. appended_other y.body.key (y.place + y.extent) b ys (other_key y.body.key k b its (apart_by k y.body set two.0)) ∙ once.0 set,
      appended_once k (y.place + y.extent) b ys two.1 its once.1,
    )

extent_long : (room : ℕ) (b : Body) → room ≡ room_of b → 48 ≤ extent_of b
extent_long room b is = omega arith

appended_laid : (at : ℕ) (b : Body) (xs : List Placed) → AreInLine at xs → AreInLine at (appended at b xs)
appended_laid at b [] laid = (refl, extent_long (room_of b) b refl, room_fits (room_of b), tt)
appended_laid at b (y ∷ ys) laid = (laid.0, laid.1, laid.2, subst (λ (k : ℕ). AreInLine (at + y.extent) (appended (k + y.extent) b ys)) (sym laid.0) (appended_laid (at + y.extent) b ys laid.3))

-- ---- old blocks stay where they are

stay_all : (xs : List Placed) → KeepPlaces xs xs
stay_all [] = tt
stay_all (x ∷ xs) = (refl, refl, stay_all xs)

stay_more : (xs ys zs : List Placed) → KeepPlaces xs ys → KeepPlaces ys zs → KeepPlaces xs zs
stay_more [] ys zs one two = tt
stay_more (x ∷ xs) [] zs one two = absurd one
stay_more (x ∷ xs) (y ∷ ys) [] one two = absurd two
stay_more (x ∷ xs) (y ∷ ys) (z ∷ zs) one two = (two.0 ∙ one.0, two.1 ∙ one.1, stay_more xs ys zs one.2 two.2)

stay_written_if : (t : Bool) (b : Body) (y : Placed) (ys new : List Placed) → KeepPlaces ys new → KeepPlaces (y ∷ ys) (if t then with_body b y ∷ ys else y ∷ new)
stay_written_if true b y ys new more = (refl, refl, stay_all ys)
stay_written_if false b y ys new more = (refl, refl, more)

stay_written : (place : ℕ) (b : Body) (xs : List Placed) → KeepPlaces xs (written_at place b xs)
stay_written place b [] = tt
stay_written place b (y ∷ ys) = stay_written_if (y.place == place) b y ys (written_at place b ys) (stay_written place b ys)

stay_voided_if : (t : Bool) (n : ℕ) (y : Placed) (ys new : List Placed) → KeepPlaces ys new → KeepPlaces (y ∷ ys) (void_if t n y ∷ new)
stay_voided_if true n y ys new more = (refl, refl, more)
stay_voided_if false n y ys new more = (refl, refl, more)

stay_voided : (k : List ℕ) (n : ℕ) (xs : List Placed) → KeepPlaces xs (voided k n xs)
stay_voided k n [] = tt
stay_voided k n (y ∷ ys) = stay_voided_if (is_of k y.body) n y ys (voided k n ys) (stay_voided k n ys)

stay_appended : (at : ℕ) (b : Body) (xs : List Placed) → KeepPlaces xs (appended at b xs)
stay_appended at b [] = tt
stay_appended at b (y ∷ ys) = (refl, refl, stay_appended (y.place + y.extent) b ys)

stay_placed : (base : ℕ) (b : Body) (o : Option Placed) (xs : List Placed) → KeepPlaces xs (put_into base b o xs)
stay_placed base b None xs = stay_appended base b xs
stay_placed base b (Some v) xs = stay_written v.place b xs

stay_fit : (t : Bool) (base : ℕ) (k : List ℕ) (n : ℕ) (b : Body) (x : Placed) (o : Option Placed) (xs : List Placed) → KeepPlaces xs (if t then written_at x.place b xs else put_into base b o (voided k n xs))
stay_fit true base k n b x o xs = stay_written x.place b xs
stay_fit false base k n b x o xs = stay_more xs (voided k n xs) (put_into base b o (voided k n xs)) (stay_voided k n xs) (stay_placed base b o (voided k n xs))

stay_put : (base n : ℕ) (new : Pair) (o : Option Placed) (xs : List Placed) → KeepPlaces xs (put_over base new n o xs)
stay_put base n new None xs = stay_placed base (set_body new n) (best_void (room_of (set_body new n)) xs) xs
stay_put base n new (Some x) xs = stay_fit (nat_le (room_of (set_body new n)) x.extent) base new.key n (set_body new n) x (best_void (room_of (set_body new n)) xs) xs

stay_changes : (base n : ℕ) (cs : List Change) (xs : List Placed) → HasNoClear cs → KeepPlaces xs (blocks_after base n cs xs)
stay_changes base n [] xs un = stay_all xs
stay_changes base n (changes.Put new ∷ cs) xs un =
    let ys = put_block base new n xs in
    stay_more xs ys (blocks_after base n cs ys) (stay_put base n new (block_of new.key xs) xs) (stay_changes base n cs ys un)
stay_changes base n (changes.Drop k ∷ cs) xs un = stay_more xs (voided k n xs) (blocks_after base n cs (voided k n xs)) (stay_voided k n xs) (stay_changes base n cs (voided k n xs) un)
stay_changes base n (changes.Clear ∷ cs) xs un = absurd un

-- ---- a put

record Puts (base : ℕ) (new : Pair) (old now : List Placed) : Type 0 where
  own : value_in (block_of new.key now) ≡ Some new.value
  other : (j : List ℕ) → same_bytes j new.key ≡ false → value_in (block_of j now) ≡ value_in (block_of j old)
  once : KeysAreOnce now
  laid : AreInLine base now

-- over blocks without the key
puts_placed : (base n : ℕ) (new : Pair) (o : Option Placed) (xs : List Placed) → block_of new.key xs ≡ None → KeysAreOnce xs → AreInLine base xs
    → ((v : Placed) → o ≡ Some v → (placed_at v.place xs ≡ Some v) × (v.body.kind ≡ 3) × (room_of (set_body new n) ≤ v.extent)) → Puts base new xs (put_into base (set_body new n) o xs)
puts_placed base n new None xs none once laid void = record {
  own = appended_own new.key base (set_body new n) xs none (set_own new n);
  other = λ j apart. ap value_in (appended_other j base (set_body new n) xs (set_other j new n apart));
  once = appended_once new.key base (set_body new n) xs none (set_own new n) once;
  laid = appended_laid base (set_body new n) xs laid;
}
puts_placed base n new (Some v) xs none once laid void =
    let is = void v refl in
    record {
      own = written_own new.key (set_body new n) v xs is.0 (inl none) (set_own new n);
      other = λ j apart. ap value_in (written_other j (set_body new n) v xs is.0 (void_of j v.body is.1) (set_other j new n apart));
      once = written_once new.key (set_body new n) v xs is.0 (inl none) (set_own new n) once;
      laid = written_laid base (set_body new n) v xs is.0 is.2 laid;
    }

puts_over : (base n : ℕ) (new : Pair) (xs ys zs : List Placed) → ((j : List ℕ) → same_bytes j new.key ≡ false → block_of j ys ≡ block_of j xs) → Puts base new ys zs → Puts base new xs zs
puts_over base n new xs ys zs same p = record { own = p.own; other = λ j apart. p.other j apart ∙ ap value_in (same j apart); once = p.once; laid = p.laid }

puts_fit : (t : Bool) (base n : ℕ) (new : Pair) (x : Placed) (xs : List Placed) → nat_le (room_of (set_body new n)) x.extent ≡ t → block_of new.key xs ≡ Some x → KeysAreOnce xs → AreInLine base xs
    → Puts base new xs (if t then written_at x.place (set_body new n) xs else put_into base (set_body new n) (best_void (room_of (set_body new n)) xs) (voided new.key n xs))
puts_fit true base n new x xs fits found once laid =
    let s = of_stands new.key base xs x laid found in
    record {
      own = written_own new.key (set_body new n) x xs s.0.there (inr found) (set_own new n);
      other = λ j apart. ap value_in (written_other j (set_body new n) x xs s.0.there (other_key j new.key x.body s.1 apart) (set_other j new n apart));
      once = written_once new.key (set_body new n) x xs s.0.there (inr found) (set_own new n) once;
      laid = written_laid base (set_body new n) x xs s.0.there (within (room_of (set_body new n)) x.extent fits) laid;
    }
puts_fit false base n new x xs fits found once laid =
    let ys = voided new.key n xs in
    let o = best_void (room_of (set_body new n)) xs in
    puts_over base n new xs ys (put_into base (set_body new n) o ys) (λ j apart. voided_other j new.key n xs apart)
    (puts_placed base n new o ys (voided_own new.key n xs) (voided_once new.key n xs once) (voided_laid base new.key n xs laid) (λ v is.
    let best = best_stands base (room_of (set_body new n)) xs v laid is in
    (voided_spot new.key n v xs best.stands.there (void_of new.key v.body best.kind), best.kind, best.fits)))

puts_by : (base n : ℕ) (new : Pair) (o : Option Placed) (xs : List Placed) → block_of new.key xs ≡ o → KeysAreOnce xs → AreInLine base xs → Puts base new xs (put_over base new n o xs)
puts_by base n new None xs found once laid =
    puts_placed base n new (best_void (room_of (set_body new n)) xs) xs found once laid (λ v is.
    let best = best_stands base (room_of (set_body new n)) xs v laid is in (best.stands.there, best.kind, best.fits))
puts_by base n new (Some x) xs found once laid = puts_fit (nat_le (room_of (set_body new n)) x.extent) base n new x xs refl found once laid

puts : (base n : ℕ) (new : Pair) (xs : List Placed) → KeysAreOnce xs → AreInLine base xs → Puts base new xs (put_block base new n xs)
puts base n new xs once laid = puts_by base n new (block_of new.key xs) xs refl once laid

-- ---- records

records_rising : (o : Order) (xs : List Placed) → Rising o (records_in o xs)
records_rising o [] = tt
records_rising o (x ∷ xs) = step (x.body.kind == 1) x.body (records_in o xs) (records_rising o xs)
  where
    step : (t : Bool) (b : Body) (m : List Pair) → Rising o m → Rising o (if t then put o (record { key = b.key; value = b.value }) m else m)
    step true b m up = put_rising o (record { key = b.key; value = b.value }) m up
    step false b m up = up

find_if : (o : Order) (k : List ℕ) (x : Placed) (xs : List Placed) (t s : Bool) → same_bytes k x.body.key ≡ s → find k (records_in o xs) ≡ value_in (block_of k xs)
    → find k (if t then put o (record { key = x.body.key; value = x.body.value }) (records_in o xs) else records_in o xs) ≡ value_in (if t && s then Some x else block_of k xs)
find_if o k x xs false s is go = go
find_if o k x xs true true is go =
    let new : Pair = record { key = x.body.key; value = x.body.value } in
    subst (λ (j : List ℕ). find j (put o new (records_in o xs)) ≡ Some x.body.value) (sym (same_told k x.body.key is)) (find_put_same o new (records_in o xs))
find_if o k x xs true false is go = find_put_other o k (record { key = x.body.key; value = x.body.value }) (records_in o xs) is ∙ go

find_block : (o : Order) (k : List ℕ) (xs : List Placed) → find k (records_in o xs) ≡ value_in (block_of k xs)
find_block o k [] = refl
find_block o k (x ∷ xs) = find_if o k x xs (x.body.kind == 1) (same_bytes k x.body.key) refl (find_block o k xs)

put_records : (o : Order) (base n : ℕ) (new : Pair) (xs : List Placed) → KeysAreOnce xs → AreInLine base xs → records_in o (put_block base new n xs) ≡ put o new (records_in o xs)
put_records o base n new xs once laid =
    let p = puts base n new xs once laid in
    same_records o (records_in o (put_block base new n xs)) (put o new (records_in o xs)) (records_rising o (put_block base new n xs)) (put_rising o new (records_in o xs) (records_rising o xs)) (λ k. step k (so_or_not (same_bytes k new.key)) p)
  where
    step : (k : List ℕ) → (same_bytes k new.key ≡ true) ⊎ (same_bytes k new.key ≡ false) → Puts base new xs (put_block base new n xs) → find k (records_in o (put_block base new n xs)) ≡ find k (put o new (records_in o xs))
    step k (inl is) p =
        let key = same_told k new.key is in
        find_block o k (put_block base new n xs) ∙ ap (λ (j : List ℕ). value_in (block_of j (put_block base new n xs))) key ∙ p.own ∙ sym (find_put_same o new (records_in o xs)) ∙ ap (λ (j : List ℕ). find j (put o new (records_in o xs))) (sym key)
    step k (inr apart) p =
        find_block o k (put_block base new n xs) ∙ p.other k apart ∙ sym (find_block o k xs) ∙ sym (find_put_other o k new (records_in o xs) apart)

drop_records : (o : Order) (k : List ℕ) (n : ℕ) (xs : List Placed) → records_in o (voided k n xs) ≡ without k (records_in o xs)
drop_records o k n xs =
    same_records o (records_in o (voided k n xs)) (without k (records_in o xs)) (records_rising o (voided k n xs)) (one_rising o (changes.Drop k) (records_in o xs) (records_rising o xs)) (λ j. step j (so_or_not (same_bytes j k)))
  where
    step : (j : List ℕ) → (same_bytes j k ≡ true) ⊎ (same_bytes j k ≡ false) → find j (records_in o (voided k n xs)) ≡ find j (without k (records_in o xs))
    step j (inl is) =
        let key = same_told j k is in
        find_block o j (voided k n xs) ∙ ap (λ (i : List ℕ). value_in (block_of i (voided k n xs))) key ∙ ap value_in (voided_own k n xs) ∙ sym (find_without_same o k (records_in o xs) (records_rising o xs)) ∙ ap (λ (i : List ℕ). find i (without k (records_in o xs))) (sym key)
    step j (inr apart) =
        find_block o j (voided k n xs) ∙ ap value_in (voided_other j k n xs apart) ∙ sym (find_block o j xs) ∙ sym (find_without_other j k (records_in o xs) apart)

laid_one : (base n : ℕ) (c : Change) (xs : List Placed) → AreInLine base xs → KeysAreOnce xs → AreInLine base (blocks_after_one base n c xs)
laid_one base n (changes.Put new) xs laid once = (puts base n new xs once laid).laid
laid_one base n (changes.Drop k) xs laid once = voided_laid base k n xs laid
laid_one base n changes.Clear xs laid once = tt

once_one : (base n : ℕ) (c : Change) (xs : List Placed) → AreInLine base xs → KeysAreOnce xs → KeysAreOnce (blocks_after_one base n c xs)
once_one base n (changes.Put new) xs laid once = (puts base n new xs once laid).once
once_one base n (changes.Drop k) xs laid once = voided_once k n xs once
once_one base n changes.Clear xs laid once = tt

records_one : (o : Order) (base n : ℕ) (c : Change) (xs : List Placed) → AreInLine base xs → KeysAreOnce xs → records_in o (blocks_after_one base n c xs) ≡ after_one o c (records_in o xs)
records_one o base n (changes.Put new) xs laid once = put_records o base n new xs once laid
records_one o base n (changes.Drop k) xs laid once = drop_records o k n xs
records_one o base n changes.Clear xs laid once = refl

laid_all : (base n : ℕ) (cs : List Change) (xs : List Placed) → AreInLine base xs → KeysAreOnce xs → AreInLine base (blocks_after base n cs xs)
laid_all base n [] xs laid once = laid
laid_all base n (c ∷ cs) xs laid once = laid_all base n cs (blocks_after_one base n c xs) (laid_one base n c xs laid once) (once_one base n c xs laid once)

once_all : (base n : ℕ) (cs : List Change) (xs : List Placed) → AreInLine base xs → KeysAreOnce xs → KeysAreOnce (blocks_after base n cs xs)
once_all base n [] xs laid once = once
once_all base n (c ∷ cs) xs laid once = once_all base n cs (blocks_after_one base n c xs) (laid_one base n c xs laid once) (once_one base n c xs laid once)

records_all : (o : Order) (base n : ℕ) (cs : List Change) (xs : List Placed) → AreInLine base xs → KeysAreOnce xs → records_in o (blocks_after base n cs xs) ≡ after o cs (records_in o xs)
records_all o base n [] xs laid once = refl
records_all o base n (c ∷ cs) xs laid once =
    records_all o base n cs (blocks_after_one base n c xs) (laid_one base n c xs laid once) (once_one base n c xs laid once) ∙ ap (after o cs) (records_one o base n c xs laid once)

pub blocks_are_records : (o : Order) → BlocksAreRecords o
blocks_are_records o = record { laid = laid_all; once = once_all; records = records_all o; rising = records_rising o; stay = stay_changes }
