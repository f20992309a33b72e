-- Searches from a bound, bucket by bucket.
use Rattle.std.proofs.Common.{◌≡◌, ℕ, ◌+◌, ◌-◌, ◌^◌, ◌<◌, ◌≤◌, Bool, true, false, List, [], ◌∷◌, ◌++◌, length, take, drop, get_or, Option, Some, None, refl, sym, ap, subst, ◌∙◌, arith, append-nil, if◌then◌else◌}
use Rattle.std.proofs.lemmas.List.{length-take, length-take-le, take-append-drop, drop_more, take_more, take_all}
use Rattle.std.specs.Ordering.{is_lt, is_le, is_gt, is_ge}
use Rattle.std.specs.declared.cmp.Ordering.TheVariants.{Less}
use Rattle.tk_model.specs.Hashes.{mix_of}
use Rattle.tk_model.specs.Orders.{key_cmp}
use Rattle.tk_model.specs.Records.{reaches, first_within, last_within, or_else, AllBehind}
use Rattle.tk_model.specs.declared.record.Order.TheVariants.{Hash}
use Rattle.tk_model.specs.declared.record.Way.TheVariants.{Up, Down}
use Rattle.tk_model.specs.declared.record.Bound.{Bound}
use Rattle.tk_model.specs.declared.record.Bound.TheVariants.{Edge, Over, From}
use Rattle.tk_model.specs.declared.record.Pair.{Pair}
use Rattle.tk_model.proofs.RecordLaws.{flipped}
use Rattle.tk_store.specs.Hashed.{joined, bucket_in, Placed, AreBuckets, start_in, end_in}
use Rattle.tk_store.specs.declared.parting.Parting.{Parting}
use Rattle.tk_store.proofs.Joined.{AllBefore, joined-append, placed_before, placed_behind, placed_first, placed_rest}

-- ---- of two lists

or_else_more : (so : Bool) (p : Pair) (a b : Option Pair) → (if so then Some p else or_else a b) ≡ or_else (if so then Some p else a) b
or_else_more true p a b = refl
or_else_more false p a b = refl

or_else_thrice : (a b c : Option Pair) → or_else (or_else a b) c ≡ or_else a (or_else b c)
or_else_thrice (Some p) b c = refl
or_else_thrice None b c = refl

or_else_none : (a : Option Pair) → or_else a None ≡ a
or_else_none (Some p) = refl
or_else_none None = refl

first-append : (b : Bound) (xs ys : List Pair) → first_within Hash b (xs ++ ys) ≡ or_else (first_within Hash b xs) (first_within Hash b ys)
first-append b [] ys = refl
first-append b (p ∷ xs) ys =
    ap (λ a. if reaches Hash Up b p.key then Some p else a) (first-append b xs ys)
    ∙ or_else_more (reaches Hash Up b p.key) p (first_within Hash b xs) (first_within Hash b ys)

last-append : (b : Bound) (xs ys : List Pair) → last_within Hash b (xs ++ ys) ≡ or_else (last_within Hash b ys) (last_within Hash b xs)
last-append b [] ys = sym (or_else_none (last_within Hash b ys))
last-append b (p ∷ xs) ys =
    ap (λ a. or_else a (if reaches Hash Down b p.key then Some p else None)) (last-append b xs ys)
    ∙ or_else_thrice (last_within Hash b ys) (last_within Hash b xs) (if reaches Hash Down b p.key then Some p else None)

-- ---- records out of reach

over_before : (k : List ℕ) (xs : List Pair) → AllBefore k xs → first_within Hash (Over k) xs ≡ None
over_before k [] before = refl
over_before k (p ∷ xs) before =
    let e : is_lt (key_cmp Hash k p.key) ≡ false = ap is_lt (flipped Hash p.key k Less before.0) in
    rw e (over_before k xs before.1)

from_before : (k : List ℕ) (xs : List Pair) → AllBefore k xs → first_within Hash (From k) xs ≡ None
from_before k [] before = refl
from_before k (p ∷ xs) before =
    let e : is_le (key_cmp Hash k p.key) ≡ false = ap is_le (flipped Hash p.key k Less before.0) in
    rw e (from_before k xs before.1)

over_behind : (k : List ℕ) (ys : List Pair) → AllBehind Hash k ys → last_within Hash (Over k) ys ≡ None
over_behind k [] behind = refl
over_behind k (p ∷ ys) behind =
    let e : is_gt (key_cmp Hash k p.key) ≡ false = ap is_gt behind.0 in
    rw (e, over_behind k ys behind.1) refl

from_behind : (k : List ℕ) (ys : List Pair) → AllBehind Hash k ys → last_within Hash (From k) ys ≡ None
from_behind k [] behind = refl
from_behind k (p ∷ ys) behind =
    let e : is_ge (key_cmp Hash k p.key) ≡ false = ap is_ge behind.0 in
    rw (e, from_behind k ys behind.1) refl

-- ---- from the bucket of the bound

joined_cut : (bs : List (List Pair)) (i : ℕ) → joined bs ≡ joined (take i bs) ++ joined (drop i bs)
joined_cut bs i = ap joined (sym (take-append-drop i bs)) ∙ joined-append (take i bs) (drop i bs)

cut_before : (p : Parting) (bs : List (List Pair)) (count : ℕ) (k : List ℕ) → AreBuckets p bs count → AllBefore k (joined (take (bucket_in p (mix_of k)) bs))
cut_before p bs count k are =
    let i = bucket_in p (mix_of k) in
    let whole = subst (Placed p 0) (sym (take-append-drop i bs)) are.placed in
    placed_before p 0 k (take i bs) (omega (arith, length-take i bs)) (placed_first p 0 (take i bs) (drop i bs) whole)

cut_behind : (p : Parting) (bs : List (List Pair)) (count : ℕ) (k : List ℕ) → AreBuckets p bs count → bucket_in p (mix_of k) + 1 ≤ 2 ^ p.p → AllBehind Hash k (joined (drop (bucket_in p (mix_of k) + 1) bs))
cut_behind p bs count k are within =
    let i = bucket_in p (mix_of k) + 1 in
    let whole = subst (Placed p 0) (sym (take-append-drop i bs)) are.placed in
    let number = are.number in
    let e : 0 + length (take i bs) ≡ bucket_in p (mix_of k) + 1 = omega (arith, length-take-le i bs) in
    placed_behind p i k (drop i bs) (omega arith) (subst (λ j. Placed p j (drop i bs)) e (placed_rest p 0 (take i bs) (drop i bs) whole))

skipped : (b : Bound) (xs ys : List Pair) → first_within Hash b xs ≡ None → first_within Hash b (xs ++ ys) ≡ first_within Hash b ys
skipped b xs ys e = first-append b xs ys ∙ ap (λ a. or_else a (first_within Hash b ys)) e

left_out : (b : Bound) (xs ys : List Pair) → last_within Hash b ys ≡ None → last_within Hash b (xs ++ ys) ≡ last_within Hash b xs
left_out b xs ys e = last-append b xs ys ∙ ap (λ a. or_else a (last_within Hash b xs)) e

-- nothing before the start is within the bound
pub from_start : (p : Parting) (bs : List (List Pair)) (count : ℕ) (b : Bound) → AreBuckets p bs count → first_within Hash b (joined (drop (start_in p b) bs)) ≡ first_within Hash b (joined bs)
from_start p bs count Edge are = refl
from_start p bs count (Over k) are =
    let i = bucket_in p (mix_of k) in
    sym (ap (first_within Hash (Over k)) (joined_cut bs i) ∙ skipped (Over k) (joined (take i bs)) (joined (drop i bs)) (over_before k (joined (take i bs)) (cut_before p bs count k are)))
from_start p bs count (From k) are =
    let i = bucket_in p (mix_of k) in
    sym (ap (first_within Hash (From k)) (joined_cut bs i) ∙ skipped (From k) (joined (take i bs)) (joined (drop i bs)) (from_before k (joined (take i bs)) (cut_before p bs count k are)))

-- nothing from the end on is within the bound
pub before_end : (p : Parting) (bs : List (List Pair)) (count : ℕ) (b : Bound) → AreBuckets p bs count → end_in p b ≤ 2 ^ p.p → last_within Hash b (joined (take (end_in p b) bs)) ≡ last_within Hash b (joined bs)
before_end p bs count Edge are within =
    let number = are.number in
    ap (λ m. last_within Hash Edge (joined m)) (take_all (2 ^ p.p) bs (omega arith))
before_end p bs count (Over k) are within =
    let i = bucket_in p (mix_of k) + 1 in
    sym (ap (last_within Hash (Over k)) (joined_cut bs i) ∙ left_out (Over k) (joined (take i bs)) (joined (drop i bs)) (over_behind k (joined (drop i bs)) (cut_behind p bs count k are within)))
before_end p bs count (From k) are within =
    let i = bucket_in p (mix_of k) + 1 in
    sym (ap (last_within Hash (From k)) (joined_cut bs i) ∙ left_out (From k) (joined (take i bs)) (joined (drop i bs)) (from_behind k (joined (drop i bs)) (cut_behind p bs count k are within)))

-- ---- one bucket after the other

next_bucket : (bs : List (List Pair)) (i : ℕ) (b : List Pair) → i < length bs → b ≡ get_or bs i b → joined (drop i bs) ≡ b ++ joined (drop (i + 1) bs)
next_bucket bs i b inside is = ap joined (drop_more bs i b inside) ∙ ap (λ a. a ++ joined (drop (i + 1) bs)) (sym is)

pub first_here : (bound : Bound) (bs : List (List Pair)) (i : ℕ) (b : List Pair) (p : Pair) → i < length bs → b ≡ get_or bs i b → Some p ≡ first_within Hash bound b
    → Some p ≡ first_within Hash bound (joined (drop i bs))
first_here bound bs i b p inside is e =
    let rest = joined (drop (i + 1) bs) in
    ap (λ a. or_else a (first_within Hash bound rest)) e ∙ sym (ap (first_within Hash bound) (next_bucket bs i b inside is) ∙ first-append bound b rest)

pub first_later : (bound : Bound) (bs : List (List Pair)) (i : ℕ) (b : List Pair) → i < length bs → b ≡ get_or bs i b → first_within Hash bound b ≡ None
    → first_within Hash bound (joined (drop (i + 1) bs)) ≡ first_within Hash bound (joined (drop i bs))
first_later bound bs i b inside is e =
    sym (ap (first_within Hash bound) (next_bucket bs i b inside is) ∙ skipped bound b (joined (drop (i + 1) bs)) e)

end_bucket : (bs : List (List Pair)) (i : ℕ) (b : List Pair) → 0 < i → i ≤ length bs → b ≡ get_or bs (i - 1) b → joined (take i bs) ≡ joined (take (i - 1) bs) ++ b
end_bucket bs i b some inside is =
    let back : i - 1 + 1 ≡ i = omega arith in
    ap (λ j. joined (take j bs)) (sym back) ∙ ap joined (take_more bs (i - 1) b (omega arith)) ∙ joined-append (take (i - 1) bs) (get_or bs (i - 1) b ∷ [])
    ∙ ap (λ a. joined (take (i - 1) bs) ++ a) (append-nil (get_or bs (i - 1) b) ∙ sym is)

pub last_here : (bound : Bound) (bs : List (List Pair)) (i : ℕ) (b : List Pair) (p : Pair) → 0 < i → i ≤ length bs → b ≡ get_or bs (i - 1) b → Some p ≡ last_within Hash bound b
    → Some p ≡ last_within Hash bound (joined (take i bs))
last_here bound bs i b p some inside is e =
    let rest = joined (take (i - 1) bs) in
    ap (λ a. or_else a (last_within Hash bound rest)) e ∙ sym (ap (last_within Hash bound) (end_bucket bs i b some inside is) ∙ last-append bound rest b)

pub last_earlier : (bound : Bound) (bs : List (List Pair)) (i : ℕ) (b : List Pair) → 0 < i → i ≤ length bs → b ≡ get_or bs (i - 1) b → last_within Hash bound b ≡ None
    → last_within Hash bound (joined (take (i - 1) bs)) ≡ last_within Hash bound (joined (take i bs))
last_earlier bound bs i b some inside is e =
    sym (ap (last_within Hash bound) (end_bucket bs i b some inside is) ∙ left_out bound (joined (take (i - 1) bs)) b e)
