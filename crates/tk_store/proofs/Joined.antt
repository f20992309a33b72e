-- What a list of buckets, one after the other, keeps.
use Rattle.std.proofs.Common.{◌≡◌, ℕ, ◌+◌, ◌-◌, ◌*◌, ◌/◌, ◌^◌, ◌<◌, ◌≤◌, Bool, true, false, inl, inr, List, [], ◌∷◌, ◌++◌, length, take, drop, get_or, zero, suc, min, Some, None, refl, sym, ap, subst, ◌∙◌, arith, append_assoc, length-append, add-one, if◌then◌else◌}
use Rattle.std.proofs.Math.Nat.{div-mul-le_self}
use Rattle.std.proofs.lemmas.List.{length-take-le, take-append-drop, drop_more, set_split, length-set, length-replicate}
use Rattle.std.proofs.lemmas.Nat.{le-div, pow_pos}
use Rattle.std.proofs.lemmas.Bool.{cases_lt}
use Rattle.std.proofs.Math.ListN.{set, replicate}
use Rattle.std.specs.Cmp.{nat_cmp_is}
use Rattle.std.specs.Ordering.{nat_cmp, ordering_then}
use Rattle.std.specs.declared.cmp.Ordering.{Ordering}
use Rattle.std.specs.declared.cmp.Ordering.TheVariants.{Less, Equal, Greater}
use Rattle.tk_model.specs.Hashes.{mix_of, bucket_of}
use Rattle.tk_model.specs.Orders.{key_cmp, bytes_cmp, same_bytes}
use Rattle.tk_model.specs.Records.{find, put, put_by, without, AllBehind, Rising}
use Rattle.tk_model.specs.declared.record.Order.TheVariants.{Hash}
use Rattle.tk_model.specs.declared.record.Pair.{Pair}
use Rattle.tk_model.proofs.RecordLaws.{apart_less, apart_greater, flipped, put_rising, without_rising}
use Rattle.tk_store.specs.Hashed.{joined, bucket_in, AllOf, Placed, AreBuckets}
use Rattle.tk_store.specs.declared.parting.Parting.{Parting}

-- ---- keys of two buckets

no_less : (m n : ℕ) → m ≤ n → n < m → ⊥
no_less m n e f = omega arith

div_rising : (d x y : ℕ) → 0 < d → x ≤ y → x / d ≤ y / d
div_rising d x y some less =
    let e : x / d * d ≤ x = div-mul-le_self x d in
    le-div (x / d) y d some (omega arith)

lower_mix : (d x y : ℕ) → 0 < d → x / d < y / d → x < y
lower_mix d x y some below = elim (cases_lt x y) [
  | inl less ↦ less
  | inr more ↦ absurd (no_less (y / d) (x / d) (div_rising d y x some more) below)
]

pub lower_first : (p : ℕ) (a b : List ℕ) → bucket_of (mix_of a) p < bucket_of (mix_of b) p → key_cmp Hash a b ≡ Less
unfolding key_cmp
lower_first p a b below =
    let least : mix_of a < mix_of b = lower_mix (2 ^ (64 - p)) (mix_of a) (mix_of b) (pow_pos (64 - p)) below in
    let e : Less ≡ nat_cmp (mix_of a) (mix_of b) = nat_cmp_is (mix_of a) (mix_of b) Less least in
    ap (λ o. ordering_then o (bytes_cmp a b)) (sym e)

lower_part : (t c u v : ℕ) → min (t - 1) (u - c) < min (t - 1) (v - c) → u < v
lower_part t c u v below = omega arith

pub lower_in : (s : Parting) (a b : List ℕ) → bucket_in s (mix_of a) < bucket_in s (mix_of b) → key_cmp Hash a b ≡ Less
lower_in s a b below = lower_first s.depth a b (lower_part (2 ^ s.p) s.start (bucket_of (mix_of a) s.depth) (bucket_of (mix_of b) s.depth) below)

-- each key comes before this one
abbrev pub AllBefore : List ℕ → List Pair → Type 0
AllBefore k [] = Unit {0}
AllBefore k (p ∷ ps) = (key_cmp Hash p.key k ≡ Less) × AllBefore k ps

before-append : (k : List ℕ) (xs ys : List Pair) → AllBefore k xs → AllBefore k ys → AllBefore k (xs ++ ys)
before-append k [] ys some more = more
before-append k (p ∷ xs) ys some more = (some.0, before-append k xs ys some.1 more)

behind-append : (k : List ℕ) (xs ys : List Pair) → AllBehind Hash k xs → AllBehind Hash k ys → AllBehind Hash k (xs ++ ys)
behind-append k [] ys some more = more
behind-append k (p ∷ xs) ys some more = (some.0, behind-append k xs ys some.1 more)

bucket_before : (p : Parting) (i : ℕ) (k : List ℕ) (b : List Pair) → i < bucket_in p (mix_of k) → AllOf p i b → AllBefore k b
bucket_before p i k [] lower all = tt
bucket_before p i k (q ∷ b) lower all = (lower_in p q.key k (rw all.0 lower), bucket_before p i k b lower all.1)

bucket_behind : (p : Parting) (i : ℕ) (k : List ℕ) (b : List Pair) → bucket_in p (mix_of k) < i → AllOf p i b → AllBehind Hash k b
bucket_behind p i k [] lower all = tt
bucket_behind p i k (q ∷ b) lower all = (lower_in p k q.key (rw all.0 lower), bucket_behind p i k b lower all.1)

pub placed_before : (p : Parting) (i : ℕ) (k : List ℕ) (bs : List (List Pair)) → i + length bs ≤ bucket_in p (mix_of k) → Placed p i bs → AllBefore k (joined bs)
placed_before p i k [] lower placed = tt
placed_before p i k (b ∷ bs) lower placed =
    before-append k b (joined bs) (bucket_before p i k b (omega arith) placed.0) (placed_before p (i + 1) k bs (omega arith) placed.2)

pub placed_behind : (p : Parting) (i : ℕ) (k : List ℕ) (bs : List (List Pair)) → bucket_in p (mix_of k) < i → Placed p i bs → AllBehind Hash k (joined bs)
placed_behind p i k [] lower placed = tt
placed_behind p i k (b ∷ bs) lower placed =
    behind-append k b (joined bs) (bucket_behind p i k b lower placed.0) (placed_behind p (i + 1) k bs (omega arith) placed.2)

pub placed_first : (p : Parting) (i : ℕ) (front back : List (List Pair)) → Placed p i (front ++ back) → Placed p i front
placed_first p i [] back placed = tt
placed_first p i (b ∷ front) back placed = (placed.0, placed.1, placed_first p (i + 1) front back placed.2)

more_none : (i : ℕ) → i ≡ i + length {A = List Pair} []
more_none i = omega arith

pub placed_rest : (p : Parting) (i : ℕ) (front back : List (List Pair)) → Placed p i (front ++ back) → Placed p (i + length front) back
placed_rest p i [] back placed = subst (λ j. Placed p j back) (more_none i) placed
placed_rest p i (b ∷ front) back placed =
    let e : i + 1 + length front ≡ i + length (b ∷ front) = omega arith in
    subst (λ j. Placed p j back) e (placed_rest p (i + 1) front back placed.2)

placed_joined : (p : Parting) (i : ℕ) (front back : List (List Pair)) → Placed p i front → Placed p (i + length front) back → Placed p i (front ++ back)
placed_joined p i [] back first rest = subst (λ j. Placed p j back) (sym (more_none i)) rest
placed_joined p i (b ∷ front) back first rest =
    let e : i + length (b ∷ front) ≡ i + 1 + length front = omega arith in
    (first.0, first.1, placed_joined p (i + 1) front back first.2 (subst (λ j. Placed p j back) e rest))

-- ---- records of two lists

find_past : (k : List ℕ) (xs ys : List Pair) → AllBefore k xs → find k (xs ++ ys) ≡ find k ys
find_past k [] ys before = refl
find_past k (p ∷ xs) ys before = rw (apart_greater Hash k p.key (flipped Hash p.key k Less before.0)) (find_past k xs ys before.1)

none_behind : (k : List ℕ) (ys : List Pair) → AllBehind Hash k ys → find k ys ≡ None
none_behind k [] behind = refl
none_behind k (p ∷ ys) behind = rw (apart_less Hash k p.key behind.0) (none_behind k ys behind.1)

find_within : (k : List ℕ) (xs ys : List Pair) → AllBehind Hash k ys → find k (xs ++ ys) ≡ find k xs
find_within k [] ys behind = none_behind k ys behind
find_within k (p ∷ xs) ys behind = ap (λ v. if same_bytes k p.key then Some p.value else v) (find_within k xs ys behind)

pub put_past : (new : Pair) (xs ys : List Pair) → AllBefore new.key xs → put Hash new (xs ++ ys) ≡ xs ++ put Hash new ys
put_past new [] ys before = refl
put_past new (p ∷ xs) ys before =
    ap (λ c. put_by c new p (xs ++ ys) (put Hash new (xs ++ ys))) (flipped Hash p.key new.key Less before.0) ∙ ap (λ m. p ∷ m) (put_past new xs ys before.1)

put_first : (new : Pair) (ys : List Pair) → AllBehind Hash new.key ys → put Hash new ys ≡ new ∷ ys
put_first new [] behind = refl
put_first new (p ∷ ys) behind = ap (λ c. put_by c new p ys (put Hash new ys)) behind.0

put_by_within : (c : Ordering) (new p : Pair) (xs ys deep deeper : List Pair) → deep ≡ deeper ++ ys → put_by c new p (xs ++ ys) deep ≡ put_by c new p xs deeper ++ ys
put_by_within Less new p xs ys deep deeper e = refl
put_by_within Equal new p xs ys deep deeper e = refl
put_by_within Greater new p xs ys deep deeper e = ap (λ m. p ∷ m) e

put_within : (new : Pair) (xs ys : List Pair) → AllBehind Hash new.key ys → put Hash new (xs ++ ys) ≡ put Hash new xs ++ ys
put_within new [] ys behind = put_first new ys behind
put_within new (p ∷ xs) ys behind =
    put_by_within (key_cmp Hash new.key p.key) new p xs ys (put Hash new (xs ++ ys)) (put Hash new xs) (put_within new xs ys behind)

without_past : (k : List ℕ) (xs ys : List Pair) → AllBefore k xs → without k (xs ++ ys) ≡ xs ++ without k ys
without_past k [] ys before = refl
without_past k (p ∷ xs) ys before =
    rw (apart_greater Hash k p.key (flipped Hash p.key k Less before.0)) (ap (λ m. p ∷ m) (without_past k xs ys before.1))

without_none : (k : List ℕ) (ys : List Pair) → AllBehind Hash k ys → without k ys ≡ ys
without_none k [] behind = refl
without_none k (p ∷ ys) behind = rw (apart_less Hash k p.key behind.0) (ap (λ m. p ∷ m) (without_none k ys behind.1))

pick_within : (b : Bool) (p : Pair) (xs ys deep deeper : List Pair) → deep ≡ deeper ++ ys → (if b then xs ++ ys else p ∷ deep) ≡ (if b then xs else p ∷ deeper) ++ ys
pick_within true p xs ys deep deeper e = refl
pick_within false p xs ys deep deeper e = ap (λ m. p ∷ m) e

without_within : (k : List ℕ) (xs ys : List Pair) → AllBehind Hash k ys → without k (xs ++ ys) ≡ without k xs ++ ys
without_within k [] ys behind = without_none k ys behind
without_within k (p ∷ xs) ys behind = pick_within (same_bytes k p.key) p xs ys (without k (xs ++ ys)) (without k xs) (without_within k xs ys behind)

pub joined-append : (front back : List (List Pair)) → joined (front ++ back) ≡ joined front ++ joined back
joined-append [] back = refl
joined-append (b ∷ front) back = ap (λ m. b ++ m) (joined-append front back) ∙ sym (append_assoc b (joined front) (joined back))

-- ---- one bucket among all

-- the bucket with this number
pub record Stands (bs : List (List Pair)) (i : ℕ) (b : List Pair) : Type 0 where
  pub inside : i < length bs
  pub is : b ≡ get_or bs i b

-- a bucket, and how a key of it stands to the records of the others
pub record Parted (k : List ℕ) (bs : List (List Pair)) (i : ℕ) : Type 0 where
  pub before : AllBefore k (joined (take i bs))
  pub behind : AllBehind Hash k (joined (drop (i + 1) bs))

split_at : (bs : List (List Pair)) (i : ℕ) (b : List Pair) → Stands bs i b → bs ≡ take i bs ++ (b ∷ drop (i + 1) bs)
split_at bs i b at =
    sym (take-append-drop i bs) ∙ ap (λ m. take i bs ++ m) (drop_more bs i b at.inside) ∙ ap (λ a. take i bs ++ (a ∷ drop (i + 1) bs)) (sym at.is)

joined_split : (bs : List (List Pair)) (i : ℕ) (b : List Pair) → Stands bs i b → joined bs ≡ joined (take i bs) ++ (b ++ joined (drop (i + 1) bs))
joined_split bs i b at = ap joined (split_at bs i b at) ∙ joined-append (take i bs) (b ∷ drop (i + 1) bs)

set_at : (bs : List (List Pair)) (i : ℕ) (b : List Pair) → i < length bs → set bs i b ≡ take i bs ++ (b ∷ drop (i + 1) bs)
set_at bs i b inside = set_split bs i b inside ∙ ap (λ j. take i bs ++ b ∷ drop j bs) (sym (add-one i))

joined_set : (bs : List (List Pair)) (i : ℕ) (b : List Pair) → i < length bs → joined (set bs i b) ≡ joined (take i bs) ++ (b ++ joined (drop (i + 1) bs))
joined_set bs i b inside = ap joined (set_at bs i b inside) ∙ joined-append (take i bs) (b ∷ drop (i + 1) bs)

placed_around : (p : Parting) (bs : List (List Pair)) (i : ℕ) (b : List Pair) → Placed p 0 bs → Stands bs i b → Placed p 0 (take i bs) × Placed p i (b ∷ drop (i + 1) bs)
placed_around p bs i b placed at =
    let whole = subst (Placed p 0) (split_at bs i b at) placed in
    let within = at.inside in
    let e : 0 + length (take i bs) ≡ i = omega (arith, length-take-le i bs) in (
      placed_first p 0 (take i bs) (b ∷ drop (i + 1) bs) whole,
      subst (λ j. Placed p j (b ∷ drop (i + 1) bs)) e (placed_rest p 0 (take i bs) (b ∷ drop (i + 1) bs) whole),
    )

parted : (p : Parting) (k : List ℕ) (bs : List (List Pair)) (i : ℕ) (b : List Pair) → Placed p 0 bs → i ≡ bucket_in p (mix_of k) → Stands bs i b → Parted k bs i
parted p k bs i b placed is at =
    let around = placed_around p bs i b placed at in
    let within = at.inside in
    let e : length (take i bs) ≡ i = length-take-le i bs (omega arith) in
    record {
      before = placed_before p 0 k (take i bs) (omega (arith, e, is)) around.0;
      behind = placed_behind p (i + 1) k (drop (i + 1) bs) (omega (arith, is)) around.1.2;
    }

find_in_bucket : (k : List ℕ) (bs : List (List Pair)) (i : ℕ) (b : List Pair) → Stands bs i b → Parted k bs i → find k b ≡ find k (joined bs)
find_in_bucket k bs i b at part =
    let rest = joined (drop (i + 1) bs) in
    sym (ap (find k) (joined_split bs i b at) ∙ find_past k (joined (take i bs)) (b ++ rest) part.before ∙ find_within k b rest part.behind)

put_in_bucket : (new : Pair) (bs : List (List Pair)) (i : ℕ) (b : List Pair) → Stands bs i b → Parted new.key bs i → joined (set bs i (put Hash new b)) ≡ put Hash new (joined bs)
put_in_bucket new bs i b at part =
    let rest = joined (drop (i + 1) bs) in
    joined_set bs i (put Hash new b) at.inside
    ∙ sym (ap (put Hash new) (joined_split bs i b at) ∙ put_past new (joined (take i bs)) (b ++ rest) part.before
    ∙ ap (λ m. joined (take i bs) ++ m) (put_within new b rest part.behind))

without_in_bucket : (k : List ℕ) (bs : List (List Pair)) (i : ℕ) (b : List Pair) → Stands bs i b → Parted k bs i → joined (set bs i (without k b)) ≡ without k (joined bs)
without_in_bucket k bs i b at part =
    let rest = joined (drop (i + 1) bs) in
    joined_set bs i (without k b) at.inside
    ∙ sym (ap (without k) (joined_split bs i b at) ∙ without_past k (joined (take i bs)) (b ++ rest) part.before
    ∙ ap (λ m. joined (take i bs) ++ m) (without_within k b rest part.behind))

-- a bucket of other records in the place of one
placed_set : (p : Parting) (bs : List (List Pair)) (i : ℕ) (b new : List Pair) → Placed p 0 bs → Stands bs i b → AllOf p i new → Rising Hash new → Placed p 0 (set bs i new)
placed_set p bs i b new placed at all rising =
    let around = placed_around p bs i b placed at in
    let within = at.inside in
    let e : 0 + length (take i bs) ≡ i = omega (arith, length-take-le i bs) in
    let back : Placed p i (new ∷ drop (i + 1) bs) = (all, rising, around.1.2) in
    subst (Placed p 0) (sym (set_at bs i new at.inside))
    (placed_joined p 0 (take i bs) (new ∷ drop (i + 1) bs) around.0 (subst (λ j. Placed p j (new ∷ drop (i + 1) bs)) (sym e) back))

put_by_all : (p : Parting) (i : ℕ) (c : Ordering) (new q : Pair) (b deeper : List Pair) → bucket_in p (mix_of new.key) ≡ i → AllOf p i (q ∷ b) → AllOf p i deeper → AllOf p i (put_by c new q b deeper)
put_by_all p i Less new q b deeper is all more = (is, all)
put_by_all p i Equal new q b deeper is all more = (is, all.1)
put_by_all p i Greater new q b deeper is all more = (all.0, more)

put_all : (p : Parting) (i : ℕ) (new : Pair) (b : List Pair) → bucket_in p (mix_of new.key) ≡ i → AllOf p i b → AllOf p i (put Hash new b)
put_all p i new [] is all = (is, tt)
put_all p i new (q ∷ b) is all = put_by_all p i (key_cmp Hash new.key q.key) new q b (put Hash new b) is all (put_all p i new b is all.1)

pick_all : (p : Parting) (i : ℕ) (so : Bool) (q : Pair) (b deeper : List Pair) → AllOf p i (q ∷ b) → AllOf p i deeper → AllOf p i (if so then b else q ∷ deeper)
pick_all p i true q b deeper all more = all.1
pick_all p i false q b deeper all more = (all.0, more)

without_all : (p : Parting) (i : ℕ) (k : List ℕ) (b : List Pair) → AllOf p i b → AllOf p i (without k b)
without_all p i k [] all = tt
without_all p i k (q ∷ b) all = pick_all p i (same_bytes k q.key) q b (without k b) all (without_all p i k b all.1)

put_placed : (p : Parting) (new : Pair) (bs : List (List Pair)) (i : ℕ) (b : List Pair) → Placed p 0 bs → i ≡ bucket_in p (mix_of new.key) → Stands bs i b → Placed p 0 (set bs i (put Hash new b))
put_placed p new bs i b placed is at =
    let here = (placed_around p bs i b placed at).1 in
    placed_set p bs i b (put Hash new b) placed at (put_all p i new b (sym is) here.0) (put_rising Hash new b here.1)

without_placed : (p : Parting) (k : List ℕ) (bs : List (List Pair)) (i : ℕ) (b : List Pair) → Placed p 0 bs → Stands bs i b → Placed p 0 (set bs i (without k b))
without_placed p k bs i b placed at =
    let here = (placed_around p bs i b placed at).1 in
    placed_set p bs i b (without k b) placed at (without_all p i k b here.0) (without_rising Hash k b here.1)

length_set : (bs : List (List Pair)) (i : ℕ) (b new : List Pair) → Stands bs i b → length (joined (set bs i new)) + length b ≡ length (joined bs) + length new
length_set bs i b new at =
    let rest = joined (drop (i + 1) bs) in
    let front = joined (take i bs) in
    let old : length (joined bs) ≡ length front + (length b + length rest) =
    ap length (joined_split bs i b at) ∙ length-append front (b ++ rest) ∙ ap (λ n. length front + n) (length-append b rest) in
    let after : length (joined (set bs i new)) ≡ length front + (length new + length rest) =
    ap length (joined_set bs i new at.inside) ∙ length-append front (new ++ rest) ∙ ap (λ n. length front + n) (length-append new rest) in
    omega arith

-- ---- empty buckets

pub joined_none : (n : ℕ) → joined (replicate n []) ≡ []
joined_none zero = refl
joined_none (suc n) = joined_none n

placed_none : (p : Parting) (i n : ℕ) → Placed p i (replicate n [])
placed_none p i zero = tt
placed_none p i (suc n) = (tt, tt, placed_none p (i + 1) n)

-- ---- all records

bucket_rising : (p : Parting) (i : ℕ) (b : List Pair) (bs : List (List Pair)) → AllOf p i b → Rising Hash b → Placed p (i + 1) bs → Rising Hash (joined bs) → Rising Hash (b ++ joined bs)
bucket_rising p i [] bs all rising placed more = more
bucket_rising p i (q ∷ b) bs all rising placed more =
    (behind-append q.key b (joined bs) rising.0 (placed_behind p (i + 1) q.key bs (omega (arith, all.0)) placed), bucket_rising p i b bs all.1 rising.1 placed more)

-- the buckets one after the other are records in order
pub joined_rising : (p : Parting) (i : ℕ) (bs : List (List Pair)) → Placed p i bs → Rising Hash (joined bs)
joined_rising p i [] placed = tt
joined_rising p i (b ∷ bs) placed = bucket_rising p i b bs placed.0 placed.1 placed.2 (joined_rising p (i + 1) bs placed.2)

-- ---- all buckets, with one changed

stands : (p : Parting) (bs : List (List Pair)) (count i : ℕ) (b : List Pair) → AreBuckets p bs count → i < 2 ^ p.p → b ≡ get_or bs i b → Stands bs i b
stands p bs count i b are below is = record { inside = subst (λ n. i < n) (sym are.number) below; is = is }

-- a changed bucket, of other records and another number of them
changed : (p : Parting) (bs : List (List Pair)) (count more i : ℕ) (b new : List Pair) → AreBuckets p bs count → Stands bs i b → Placed p 0 (set bs i new) → more + length b ≡ count + length new
    → AreBuckets p (set bs i new) more
changed p bs count more i b new are at placed counted =
    let lengths = length_set bs i b new at in
    let was : count ≡ length (joined bs) = are.counted in
    record {
      power = are.power;
      depth = are.depth;
      number = length-set bs i new ∙ are.number;
      placed = placed;
      counted = omega arith;
    }

pub found : (p : Parting) (k : List ℕ) (bs : List (List Pair)) (count i : ℕ) (b : List Pair) → AreBuckets p bs count → i ≡ bucket_in p (mix_of k) → i < 2 ^ p.p → b ≡ get_or bs i b
    → find k b ≡ find k (joined bs)
found p k bs count i b are of_key below is =
    let at = stands p bs count i b are below is in
    find_in_bucket k bs i b at (parted p k bs i b are.placed of_key at)

pub put_joined : (p : Parting) (new : Pair) (bs : List (List Pair)) (count i : ℕ) (b after : List Pair) → AreBuckets p bs count → i ≡ bucket_in p (mix_of new.key) → i < 2 ^ p.p → b ≡ get_or bs i b
    → after ≡ put Hash new b → joined (set bs i after) ≡ put Hash new (joined bs)
put_joined p new bs count i b after are of_key below is e =
    let at = stands p bs count i b are below is in
    ap (λ m. joined (set bs i m)) e ∙ put_in_bucket new bs i b at (parted p new.key bs i b are.placed of_key at)

pub put_kept : (p : Parting) (new : Pair) (bs : List (List Pair)) (count more i : ℕ) (b after : List Pair) → AreBuckets p bs count → i ≡ bucket_in p (mix_of new.key) → i < 2 ^ p.p → b ≡ get_or bs i b
    → after ≡ put Hash new b → more + length b ≡ count + length after → AreBuckets p (set bs i after) more
put_kept p new bs count more i b after are of_key below is e counted =
    let at = stands p bs count i b are below is in
    changed p bs count more i b after are at (subst (λ m. Placed p 0 (set bs i m)) (sym e) (put_placed p new bs i b are.placed of_key at)) counted

pub without_joined : (p : Parting) (k : List ℕ) (bs : List (List Pair)) (count i : ℕ) (b after : List Pair) → AreBuckets p bs count → i ≡ bucket_in p (mix_of k) → i < 2 ^ p.p → b ≡ get_or bs i b
    → after ≡ without k b → joined (set bs i after) ≡ without k (joined bs)
without_joined p k bs count i b after are of_key below is e =
    let at = stands p bs count i b are below is in
    ap (λ m. joined (set bs i m)) e ∙ without_in_bucket k bs i b at (parted p k bs i b are.placed of_key at)

pub without_kept : (p : Parting) (k : List ℕ) (bs : List (List Pair)) (count more i : ℕ) (b after : List Pair) → AreBuckets p bs count → i < 2 ^ p.p → b ≡ get_or bs i b
    → after ≡ without k b → more + length b ≡ count + length after → AreBuckets p (set bs i after) more
without_kept p k bs count more i b after are below is e counted =
    let at = stands p bs count i b are below is in
    changed p bs count more i b after are at (subst (λ m. Placed p 0 (set bs i m)) (sym e) (without_placed p k bs i b are.placed at)) counted

-- a bucket holds no more than all
pub bucket_within : (p : Parting) (bs : List (List Pair)) (count i : ℕ) (b : List Pair) → AreBuckets p bs count → i < 2 ^ p.p → b ≡ get_or bs i b → length b ≤ count
bucket_within p bs count i b are below is =
    let at = stands p bs count i b are below is in
    let lengths = length_set bs i b [] at in
    let was : count ≡ length (joined bs) = are.counted in
    omega arith

-- no record in any bucket
pub empty_kept : (p : Parting) (n : ℕ) (bs : List (List Pair)) → p.p ≤ 24 → p.depth ≤ 48 → n ≡ 2 ^ p.p → bs ≡ replicate n [] → AreBuckets p bs 0
empty_kept p n bs power depth number e = record {
  power = power;
  depth = depth;
  number = ap (λ (m : List (List Pair)). length m) e ∙ length-replicate n [] ∙ number;
  placed = subst (Placed p 0) (sym e) (placed_none p 0 n);
  counted = sym (ap (λ (m : List (List Pair)). length (joined m)) e ∙ ap length (joined_none n));
}
