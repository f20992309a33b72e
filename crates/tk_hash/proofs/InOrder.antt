-- Going on in hash order, bucket by bucket.
use Rattle.std.proofs.Common.{◌≡◌, ◌⊎◌, inl, inr, ℕ, zero, suc, ◌+◌, ◌*◌, ◌/◌, ◌%◌, ◌^◌, ◌<◌, ◌≤◌, Bool, true, false, cond, List, [], ◌∷◌, ◌++◌, refl, sym, ◌∙◌, ap, arith, append-nil}
use Rattle.std.specs.Prelude.{◌==◌, nat_le, nat_lt, Option, Some, None, if◌then◌else◌}
use Rattle.std.specs.Ordering.{is_lt, is_le, is_gt, is_ge}
use Rattle.std.specs.declared.cmp.Ordering.TheVariants.{Less, Greater}
use Rattle.std.proofs.lemmas.Bool.{leb-false, ltb-false, le-leb, lt-leb, lt-ltb, le-ltb, eq-eqb, ne_eqb, cases_lt, cases_eq}
use Rattle.std.proofs.lemmas.Nat.{xor_lt}
use Rattle.tk_model.specs.Hashes.{folded, fnv64_of, mix_of}
use Rattle.tk_model.proofs.Bits.{top_bits}
use Rattle.tk_model.specs.Orders.{key_cmp}
use Rattle.tk_model.specs.Records.{reaches, first_within, last_within, or_else, AllBehind, Rising}
use Rattle.tk_model.specs.declared.record.Order.TheVariants.{Hash}
use Rattle.tk_model.specs.declared.record.Way.TheVariants.{Up, Down}
use Rattle.tk_model.specs.declared.record.Bound.{Bound}
use Rattle.tk_model.specs.declared.record.Bound.TheVariants.{Edge, Over, From}
use Rattle.tk_model.specs.declared.record.Pair.{Pair}
use Rattle.tk_model.proofs.RecordLaws.{flipped}
use Rattle.tk_block.specs.Layout.{bucket_in}
use Rattle.tk_store.specs.Hashed.{start_of, end_of}
use Rattle.tk_store.proofs.Joined.{lower_first}
use Rattle.tk_hash.specs.Chain.{in_bucket}

-- the records of the buckets from one on
abbrev pub from_bucket : (p i : ℕ) → List Pair → List Pair
from_bucket p i [] = []
from_bucket p i (q ∷ qs) = if nat_le i (bucket_in p q.key) then q ∷ from_bucket p i qs else from_bucket p i qs

-- the records of the buckets below one
abbrev pub below_bucket : (p i : ℕ) → List Pair → List Pair
below_bucket p i [] = []
below_bucket p i (q ∷ qs) = if nat_lt (bucket_in p q.key) i then q ∷ below_bucket p i qs else below_bucket p i qs

-- ---- out of reach

below_start : (p : ℕ) (b : Bound) (k : List ℕ) → bucket_in p k < start_of p b → reaches Hash Up b k ≡ false
below_start p Edge k below = absurd (omega arith)
below_start p (Over j) k below = ap is_lt (flipped Hash k j Less (lower_first p k j below))
below_start p (From j) k below = ap is_le (flipped Hash k j Less (lower_first p k j below))

past_end : (p : ℕ) (b : Bound) (k : List ℕ) → bucket_in p k < 2 ^ p → end_of p b ≤ bucket_in p k → reaches Hash Down b k ≡ false
past_end p Edge k small past = absurd (omega arith)
past_end p (Over j) k small past = ap is_gt (lower_first p j k (omega (arith, past)))
past_end p (From j) k small past = ap is_ge (lower_first p j k (omega (arith, past)))

pick_first : (b : Bound) (t : Bool) (q : Pair) (kept all : List Pair) → (t ≡ false → reaches Hash Up b q.key ≡ false) → first_within Hash b kept ≡ first_within Hash b all
    → first_within Hash b (cond t (q ∷ kept) kept) ≡ first_within Hash b (q ∷ all)
pick_first b true q kept all out same = ap (λ (a : Option Pair). if reaches Hash Up b q.key then Some q else a) same
pick_first b false q kept all out same = same ∙ sym (ap (λ (r : Bool). if r then Some q else first_within Hash b all) (out refl))

-- nothing before the start is within the bound
pub from_start : (p : ℕ) (b : Bound) (m : List Pair) → first_within Hash b (from_bucket p (start_of p b) m) ≡ first_within Hash b m
from_start p b [] = refl
from_start p b (q ∷ qs) =
    pick_first b (nat_le (start_of p b) (bucket_in p q.key)) q (from_bucket p (start_of p b) qs) qs (λ no. below_start p b q.key (leb-false _ _ no)) (from_start p b qs)

or_else_none : (a : Option Pair) → or_else a None ≡ a
or_else_none (Some q) = refl
or_else_none None = refl

or_else_thrice : (a b c : Option Pair) → or_else (or_else a b) c ≡ or_else a (or_else b c)
or_else_thrice (Some q) b c = refl
or_else_thrice None b c = refl

or_else_more : (so : Bool) (q : Pair) (a b : Option Pair) → (if so then Some q else or_else a b) ≡ or_else (if so then Some q else a) b
or_else_more true q a b = refl
or_else_more false q a b = refl

pick_last : (b : Bound) (t : Bool) (q : Pair) (kept all : List Pair) → (t ≡ false → reaches Hash Down b q.key ≡ false) → last_within Hash b kept ≡ last_within Hash b all
    → last_within Hash b (cond t (q ∷ kept) kept) ≡ last_within Hash b (q ∷ all)
pick_last b true q kept all out same = ap (λ (a : Option Pair). or_else a (if reaches Hash Down b q.key then Some q else None)) same
pick_last b false q kept all out same =
    same ∙ sym (or_else_none (last_within Hash b all)) ∙ sym (ap (λ (r : Bool). or_else (last_within Hash b all) (if r then Some q else None)) (out refl))

-- nothing from the end on is within the bound
pub before_end : (p : ℕ) (b : Bound) (m : List Pair) → ((k : List ℕ) → bucket_in p k < 2 ^ p) → last_within Hash b (below_bucket p (end_of p b) m) ≡ last_within Hash b m
before_end p b [] small = refl
before_end p b (q ∷ qs) small =
    pick_last b (nat_lt (bucket_in p q.key) (end_of p b)) q (below_bucket p (end_of p b) qs) qs (λ no. past_end p b q.key (small q.key) (ltb-false _ _ no)) (before_end p b qs small)

pub first-append : (b : Bound) (xs ys : List Pair) → first_within Hash b (xs ++ ys) ≡ or_else (first_within Hash b xs) (first_within Hash b ys)
first-append b [] ys = refl
first-append b (q ∷ xs) ys =
    ap (λ (a : Option Pair). if reaches Hash Up b q.key then Some q else a) (first-append b xs ys)
    ∙ or_else_more (reaches Hash Up b q.key) q (first_within Hash b xs) (first_within Hash b ys)

pub last-append : (b : Bound) (xs ys : List Pair) → last_within Hash b (xs ++ ys) ≡ or_else (last_within Hash b ys) (last_within Hash b xs)
last-append b [] ys = sym (or_else_none (last_within Hash b ys))
last-append b (q ∷ xs) ys =
    ap (λ (a : Option Pair). or_else a (if reaches Hash Down b q.key then Some q else None)) (last-append b xs ys)
    ∙ or_else_thrice (last_within Hash b ys) (last_within Hash b xs) (if reaches Hash Down b q.key then Some q else None)

-- ---- one bucket after the other

greater_less : Greater ≡ Less → ⊥
greater_less e = cc

not_lower : (p : ℕ) (a b : List ℕ) → key_cmp Hash a b ≡ Less → bucket_in p a ≤ bucket_in p b
not_lower p a b less = elim (cases_lt (bucket_in p b) (bucket_in p a)) [
  | inl lower ↦ absurd (greater_less (sym (flipped Hash b a Less (lower_first p b a lower)) ∙ less))
  | inr here ↦ here
]

none_in : (p i : ℕ) (k : List ℕ) (m : List Pair) → i < bucket_in p k → AllBehind Hash k m → in_bucket p i m ≡ []
none_in p i k [] lower all = refl
none_in p i k (q ∷ qs) lower all =
    let least : bucket_in p k ≤ bucket_in p q.key = not_lower p k q.key all.0 in
    let other : (bucket_in p q.key == i) ≡ false = ne_eqb _ _ (λ e. omega arith) in
    rw other (none_in p i k qs lower all.1)

none_below : (p i : ℕ) (k : List ℕ) (m : List Pair) → i ≤ bucket_in p k → AllBehind Hash k m → below_bucket p i m ≡ []
none_below p i k [] lower all = refl
none_below p i k (q ∷ qs) lower all =
    let least : bucket_in p k ≤ bucket_in p q.key = not_lower p k q.key all.0 in
    let past : nat_lt (bucket_in p q.key) i ≡ false = le-ltb _ _ (omega arith) in
    rw past (none_below p i k qs lower all.1)

order : (x i : ℕ) → (x < i) ⊎ ((x ≡ i) ⊎ (i < x))
order x i = elim (cases_lt x i) [
  | inl below ↦ inl below
  | inr over ↦ elim (cases_eq x i) [
    | inl same ↦ inr (inl same)
    | inr other ↦ inr (inr (omega (arith, other)))
  ]
]

-- the records from a bucket on are its own and those from the next one on
pub from_split : (p i : ℕ) (m : List Pair) → Rising Hash m → from_bucket p i m ≡ in_bucket p i m ++ from_bucket p (i + 1) m
from_split p i [] rising = refl
from_split p i (q ∷ qs) rising =
    let x = bucket_in p q.key in
    let deeper = from_split p i qs rising.1 in
    elim (order x i) [
      | inl below ↦
          let a : nat_le i x ≡ false = lt-leb _ _ below in
          let b : (x == i) ≡ false = ne_eqb _ _ (λ e. omega (arith, e, below)) in
          let c : nat_le (i + 1) x ≡ false = lt-leb _ _ (omega (arith, below)) in
          rw (a, b, c) deeper
      | inr (inl same) ↦
          let a : nat_le i x ≡ true = le-leb _ _ (omega (arith, same)) in
          let b : (x == i) ≡ true = eq-eqb _ _ same in
          let c : nat_le (i + 1) x ≡ false = lt-leb _ _ (omega (arith, same)) in
          rw (a, b, c) (ap (λ (l : List Pair). q ∷ l) deeper)
      | inr (inr over) ↦
          let a : nat_le i x ≡ true = le-leb _ _ (omega (arith, over)) in
          let b : (x == i) ≡ false = ne_eqb _ _ (λ e. omega (arith, e, over)) in
          let c : nat_le (i + 1) x ≡ true = le-leb _ _ (omega (arith, over)) in
          let none = none_in p i q.key qs over rising.0 in
          rw (a, b, c)
          (ap (λ (l : List Pair). q ∷ l) (deeper ∙ ap (λ (l : List Pair). l ++ from_bucket p (i + 1) qs) none) ∙ ap (λ (l : List Pair). l ++ (q ∷ from_bucket p (i + 1) qs)) (sym none))
    ]

-- the records up to a bucket are those below it and its own
pub below_split : (p i : ℕ) (m : List Pair) → Rising Hash m → below_bucket p (i + 1) m ≡ below_bucket p i m ++ in_bucket p i m
below_split p i [] rising = refl
below_split p i (q ∷ qs) rising =
    let x = bucket_in p q.key in
    let deeper = below_split p i qs rising.1 in
    elim (order x i) [
      | inl below ↦
          let a : nat_lt x (i + 1) ≡ true = lt-ltb _ _ (omega (arith, below)) in
          let b : nat_lt x i ≡ true = lt-ltb _ _ below in
          let c : (x == i) ≡ false = ne_eqb _ _ (λ e. omega (arith, e, below)) in
          rw (a, b, c) (ap (λ (l : List Pair). q ∷ l) deeper)
      | inr (inl same) ↦
          let a : nat_lt x (i + 1) ≡ true = lt-ltb _ _ (omega (arith, same)) in
          let b : nat_lt x i ≡ false = le-ltb _ _ (omega (arith, same)) in
          let c : (x == i) ≡ true = eq-eqb _ _ same in
          let none = none_below p i q.key qs (omega (arith, same)) rising.0 in
          rw (a, b, c)
          (ap (λ (l : List Pair). q ∷ l) (deeper ∙ ap (λ (l : List Pair). l ++ in_bucket p i qs) none) ∙ ap (λ (l : List Pair). l ++ (q ∷ in_bucket p i qs)) (sym none))
      | inr (inr over) ↦
          let a : nat_lt x (i + 1) ≡ false = le-ltb _ _ (omega (arith, over)) in
          let b : nat_lt x i ≡ false = le-ltb _ _ (omega (arith, over)) in
          let c : (x == i) ≡ false = ne_eqb _ _ (λ e. omega (arith, e, over)) in
          rw (a, b, c) deeper
    ]

-- ---- empty buckets

pub from_later : (p i n end : ℕ) (m : List Pair) → Rising Hash m → end ≡ i + n → ((j : ℕ) → i ≤ j → j < end → in_bucket p j m ≡ []) → from_bucket p i m ≡ from_bucket p end m
from_later p i zero end m rising is none =
    let same : i ≡ end = omega (arith, is) in
    ap (λ (k : ℕ). from_bucket p k m) same
from_later p i (suc n) end m rising is none =
    from_split p i m rising ∙ ap (λ (l : List Pair). l ++ from_bucket p (i + 1) m) (none i (omega arith) (omega (arith, is)))
    ∙ from_later p (i + 1) n end m rising (omega (arith, is)) (λ j least below. none j (omega (arith, least)) below)

pub below_earlier : (p i n end : ℕ) (m : List Pair) → Rising Hash m → end ≡ i + n → ((j : ℕ) → i ≤ j → j < end → in_bucket p j m ≡ []) → below_bucket p end m ≡ below_bucket p i m
below_earlier p i zero end m rising is none =
    let same : end ≡ i = omega (arith, is) in
    ap (λ (k : ℕ). below_bucket p k m) same
below_earlier p i (suc n) end m rising is none =
    below_earlier p (i + 1) n end m rising (omega (arith, is)) (λ j least below. none j (omega (arith, least)) below)
    ∙ below_split p i m rising ∙ ap (λ (l : List Pair). below_bucket p i m ++ l) (none i (omega arith) (omega (arith, is))) ∙ append-nil (below_bucket p i m)

pub from_all : (p : ℕ) (m : List Pair) → ((k : List ℕ) → bucket_in p k < 2 ^ p) → from_bucket p (2 ^ p) m ≡ []
from_all p [] small = refl
from_all p (q ∷ qs) small =
    let over : nat_le (2 ^ p) (bucket_in p q.key) ≡ false = lt-leb _ _ (small q.key) in
    rw over (from_all p qs small)

pub below_all : (p : ℕ) (m : List Pair) → below_bucket p 0 m ≡ []
below_all p [] = refl
below_all p (q ∷ qs) =
    let none : nat_lt (bucket_in p q.key) 0 ≡ false = le-ltb _ _ (omega arith) in
    rw none (below_all p qs)

-- a mixed hash has 64 bits
folded_small : (x : ℕ) → x < 2 ^ 64 → folded x < 2 ^ 64
folded_small x small = xor_lt 64 x (x / 2 ^ 33) small (omega arith)

mix_small : (k : List ℕ) → mix_of k < 2 ^ 64
unfolding mix_of
mix_small k = folded_small (folded (folded (fnv64_of k) * 0xff51afd7ed558ccd % 2 ^ 64) * 0xc4ceb9fe1a85ec53 % 2 ^ 64) (omega arith)

pub bucket_small : (p : ℕ) (k : List ℕ) → p ≤ 24 → bucket_in p k < 2 ^ p
bucket_small p k small = top_bits (mix_of k) p small (mix_small k)
