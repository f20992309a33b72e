-- A leaf that is split keeps its records, and no part is too long.
use Rattle.std.proofs.Common.{◌≡◌, ℕ, zero, suc, ◌+◌, ◌*◌, ◌-◌, ◌≤◌, ◌<◌, true, false, List, [], ◌∷◌, ◌++◌, length, take, drop, Option, Some, None, sym, ap, subst, ◌∙◌, arith, length-take, length-drop}
use Rattle.std.specs.Prelude.{nat_le, nat_lt}
use Rattle.std.proofs.lemmas.List.{append-nil, take-append-drop}
use Rattle.std.proofs.lemmas.Bool.Decides.{nat_tests}
use Rattle.std.specs.Ordering.{is_le}
use Rattle.std.specs.declared.cmp.Ordering.TheVariants.{Less}
use Rattle.tk_model.specs.Orders.{key_cmp}
use Rattle.tk_model.specs.Records.{Rising, AllBehind}
use Rattle.tk_model.specs.declared.record.Order.{Order}
use Rattle.tk_model.specs.declared.record.Pair.{Pair}
use Rattle.tk_model.proofs.KeyOrders.{keys_equal}
use Rattle.tk_tree.specs.Tree.{records_of}
use Rattle.tk_tree.specs.Formed.{Between, AllBetween, FitsLeaf, pair_size, leaf_size, IsWithin}
use Rattle.tk_tree.specs.Put.{is_long, half_from, half_of, least_key, joined, leaf_alone, split_leaf}
use Rattle.tk_tree.proofs.Parts.{chosen, parts, parts_joined, Past, IsRun, run_joined, farther_past}

-- ---- the records

pub split_records : (fuel number : ℕ) (ps : List Pair) (next : ℕ) → parts (records_of 0) (split_leaf fuel number ps next) ≡ ps
split_records zero number ps next = append-nil ps
split_records (suc fuel) number ps next =
    chosen (λ b. parts (records_of 0) b ≡ ps) (is_long ps)
    (let a = split_leaf fuel number (take (half_of ps) ps) (next + 1) in joined a (least_key (drop (half_of ps) ps)) (split_leaf fuel next (drop (half_of ps) ps) a.next))
    (leaf_alone number ps next)
    (λ long. let a = split_leaf fuel number (take (half_of ps) ps) (next + 1) in let b = split_leaf fuel next (drop (half_of ps) ps) a.next in
    parts_joined (records_of 0) a b (least_key (drop (half_of ps) ps))
    ∙ ap (λ l. l ++ parts (records_of 0) b) (split_records fuel number (take (half_of ps) ps) (next + 1))
    ∙ ap (λ l. take (half_of ps) ps ++ l) (split_records fuel next (drop (half_of ps) ps) a.next)
    ∙ take-append-drop (half_of ps) ps)
    (λ short. append-nil ps)

-- ---- the lengths

half_in : (all so_far : ℕ) (p q : Pair) (ps : List Pair) → (1 ≤ half_from all so_far (p ∷ q ∷ ps)) × (half_from all so_far (p ∷ q ∷ ps) ≤ length (q ∷ ps))
half_in all so_far p q [] =
    chosen (λ n. (1 ≤ n) × (n ≤ 1)) (nat_le all (2 * (so_far + pair_size p))) 1 1 (λ _. (omega arith, omega arith)) (λ _. (omega arith, omega arith))
half_in all so_far p q (r ∷ ps) =
    let deeper = half_in all (so_far + pair_size p) q r ps in
    chosen (λ n. (1 ≤ n) × (n ≤ length (q ∷ r ∷ ps))) (nat_le all (2 * (so_far + pair_size p))) 1 (1 + half_from all (so_far + pair_size p) (q ∷ r ∷ ps))
    (λ _. (omega arith, omega arith)) (λ _. (omega arith, omega (arith, deeper.1)))

-- what is cut is not empty on either side
pub half_inside : (ps : List Pair) → is_long ps ≡ true → (1 ≤ half_of ps) × (half_of ps < length ps)
half_inside [] long = absurd (cc)
half_inside (p ∷ []) long = absurd (cc)
half_inside (p ∷ q ∷ ps) long = let h = half_in (leaf_size (p ∷ q ∷ ps)) 5 p q ps in (h.0, omega (arith, h.1))

small : (n : ℕ) → nat_lt 2048 n ≡ false → n ≤ 2048
small n short = grind (arith, nat_tests)

pub short_fits : (ps : List Pair) → is_long ps ≡ false → FitsLeaf ps
short_fits [] short = tt
short_fits (p ∷ []) short = tt
short_fits (p ∷ q ∷ ps) short = small (leaf_size (p ∷ q ∷ ps)) short

pub one_fits : (ps : List Pair) → length ps ≤ 1 → FitsLeaf ps
one_fits [] few = tt
one_fits (p ∷ []) few = tt
one_fits (p ∷ q ∷ ps) few = absurd (omega arith)

-- ---- the bounds

behind_front : (o : Order) (k : List ℕ) (a b : List Pair) → AllBehind o k (a ++ b) → AllBehind o k a
behind_front o k [] b all = tt
behind_front o k (p ∷ a) b all = (all.0, behind_front o k a b all.1)

pub rising_front : (o : Order) (a b : List Pair) → Rising o (a ++ b) → Rising o a
rising_front o [] b rising = tt
rising_front o (p ∷ a) b rising = (behind_front o p.key a b rising.0, rising_front o a b rising.1)

pub rising_back : (o : Order) (a b : List Pair) → Rising o (a ++ b) → Rising o b
rising_back o [] b rising = rising
rising_back o (p ∷ a) b rising = rising_back o a b rising.1

behind_mid : (o : Order) (k : List ℕ) (a : List Pair) (q : Pair) (b : List Pair) → AllBehind o k (a ++ q ∷ b) → key_cmp o k q.key ≡ Less
behind_mid o k [] q b all = all.0
behind_mid o k (p ∷ a) q b all = behind_mid o k a q b all.1

-- the records in front of one stand under its key
front_between : (o : Order) (low high : Option (List ℕ)) (a : List Pair) (q : Pair) (b : List Pair) → Rising o (a ++ q ∷ b) → AllBetween o low high (a ++ q ∷ b) → AllBetween o low (Some q.key) a
front_between o low high [] q b rising all = tt
front_between o low high (p ∷ a) q b rising all = (record { from = all.0.from; under = behind_mid o p.key a q b rising.0 }, front_between o low high a q b rising.1 all.1)

back_between : (o : Order) (low high : Option (List ℕ)) (a b : List Pair) → AllBetween o low high (a ++ b) → AllBetween o low high b
back_between o low high [] b all = all
back_between o low high (p ∷ a) b all = back_between o low high a b all.1

behind_between : (o : Order) (k : List ℕ) (low high : Option (List ℕ)) (b : List Pair) → AllBehind o k b → AllBetween o low high b → AllBetween o (Some k) high b
behind_between o k low high [] behind all = tt
behind_between o k low high (p ∷ b) behind all = (record { from = ap is_le behind.0; under = all.0.under }, behind_between o k low high b behind.1 all.1)

-- what is known where records are cut in front of one
record IsCut (o : Order) (low high : Option (List ℕ)) (a : List Pair) (key : List ℕ) (b : List Pair) : Type 0 where
  pub front_rising : Rising o a
  pub front : AllBetween o low (Some key) a
  pub between : Between o low high key
  pub past : Past o low key
  pub back_rising : Rising o b
  pub back : AllBetween o (Some key) high b

cut_at : (o : Order) (low high : Option (List ℕ)) (a b : List Pair) → 1 ≤ length a → 1 ≤ length b → Rising o (a ++ b) → AllBetween o low high (a ++ b) → IsCut o low high a (least_key b) b
cut_at o low high [] b some_a some_b rising all = absurd (omega arith)
cut_at o low high (p ∷ a) [] some_a some_b rising all = absurd (omega arith)
cut_at o low high (p ∷ a) (q ∷ b) some_a some_b rising all =
    let back = back_between o low high (p ∷ a) (q ∷ b) all in
    let less : key_cmp o p.key q.key ≡ Less = behind_mid o p.key a q b rising.0 in
    let back_rising = rising_back o (p ∷ a) (q ∷ b) rising in
    record {
      front_rising = rising_front o (p ∷ a) (q ∷ b) rising;
      front = front_between o low high (p ∷ a) q b rising all;
      between = back.0;
      past = farther_past o low p.key q.key all.0.from less;
      back_rising = back_rising;
      back = (record { from = ap is_le (keys_equal o q.key); under = back.0.under }, behind_between o q.key low high b back_rising.0 back.1);
    }

run_alone : (o : Order) (low high : Option (List ℕ)) (number : ℕ) (ps : List Pair) (next : ℕ) → Rising o ps → AllBetween o low high ps → FitsLeaf ps → IsRun o (IsWithin o 0) low high (leaf_alone number ps next)
run_alone o None high number ps next rising all fits = record { children = (rising, all, fits); rise = tt; past = tt }
run_alone o (Some low) high number ps next rising all fits = record { children = (rising, all, fits); rise = tt; past = tt }

-- the parts of a leaf lie within its bounds
pub split_within : (o : Order) (low high : Option (List ℕ)) (fuel number : ℕ) (ps : List Pair) (next : ℕ) → length ps ≤ fuel → Rising o ps → AllBetween o low high ps
    → IsRun o (IsWithin o 0) low high (split_leaf fuel number ps next)
split_within o low high zero number ps next few rising all = run_alone o low high number ps next rising all (one_fits ps (omega arith))
split_within o low high (suc fuel) number ps next few rising all =
    chosen (λ b. IsRun o (IsWithin o 0) low high b) (is_long ps)
    (let a = split_leaf fuel number (take (half_of ps) ps) (next + 1) in joined a (least_key (drop (half_of ps) ps)) (split_leaf fuel next (drop (half_of ps) ps) a.next))
    (leaf_alone number ps next)
    (λ long.
    let h = half_inside ps long in
    let front_long : length (take (half_of ps) ps) ≡ half_of ps = omega (arith, h.0, h.1, length-take (half_of ps) ps) in
    let back_long : length (drop (half_of ps) ps) ≡ length ps - half_of ps = length-drop (half_of ps) ps in
    let whole = take-append-drop (half_of ps) ps in
    let cut : IsCut o low high (take (half_of ps) ps) (least_key (drop (half_of ps) ps)) (drop (half_of ps) ps) =
    cut_at o low high (take (half_of ps) ps) (drop (half_of ps) ps) (omega (arith, h.0)) (omega (arith, h.1)) (subst (λ l. Rising o l) (sym whole) rising) (subst (λ l. AllBetween o low high l) (sym whole) all) in
    let a = split_leaf fuel number (take (half_of ps) ps) (next + 1) in
    run_joined o (IsWithin o 0) low high a (least_key (drop (half_of ps) ps)) (split_leaf fuel next (drop (half_of ps) ps) a.next)
    (split_within o low (Some (least_key (drop (half_of ps) ps))) fuel number (take (half_of ps) ps) (next + 1) (omega (arith, h.1)) cut.front_rising cut.front)
    cut.between cut.past
    (split_within o (Some (least_key (drop (half_of ps) ps))) high fuel next (drop (half_of ps) ps) a.next (omega (arith, h.0)) cut.back_rising cut.back))
    (λ short. run_alone o low high number ps next rising all (short_fits ps short))
