-- A leaf that is split part by part.
use Rattle.std.proofs.Common.{◌≡◌, ℕ, zero, suc, ◌+◌, ◌≤◌, ◌^◌, Bool, true, false, if◌then◌else◌, List, [], ◌∷◌, ◌++◌, length, take, drop, Option, Some, None, Result, Ok, Err, IfOk, refl, sym, ap, subst, ◌∙◌, append_assoc, arith, length-take, length-drop, sum_by}
use Rattle.std.specs.Prelude.{slice_get}
use Rattle.std.proofs.lemmas.List.{map-append, take-append-drop}
use Rattle.std.proofs.lemmas.List.Sums.{sum_by-append}
use Rattle.tk_model.specs.declared.record.Pair.{Pair}
use Rattle.tk_model.specs.declared.error.NoMemory.{NoMemory}
use Rattle.tk_tree.specs.Tree.{Leaf}
use Rattle.tk_tree.specs.Formed.{pair_size, leaf_size}
use Rattle.tk_tree.specs.Put.{SplitPage, is_long, half_of, least_key, joined, leaf_alone, split_leaf}
use Rattle.tk_tree.specs.Parts.{leaf_part, part_of, leaf_parts, Splits}
use Rattle.tk_tree.specs.declared.split.LeafPart.{LeafPart}
use Rattle.tk_tree.proofs.Parts.{chosen}
use Rattle.tk_tree.proofs.LeafSplits.{half_inside}

same_choice : {A : Type 0} (b : Bool) {x y : A} (z : A) → (b ≡ true → x ≡ y) → (if b then x else z) ≡ (if b then y else z)
same_choice true z so = so refl
same_choice false z so = refl

chosen_so : {A : Type 0} (b : Bool) (x y : A) → b ≡ true → (if b then x else y) ≡ x
chosen_so true x y so = refl
chosen_so false x y so = absurd (cc)

chosen_not : {A : Type 0} (b : Bool) (x y : A) → b ≡ false → (if b then x else y) ≡ y
chosen_not true x y not = absurd (cc)
chosen_not false x y not = refl

-- more fuel changes nothing
enough : (a b number : ℕ) (ps : List Pair) (next : ℕ) → length ps ≤ a → length ps ≤ b → split_leaf a number ps next ≡ split_leaf b number ps next
enough zero zero number ps next in_a in_b = refl
enough zero (suc b) number [] next in_a in_b = refl
enough zero (suc b) number (p ∷ ps) next in_a in_b = absurd (omega arith)
enough (suc a) zero number [] next in_a in_b = refl
enough (suc a) zero number (p ∷ ps) next in_a in_b = absurd (omega arith)
enough (suc a) (suc b) number ps next in_a in_b =
    same_choice (is_long ps) (leaf_alone number ps next) (λ long.
    let h = half_inside ps long in
    let front = enough a b number (take (half_of ps) ps) (next + 1) (omega (arith, h.1, length-take (half_of ps) ps)) (omega (arith, h.1, length-take (half_of ps) ps)) in
    ap (λ (x : SplitPage Leaf). joined x (least_key (drop (half_of ps) ps)) (split_leaf a next (drop (half_of ps) ps) x.next)) front
    ∙ ap (λ (y : SplitPage Leaf). joined (split_leaf b number (take (half_of ps) ps) (next + 1)) (least_key (drop (half_of ps) ps)) y)
    (enough a b next (drop (half_of ps) ps) (split_leaf b number (take (half_of ps) ps) (next + 1)).next (omega (arith, h.0, length-drop (half_of ps) ps)) (omega (arith, h.0, length-drop (half_of ps) ps))))

-- the pages of a leaf that is too long
abbrev pub in_two : (number : ℕ) → List Pair → (next : ℕ) → SplitPage Leaf
in_two number ps next =
    let a = split_leaf (length (take (half_of ps) ps)) number (take (half_of ps) ps) (next + 1) in
    joined a (least_key (drop (half_of ps) ps)) (split_leaf (length (drop (half_of ps) ps)) next (drop (half_of ps) ps) a.next)

some_fuel : (number : ℕ) (ps : List Pair) (next n : ℕ) → length ps ≡ suc n → is_long ps ≡ true → split_leaf (suc n) number ps next ≡ in_two number ps next
some_fuel number ps next n is long =
    let h = half_inside ps long in
    let front = enough n (length (take (half_of ps) ps)) number (take (half_of ps) ps) (next + 1) (omega (arith, h.1, length-take (half_of ps) ps)) (omega arith) in
    chosen_so (is_long ps) (let a = split_leaf n number (take (half_of ps) ps) (next + 1) in joined a (least_key (drop (half_of ps) ps)) (split_leaf n next (drop (half_of ps) ps) a.next)) (leaf_alone number ps next) long
    ∙ ap (λ (x : SplitPage Leaf). joined x (least_key (drop (half_of ps) ps)) (split_leaf n next (drop (half_of ps) ps) x.next)) front
    ∙ ap (λ (y : SplitPage Leaf). joined (split_leaf (length (take (half_of ps) ps)) number (take (half_of ps) ps) (next + 1)) (least_key (drop (half_of ps) ps)) y)
    (enough n (length (drop (half_of ps) ps)) next (drop (half_of ps) ps) (split_leaf (length (take (half_of ps) ps)) number (take (half_of ps) ps) (next + 1)).next (omega (arith, h.0, length-drop (half_of ps) ps)) (omega arith))

long_split : (number : ℕ) (ps : List Pair) (next : ℕ) → is_long ps ≡ true → split_leaf (length ps) number ps next ≡ in_two number ps next
long_split number [] next long = absurd (cc)
long_split number (p ∷ ps) next long = some_fuel number (p ∷ ps) next (length ps) refl long

by_fuel : (fuel number : ℕ) (ps : List Pair) (next : ℕ) → is_long ps ≡ false → split_leaf fuel number ps next ≡ leaf_alone number ps next
by_fuel zero number ps next short = refl
by_fuel (suc fuel) number ps next short =
    chosen_not (is_long ps) (let a = split_leaf fuel number (take (half_of ps) ps) (next + 1) in joined a (least_key (drop (half_of ps) ps)) (split_leaf fuel next (drop (half_of ps) ps) a.next)) (leaf_alone number ps next) short

next_grows : (fuel number : ℕ) (ps : List Pair) (next : ℕ) → next ≤ (split_leaf fuel number ps next).next
next_grows zero number ps next = omega arith
next_grows (suc fuel) number ps next =
    let a = split_leaf fuel number (take (half_of ps) ps) (next + 1) in
    chosen (λ (x : SplitPage Leaf). next ≤ x.next) (is_long ps) (joined a (least_key (drop (half_of ps) ps)) (split_leaf fuel next (drop (half_of ps) ps) a.next)) (leaf_alone number ps next)
    (λ _. omega (arith, next_grows fuel number (take (half_of ps) ps) (next + 1), next_grows fuel next (drop (half_of ps) ps) a.next)) (λ _. omega arith)

parts_joined : (key least : List ℕ) (a b : SplitPage Leaf) → leaf_parts key (joined a least b) ≡ leaf_parts key a ++ leaf_parts least b
parts_joined key least a b = ap (λ l. leaf_part key a.first ∷ l) (map-append part_of a.rest (record { key = least; tree = b.first } ∷ b.rest))

-- ---- what the code does

pub alone_splits : (number : ℕ) (key : List ℕ) (ps : List Pair) (next : ℕ) (old new : List LeafPart) → is_long ps ≡ false → new ≡ old ++ record { number = number; key = key; pairs = ps } ∷ []
    → Splits key (split_leaf (length ps) number ps next) old new (Some next)
alone_splits number key ps next old new short is =
    let e = by_fuel (length ps) number ps next short in (sym (ap (λ (b : SplitPage Leaf). b.next) e), is ∙ ap (λ (b : SplitPage Leaf). old ++ leaf_parts key b) (sym e))

-- no number is left for the second part
pub last_splits : (number : ℕ) (key : List ℕ) (ps : List Pair) (next : ℕ) (old new : List LeafPart) → is_long ps ≡ true → 2 ^ 64 ≤ next + 1 → Splits key (split_leaf (length ps) number ps next) old new None
last_splits number key ps next old new long past =
    let a = split_leaf (length (take (half_of ps) ps)) number (take (half_of ps) ps) (next + 1) in
    omega (arith, ap (λ (b : SplitPage Leaf). b.next) (long_split number ps next long), next_grows (length (take (half_of ps) ps)) number (take (half_of ps) ps) (next + 1), next_grows (length (drop (half_of ps) ps)) next (drop (half_of ps) ps) a.next)

pub first_past : (number : ℕ) (key : List ℕ) (ps : List Pair) (next : ℕ) (old mid new : List LeafPart) → is_long ps ≡ true
    → Splits key (split_leaf (length (take (half_of ps) ps)) number (take (half_of ps) ps) (next + 1)) old mid None → Splits key (split_leaf (length ps) number ps next) old new None
first_past number key ps next old mid new long past =
    let a = split_leaf (length (take (half_of ps) ps)) number (take (half_of ps) ps) (next + 1) in
    omega (arith, ap (λ (b : SplitPage Leaf). b.next) (long_split number ps next long), past, next_grows (length (drop (half_of ps) ps)) next (drop (half_of ps) ps) a.next)

both_by : (key least : List ℕ) (a b : SplitPage Leaf) (old mid new : List LeafPart) (o : Option ℕ) → mid ≡ old ++ leaf_parts key a → Splits least b mid new o → Splits key (joined a least b) old new o
both_by key least a b old mid new None is second = second
both_by key least a b old mid new (Some n) is second =
    (second.0, second.1 ∙ ap (λ l. l ++ leaf_parts least b) is ∙ append_assoc old (leaf_parts key a) (leaf_parts least b) ∙ ap (λ l. old ++ l) (sym (parts_joined key least a b)))

pub both_split : (number : ℕ) (key least : List ℕ) (ps front back : List Pair) (next after past : ℕ) (old mid new : List LeafPart) (o : Option ℕ) → is_long ps ≡ true → front ≡ take (half_of ps) ps → back ≡ drop (half_of ps) ps → after ≡ next + 1 → least ≡ least_key back
    → Splits key (split_leaf (length front) number front after) old mid (Some past) → Splits least (split_leaf (length back) next back past) mid new o → Splits key (split_leaf (length ps) number ps next) old new o
both_split number key least ps front back next after past old mid new o long front_is back_is after_is least_is first second =
    let a = split_leaf (length front) number front after in
    let b = split_leaf (length back) next back past in
    let whole : joined a least b ≡ split_leaf (length ps) number ps next =
    ap (λ (n : ℕ). joined a least (split_leaf (length back) next back n)) first.0
    ∙ ap (λ (l : List ℕ). joined a l (split_leaf (length back) next back a.next)) least_is
    ∙ ap (λ (q : List Pair). joined a (least_key q) (split_leaf (length q) next q a.next)) back_is
    ∙ ap (λ (n : ℕ). let x = split_leaf (length front) number front n in joined x (least_key (drop (half_of ps) ps)) (split_leaf (length (drop (half_of ps) ps)) next (drop (half_of ps) ps) x.next)) after_is
    ∙ ap (λ (q : List Pair). let x = split_leaf (length q) number q (next + 1) in joined x (least_key (drop (half_of ps) ps)) (split_leaf (length (drop (half_of ps) ps)) next (drop (half_of ps) ps) x.next)) front_is
    ∙ sym (long_split number ps next long) in
    subst (λ (x : SplitPage Leaf). Splits key x old new o) whole (both_by key least a b old mid new o first.1 second)

-- the bytes of a part
pub back_small : (h : ℕ) (ps : List Pair) → leaf_size (drop h ps) ≤ leaf_size ps
back_small h ps = omega (arith, sum_by-append pair_size (take h ps) (drop h ps), ap (λ l. sum_by pair_size l) (take-append-drop h ps))

pub front_small : (h : ℕ) (ps : List Pair) → leaf_size (take h ps) ≤ leaf_size ps
front_small h ps = omega (arith, sum_by-append pair_size (take h ps) (drop h ps), ap (λ l. sum_by pair_size l) (take-append-drop h ps))

pub least_at : (ps : List Pair) (p : Pair) → slice_get ps 0 ≡ Some p → p.key ≡ least_key ps
least_at [] p is = absurd (cc)
least_at (q ∷ ps) p is = let e : q ≡ p = cc in ap (λ (x : Pair). x.key) (sym e)

pub both_answer : (number : ℕ) (key least : List ℕ) (ps front back : List Pair) (next after past : ℕ) (old mid new : List LeafPart) (result : Result (Option ℕ) NoMemory) → is_long ps ≡ true → front ≡ take (half_of ps) ps → back ≡ drop (half_of ps) ps → after ≡ next + 1 → least ≡ least_key back
    → Splits key (split_leaf (length front) number front after) old mid (Some past) → IfOk result (Splits least (split_leaf (length back) next back past) mid new) → IfOk result (Splits key (split_leaf (length ps) number ps next) old new)
both_answer number key least ps front back next after past old mid new (Ok o) long front_is back_is after_is least_is first second =
    both_split number key least ps front back next after past old mid new o long front_is back_is after_is least_is first second
both_answer number key least ps front back next after past old mid new (Err e) long front_is back_is after_is least_is first second = tt
