-- What a search along children finds is what all records have.
use Rattle.std.proofs.Common.{◌≡◌, ℕ, zero, suc, Bool, true, false, if◌then◌else◌, List, [], ◌∷◌, ◌++◌, Option, Some, None, refl, sym, ap, ◌∙◌}
use Rattle.std.proofs.lemmas.List.{append-nil}
use Rattle.std.specs.Ordering.{is_le, is_lt, is_gt, is_ge}
use Rattle.std.specs.declared.cmp.Ordering.{Ordering}
use Rattle.std.specs.declared.cmp.Ordering.TheVariants.{Less, Equal, Greater}
use Rattle.tk_model.specs.Orders.{key_cmp}
use Rattle.tk_model.specs.Records.{reaches, or_else, first_within, last_within}
use Rattle.tk_model.specs.declared.record.Way.TheVariants.{Up, Down}
use Rattle.tk_model.specs.declared.record.Order.{Order}
use Rattle.tk_model.specs.declared.record.Bound.{Bound}
use Rattle.tk_model.specs.declared.record.Bound.TheVariants.{Edge, Over, From as At}
use Rattle.tk_model.specs.declared.record.Pair.{Pair}
use Rattle.tk_model.proofs.RecordLaws.{flipped}
use Rattle.tk_tree.specs.Tree.{KeyedChild, Tree, over, records_of}
use Rattle.tk_tree.specs.Formed.{AllBetween, ChildrenWithin, IsWithin}
use Rattle.tk_tree.specs.Search.{starts_past, ends_before, next_over, prev_over, next_in, prev_in}
use Rattle.tk_tree.proofs.Keys.{less_le, le_le}
use Rattle.tk_tree.proofs.Lookups.{children_between, records_between}

or_more : (b : Bool) (p : Pair) (x y : Option Pair) → (if b then Some p else or_else x y) ≡ or_else (if b then Some p else x) y
or_more true p x y = refl
or_more false p x y = refl

first_append : (o : Order) (b : Bound) (ps qs : List Pair) → first_within o b (ps ++ qs) ≡ or_else (first_within o b ps) (first_within o b qs)
first_append o b [] qs = refl
first_append o b (p ∷ ps) qs =
    ap (λ x. if reaches o Up b p.key then Some p else x) (first_append o b ps qs) ∙ or_more (reaches o Up b p.key) p (first_within o b ps) (first_within o b qs)

or_assoc : (x y z : Option Pair) → or_else (or_else x y) z ≡ or_else x (or_else y z)
or_assoc None y z = refl
or_assoc (Some p) y z = refl

or_none : (x : Option Pair) → or_else x None ≡ x
or_none None = refl
or_none (Some p) = refl

last_append : (o : Order) (b : Bound) (ps qs : List Pair) → last_within o b (ps ++ qs) ≡ or_else (last_within o b qs) (last_within o b ps)
last_append o b [] qs = sym (or_none (last_within o b qs))
last_append o b (p ∷ ps) qs =
    ap (λ x. or_else x (if reaches o Down b p.key then Some p else None)) (last_append o b ps qs)
    ∙ or_assoc (last_within o b qs) (last_within o b ps) (if reaches o Down b p.key then Some p else None)

-- ---- nothing within

unreached_up : (o : Order) (b : Bound) (key k : List ℕ) → starts_past o b key ≡ true → key_cmp o k key ≡ Less → reaches o Up b k ≡ false
unreached_up o Edge key k past less = absurd (cc)
unreached_up o (Over b) key k past less = ap is_lt (flipped o k b Less (less_le o k key b less past))
unreached_up o (At b) key k past less = ap is_le (flipped o k b Less (less_le o k key b less past))

none_up : (o : Order) (b : Bound) (low : Option (List ℕ)) (key : List ℕ) (ps : List Pair) → starts_past o b key ≡ true → AllBetween o low (Some key) ps → first_within o b ps ≡ None
none_up o b low key [] past all = refl
none_up o b low key (p ∷ ps) past all = ap (λ t. if t then Some p else first_within o b ps) (unreached_up o b key p.key past all.0.under) ∙ none_up o b low key ps past all.1

le_not : (o : Order) (a b : List ℕ) (r : Ordering) → key_cmp o a b ≡ r → is_le r ≡ true → is_gt r ≡ false
le_not o a b Less e le = refl
le_not o a b Equal e le = refl
le_not o a b Greater e le = absurd (cc)

lt_so : (o : Order) (a b : List ℕ) (r : Ordering) → key_cmp o a b ≡ r → is_lt r ≡ true → key_cmp o a b ≡ Less
lt_so o a b Less e lt = e
lt_so o a b Equal e lt = absurd (cc)
lt_so o a b Greater e lt = absurd (cc)

unreached_down : (o : Order) (b : Bound) (key k : List ℕ) → ends_before o b key ≡ true → is_le (key_cmp o key k) ≡ true → reaches o Down b k ≡ false
unreached_down o Edge key k ends le = absurd (cc)
unreached_down o (Over b) key k ends le = le_not o b k (key_cmp o b k) refl (le_le o b key k ends le)
unreached_down o (At b) key k ends le = ap is_ge (less_le o b key k (lt_so o b key (key_cmp o b key) refl ends) le)

none_down : (o : Order) (b : Bound) (key : List ℕ) (high : Option (List ℕ)) (ps : List Pair) → ends_before o b key ≡ true → AllBetween o (Some key) high ps → last_within o b ps ≡ None
none_down o b key high [] ends all = refl
none_down o b key high (p ∷ ps) ends all =
    ap (λ x. or_else x (if reaches o Down b p.key then Some p else None)) (none_down o b key high ps ends all.1)
    ∙ ap (λ t. if t then Some p else None) (unreached_down o b key p.key ends all.0.from)

-- ---- along children

module _ {T : Type 0} (o : Order) (b : Bound) (f : T → List Pair) (P : (low high : Option (List ℕ)) → T → Type 0) (known : (low high : Option (List ℕ)) (t : T) → P low high t → AllBetween o low high (f t)) where
  module _ (g : T → Option Pair) (finds : (low high : Option (List ℕ)) (t : T) → P low high t → first_within o b (f t) ≡ g t) where
    next_by : (past : Bool) (low high : Option (List ℕ)) (t : T) (k : KeyedChild T) (ks : List (KeyedChild T)) → starts_past o b k.key ≡ past → ChildrenWithin o P low high t (k ∷ ks) → first_within o b (over f k.tree ks) ≡ next_over o b g k.tree ks
        → or_else (first_within o b (f t)) (first_within o b (over f k.tree ks)) ≡ (if past then next_over o b g k.tree ks else or_else (g t) (next_over o b g k.tree ks))
    next_by true low high t k ks is children deeper = ap (λ x. or_else x (first_within o b (over f k.tree ks))) (none_up o b low k.key (f t) is (known low (Some k.key) t children.1)) ∙ deeper
    next_by false low high t k ks is children deeper = ap (λ x. or_else x (first_within o b (over f k.tree ks))) (finds low (Some k.key) t children.1) ∙ ap (λ x. or_else (g t) x) deeper

    pub next_finds : (low high : Option (List ℕ)) (t : T) (ks : List (KeyedChild T)) → ChildrenWithin o P low high t ks → first_within o b (over f t ks) ≡ next_over o b g t ks
    next_finds low high t [] children = ap (first_within o b) (append-nil (f t)) ∙ finds low high t children
    next_finds low high t (k ∷ ks) children = first_append o b (f t) (over f k.tree ks) ∙ next_by (starts_past o b k.key) low high t k ks refl children (next_finds (Some k.key) high k.tree ks children.2)

  module _ (g : T → Option Pair) (finds : (low high : Option (List ℕ)) (t : T) → P low high t → last_within o b (f t) ≡ g t) where
    prev_by : (ends : Bool) (low high : Option (List ℕ)) (t : T) (k : KeyedChild T) (ks : List (KeyedChild T)) → ends_before o b k.key ≡ ends → ChildrenWithin o P low high t (k ∷ ks) → last_within o b (over f k.tree ks) ≡ prev_over o b g k.tree ks
        → or_else (last_within o b (over f k.tree ks)) (last_within o b (f t)) ≡ (if ends then g t else or_else (prev_over o b g k.tree ks) (g t))
    prev_by true low high t k ks is children deeper =
        ap (λ x. or_else x (last_within o b (f t))) (none_down o b k.key high (over f k.tree ks) is (children_between o f P known (Some k.key) high k.tree ks children.2)) ∙ finds low (Some k.key) t children.1
    prev_by false low high t k ks is children deeper = ap (λ x. or_else x (last_within o b (f t))) deeper ∙ ap (λ x. or_else (prev_over o b g k.tree ks) x) (finds low (Some k.key) t children.1)

    pub prev_finds : (low high : Option (List ℕ)) (t : T) (ks : List (KeyedChild T)) → ChildrenWithin o P low high t ks → last_within o b (over f t ks) ≡ prev_over o b g t ks
    prev_finds low high t [] children = ap (last_within o b) (append-nil (f t)) ∙ finds low high t children
    prev_finds low high t (k ∷ ks) children = last_append o b (f t) (over f k.tree ks) ∙ prev_by (ends_before o b k.key) low high t k ks refl children (prev_finds (Some k.key) high k.tree ks children.2)

pub next_is_first : (o : Order) (b : Bound) (n : ℕ) (low high : Option (List ℕ)) (t : Tree n) → IsWithin o n low high t → first_within o b (records_of n t) ≡ next_in o b n t
next_is_first o b zero low high t is = refl
next_is_first o b (suc n) low high t is =
    next_finds o b (records_of n) (IsWithin o n) (λ x y u h. records_between o n x y u h) (next_in o b n) (λ x y u h. next_is_first o b n x y u h) low high t.first t.rest is.2

pub prev_is_last : (o : Order) (b : Bound) (n : ℕ) (low high : Option (List ℕ)) (t : Tree n) → IsWithin o n low high t → last_within o b (records_of n t) ≡ prev_in o b n t
prev_is_last o b zero low high t is = refl
prev_is_last o b (suc n) low high t is =
    prev_finds o b (records_of n) (IsWithin o n) (λ x y u h. records_between o n x y u h) (prev_in o b n) (λ x y u h. prev_is_last o b n x y u h) low high t.first t.rest is.2
