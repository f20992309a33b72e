-- A record that is dropped from a tree is dropped from its records, and the tree stays valid.
use Rattle.std.proofs.Common.{◌≡◌, ℕ, zero, suc, ◌+◌, ◌≤◌, Bool, true, false, if◌then◌else◌, List, [], ◌∷◌, ◌++◌, length, Option, Some, None, IfSome, refl, sym, ap, ◌∙◌, arith}
use Rattle.std.specs.Prelude.{◌==◌, sum_by, is_some}
use Rattle.std.proofs.lemmas.List.{append-nil}
use Rattle.std.proofs.lemmas.Bool.Decides.{nat_tests}
use Rattle.std.proofs.lemmas.List.Sums.{sum_by-cons}
use Rattle.std.specs.List.{flat_map}
use Rattle.std.specs.Ordering.{is_le}
use Rattle.std.specs.declared.cmp.Ordering.TheVariants.{Less}
use Rattle.tk_model.specs.Orders.{key_cmp, same_bytes}
use Rattle.tk_model.specs.Records.{find, without, Rising, AllBehind}
use Rattle.tk_model.specs.declared.record.Order.{Order}
use Rattle.tk_model.specs.declared.record.Pair.{Pair}
use Rattle.tk_model.proofs.KeyOrders.{keys_equal}
use Rattle.tk_model.proofs.RecordLaws.{without_rising, apart_less, apart_greater, flipped}
use Rattle.tk_tree.specs.Tree.{Leaf, KeyedChild, Inner, Tree, over, records_of}
use Rattle.tk_tree.specs.Formed.{From, Under, Between, AllBetween, FitsLeaf, pair_size, AllPast, KeysRise, ChildrenWithin, IsWithin}
use Rattle.tk_tree.specs.Drop.{PageLeft, leaf_left, child_left, thin, inner_left, drop_in, give_way, settled, drop_tree, clear_tree}
use Rattle.tk_tree.specs.Put.{LeadsTo}
use Rattle.tk_tree.proofs.Keys.{AllBefore, before_key, behind_key, not_le, less_le, lower, from_lower}
use Rattle.tk_tree.proofs.Lookups.{children_between, records_between}
use Rattle.tk_tree.proofs.Parts.{chosen, past_farther}

-- ---- lists of records

without_behind : (o : Order) (k : List ℕ) (qs : List Pair) → AllBehind o k qs → without k qs ≡ qs
without_behind o k [] all = refl
without_behind o k (q ∷ qs) all = ap (λ b. if b then qs else q ∷ without k qs) (apart_less o k q.key all.0) ∙ ap (λ l. q ∷ l) (without_behind o k qs all.1)

if_cons : (b : Bool) (p : Pair) (ps deeper qs : List Pair) → (if b then ps ++ qs else p ∷ (deeper ++ qs)) ≡ (if b then ps else p ∷ deeper) ++ qs
if_cons true p ps deeper qs = refl
if_cons false p ps deeper qs = refl

pub drop_behind : (o : Order) (k : List ℕ) (ps qs : List Pair) → AllBehind o k qs → without k (ps ++ qs) ≡ without k ps ++ qs
drop_behind o k [] qs all = without_behind o k qs all
drop_behind o k (p ∷ ps) qs all = ap (λ l. if same_bytes k p.key then ps ++ qs else p ∷ l) (drop_behind o k ps qs all) ∙ if_cons (same_bytes k p.key) p ps (without k ps) qs

pub drop_before : (o : Order) (k : List ℕ) (ps qs : List Pair) → AllBefore o k ps → without k (ps ++ qs) ≡ ps ++ without k qs
drop_before o k [] qs all = refl
drop_before o k (p ∷ ps) qs all =
    ap (λ b. if b then ps ++ qs else p ∷ without k (ps ++ qs)) (apart_greater o k p.key (flipped o p.key k Less all.0)) ∙ ap (λ l. p ∷ l) (drop_before o k ps qs all.1)

absent_by : (b : Bool) (v : List ℕ) (o : Option (List ℕ)) → is_some (if b then Some v else o) ≡ false → (b ≡ false) × (is_some o ≡ false)
absent_by true v o none = absurd (cc)
absent_by false v o none = (refl, none)

pub without_absent : (k : List ℕ) (ps : List Pair) → is_some (find k ps) ≡ false → without k ps ≡ ps
without_absent k [] none = refl
without_absent k (p ∷ ps) none =
    let a = absent_by (same_bytes k p.key) p.value (find k ps) none in
    ap (λ b. if b then ps else p ∷ without k ps) a.0 ∙ ap (λ l. p ∷ l) (without_absent k ps a.1)

without_between : (o : Order) (low high : Option (List ℕ)) (k : List ℕ) (ps : List Pair) → AllBetween o low high ps → AllBetween o low high (without k ps)
without_between o low high k [] all = tt
without_between o low high k (p ∷ ps) all =
    chosen (AllBetween o low high) (same_bytes k p.key) ps (p ∷ without k ps) (λ _. all.1) (λ _. (all.0, without_between o low high k ps all.1))

sum_cons : (p : Pair) (ps : List Pair) → sum_by pair_size (p ∷ ps) ≡ pair_size p + sum_by pair_size ps
sum_cons p ps = sum_by-cons pair_size p ps

without_smaller : (k : List ℕ) (ps : List Pair) → sum_by pair_size (without k ps) ≤ sum_by pair_size ps
without_smaller k [] = omega arith
without_smaller k (p ∷ ps) =
    chosen (λ l. sum_by pair_size l ≤ sum_by pair_size (p ∷ ps)) (same_bytes k p.key) ps (p ∷ without k ps)
    (λ _. omega (arith, sum_cons p ps)) (λ _. omega (arith, sum_cons p ps, sum_cons p (without k ps), without_smaller k ps))

without_shorter : (k : List ℕ) (ps : List Pair) → length (without k ps) ≤ length ps
without_shorter k [] = omega arith
without_shorter k (p ∷ ps) =
    chosen (λ l. length l ≤ length (p ∷ ps)) (same_bytes k p.key) ps (p ∷ without k ps) (λ _. omega arith) (λ _. omega (arith, without_shorter k ps))

fits_by : (ps qs : List Pair) → length ps ≤ length qs → sum_by pair_size ps ≤ sum_by pair_size qs → FitsLeaf qs → FitsLeaf ps
fits_by [] qs shorter smaller fits = tt
fits_by (p ∷ []) qs shorter smaller fits = tt
fits_by (p ∷ r ∷ ps) [] shorter smaller fits = absurd (omega arith)
fits_by (p ∷ r ∷ ps) (q ∷ []) shorter smaller fits = absurd (omega arith)
fits_by (p ∷ r ∷ ps) (q ∷ s ∷ qs) shorter smaller fits = omega (arith, smaller, fits)

-- ---- bounds that are wider

abbrev UpTo : Order → List ℕ → Option (List ℕ) → Type 0
UpTo o mid None = Unit {0}
UpTo o mid (Some high) = is_le (key_cmp o mid high) ≡ true

up_to : (o : Order) (mid : List ℕ) (high : Option (List ℕ)) → Under o high mid → UpTo o mid high
up_to o mid None under = tt
up_to o mid (Some high) under = ap is_le under

under_up : (o : Order) (mid k : List ℕ) (high : Option (List ℕ)) → key_cmp o k mid ≡ Less → UpTo o mid high → Under o high k
under_up o mid k None less up = tt
under_up o mid k (Some high) less up = less_le o k mid high less up

between_up : (o : Order) (low : Option (List ℕ)) (mid : List ℕ) (high : Option (List ℕ)) (ps : List Pair) → UpTo o mid high → AllBetween o low (Some mid) ps → AllBetween o low high ps
between_up o low mid high [] up all = tt
between_up o low mid high (p ∷ ps) up all = (record { from = all.0.from; under = under_up o mid p.key high all.0.under up }, between_up o low mid high ps up all.1)

module _ {T : Type 0} (o : Order) (P : (low high : Option (List ℕ)) → T → Type 0) where
  children_lower : (low : Option (List ℕ)) (mid : List ℕ) (high : Option (List ℕ)) (t : T) (ks : List (KeyedChild T)) → ((b : Option (List ℕ)) (u : T) → P (Some mid) b u → P low b u) → From o low mid → ChildrenWithin o P (Some mid) high t ks → ChildrenWithin o P low high t ks
  children_lower low mid high t [] wider from children = wider high t children
  children_lower low mid high t (k ∷ ks) wider from children = (record { from = from_lower o low mid k.key from children.0.from; under = children.0.under }, wider (Some k.key) t children.1, children.2)

  children_up : (low : Option (List ℕ)) (mid : List ℕ) (high : Option (List ℕ)) (t : T) (ks : List (KeyedChild T)) → ((a : Option (List ℕ)) (u : T) → P a (Some mid) u → P a high u) → UpTo o mid high → ChildrenWithin o P low (Some mid) t ks → ChildrenWithin o P low high t ks
  children_up low mid high t [] wider up children = wider low t children
  children_up low mid high t (k ∷ ks) wider up children =
      (record { from = children.0.from; under = under_up o mid k.key high children.0.under up }, children.1, children_up (Some k.key) mid high k.tree ks wider up children.2)

within_lower : (o : Order) (n : ℕ) (low : Option (List ℕ)) (mid : List ℕ) (high : Option (List ℕ)) (t : Tree n) → From o low mid → IsWithin o n (Some mid) high t → IsWithin o n low high t
within_lower o zero low mid high t from is = (is.0, lower o low mid high t.pairs from is.1, is.2)
within_lower o (suc n) low mid high t from is =
    (is.0, is.1, children_lower o (IsWithin o n) low mid high t.first t.rest (λ b u h. within_lower o n low mid b u from h) from is.2)

within_up : (o : Order) (n : ℕ) (low : Option (List ℕ)) (mid : List ℕ) (high : Option (List ℕ)) (t : Tree n) → UpTo o mid high → IsWithin o n low (Some mid) t → IsWithin o n low high t
within_up o zero low mid high t up is = (is.0, between_up o low mid high t.pairs up is.1, is.2)
within_up o (suc n) low mid high t up is =
    (is.0, is.1, children_up o (IsWithin o n) low mid high t.first t.rest (λ a u h. within_up o n a mid high u up h) up is.2)

-- ---- children of which one became what is left of it

abbrev left_of : {T : Type 0} → (T → List Pair) → Option T → List Pair
left_of f None = []
left_of f (Some t) = f t

abbrev of_children : {T : Type 0} → (T → List Pair) → List (KeyedChild T) → List Pair
of_children f ks = flat_map (λ k. f k.tree) ks

child_has : {T : Type 0} (f : T → List Pair) (key : List ℕ) (left : Option T) (ks : List (KeyedChild T)) → of_children f (child_left key left ks) ≡ left_of f left ++ of_children f ks
child_has f key None ks = refl
child_has f key (Some t) ks = refl

module _ {T : Type 0} (o : Order) (key : List ℕ) (P : (low high : Option (List ℕ)) → T → Type 0) (f : T → List Pair) (g : T → PageLeft T)
    (known : (low high : Option (List ℕ)) (t : T) → P low high t → AllBetween o low high (f t))
    (drops : (low high : Option (List ℕ)) (t : T) → P low high t → left_of f (g t).tree ≡ without key (f t)) where
  thin_by : (b : Bool) (low high : Option (List ℕ)) (first : List ℕ) (t : T) (k : KeyedChild T) (ks : List (KeyedChild T)) → is_le (key_cmp o k.key key) ≡ b → ChildrenWithin o P low high t (k ∷ ks)
      → of_children f (thin o key g k.key k.tree ks).children ≡ without key (over f k.tree ks)
      → of_children f (if b then (let l = thin o key g k.key k.tree ks in record l { children = record { key = first; tree = t } ∷ l.children }) else (let l = g t in record { children = child_left first l.tree (k ∷ ks); wrote = l.wrote })).children
      ≡ without key (f t ++ over f k.tree ks)
  thin_by true low high first t k ks is children deeper =
      ap (λ l. f t ++ l) deeper ∙ sym (drop_before o key (f t) (over f k.tree ks) (before_key o low k.key key (f t) (known low (Some k.key) t children.1) is))
  thin_by false low high first t k ks is children deeper =
      child_has f first (g t).tree (k ∷ ks) ∙ ap (λ l. l ++ over f k.tree ks) (drops low (Some k.key) t children.1)
      ∙ sym (drop_behind o key (f t) (over f k.tree ks) (behind_key o k.key key high (over f k.tree ks) (children_between o f P known (Some k.key) high k.tree ks children.2) (not_le o k.key key is)))

  pub thin_records : (low high : Option (List ℕ)) (first : List ℕ) (t : T) (ks : List (KeyedChild T)) → ChildrenWithin o P low high t ks → of_children f (thin o key g first t ks).children ≡ without key (over f t ks)
  thin_records low high first t [] children = child_has f first (g t).tree [] ∙ append-nil (left_of f (g t).tree) ∙ drops low high t children ∙ ap (without key) (sym (append-nil (f t)))
  thin_records low high first t (k ∷ ks) children = thin_by (is_le (key_cmp o k.key key)) low high first t k ks refl children (thin_records (Some k.key) high k.key k.tree ks children.2)

module _ {T : Type 0} (o : Order) (P : (low high : Option (List ℕ)) → T → Type 0) where
  -- what stands of children from a key on
  abbrev Rest : (first : List ℕ) (high : Option (List ℕ)) → List (KeyedChild T) → Type 0
  Rest first high [] = Unit {0}
  Rest first high (j ∷ js) = (is_le (key_cmp o first j.key) ≡ true) × Under o high j.key × ChildrenWithin o P (Some j.key) high j.tree js × KeysRise o (j ∷ js)

  -- what stands of all children
  abbrev Stood : (low high : Option (List ℕ)) → List (KeyedChild T) → Type 0
  Stood low high [] = Unit {0}
  Stood low high (j ∷ js) = ChildrenWithin o P low high j.tree js × KeysRise o js

module _ {T : Type 0} (o : Order) (key : List ℕ) (P : (low high : Option (List ℕ)) → T → Type 0) (g : T → PageLeft T)
    (stays : (low high : Option (List ℕ)) (t : T) → P low high t → IfSome (g t).tree (P low high))
    (upper : (low : Option (List ℕ)) (mid : List ℕ) (high : Option (List ℕ)) (t : T) → UpTo o mid high → P low (Some mid) t → P low high t)
    (under : (low : Option (List ℕ)) (mid : List ℕ) (high : Option (List ℕ)) (t : T) → From o low mid → P (Some mid) high t → P low high t) where
  in_front : (low high : Option (List ℕ)) (first : List ℕ) (t : T) (mid : List ℕ) (rest : List (KeyedChild T)) → P low (Some mid) t → From o low mid → Under o high mid → Rest o P mid high rest → ChildrenWithin o P low high t rest × KeysRise o rest
  in_front low high first t mid [] is from below rest = (upper low mid high t (up_to o mid high below) is, tt)
  in_front low high first t mid (j ∷ js) is from below rest =
      ((record { from = from_lower o low mid j.key from rest.0; under = rest.1 }, upper low mid (Some j.key) t rest.0 is, rest.2), rest.3)

  past_rest : (first mid : List ℕ) (high : Option (List ℕ)) (rest : List (KeyedChild T)) → key_cmp o first mid ≡ Less → Rest o P mid high rest → AllPast o first rest
  past_rest first mid high [] less rest = tt
  past_rest first mid high (j ∷ js) less rest = let far = less_le o first mid j.key less rest.0 in (far, past_farther o first j.key js far rest.3.0)

  one_left : (first : List ℕ) (high : Option (List ℕ)) (left : Option T) → Under o high first → IfSome left (P (Some first) high) → Rest o P first high (child_left first left [])
  one_left first high None below is = tt
  one_left first high (Some t) below is = (ap is_le (keys_equal o first), below, is, (tt, tt))

  some_left : (first : List ℕ) (high : Option (List ℕ)) (left : Option T) (k : KeyedChild T) (ks : List (KeyedChild T)) → Under o high first → IfSome left (P (Some first) (Some k.key)) → Between o (Some first) high k.key → ChildrenWithin o P (Some k.key) high k.tree ks
      → AllPast o first (k ∷ ks) → KeysRise o (k ∷ ks) → Rest o P first high (child_left first left (k ∷ ks))
  some_left first high None k ks below is between children past rise = (between.from, between.under, children, rise)
  some_left first high (Some t) k ks below is between children past rise = (ap is_le (keys_equal o first), below, (between, is, children), (past, rise))

  thin_rest_by : (b : Bool) (first : List ℕ) (high : Option (List ℕ)) (t : T) (k : KeyedChild T) (ks : List (KeyedChild T)) → Under o high first → ChildrenWithin o P (Some first) high t (k ∷ ks) → AllPast o first (k ∷ ks) → KeysRise o (k ∷ ks)
      → Rest o P k.key high (thin o key g k.key k.tree ks).children
      → Rest o P first high (if b then (let l = thin o key g k.key k.tree ks in record l { children = record { key = first; tree = t } ∷ l.children }) else (let l = g t in record { children = child_left first l.tree (k ∷ ks); wrote = l.wrote })).children
  thin_rest_by true first high t k ks below children past rise deeper =
      let rest = (thin o key g k.key k.tree ks).children in
      let front = in_front (Some first) high first t k.key rest children.1 children.0.from children.0.under deeper in
      (ap is_le (keys_equal o first), below, front.0, (past_rest first k.key high rest past.0 deeper, front.1))
  thin_rest_by false first high t k ks below children past rise deeper =
      some_left first high (g t).tree k ks below (stays (Some first) (Some k.key) t children.1) children.0 children.2 past rise

  thin_rest : (first : List ℕ) (high : Option (List ℕ)) (t : T) (ks : List (KeyedChild T)) → Under o high first → ChildrenWithin o P (Some first) high t ks → AllPast o first ks → KeysRise o ks → Rest o P first high (thin o key g first t ks).children
  thin_rest first high t [] below children past rise = one_left first high (g t).tree below (stays (Some first) high t children)
  thin_rest first high t (k ∷ ks) below children past rise =
      thin_rest_by (is_le (key_cmp o k.key key)) first high t k ks below children past rise (thin_rest k.key high k.tree ks children.0.under children.2 rise.0 rise.1)

  all_left : (low high : Option (List ℕ)) (first : List ℕ) (left : Option T) → IfSome left (P low high) → Stood o P low high (child_left first left [])
  all_left low high first None is = tt
  all_left low high first (Some t) is = (is, tt)

  more_left : (low high : Option (List ℕ)) (first : List ℕ) (left : Option T) (k : KeyedChild T) (ks : List (KeyedChild T)) → IfSome left (P low (Some k.key)) → Between o low high k.key → ChildrenWithin o P (Some k.key) high k.tree ks → KeysRise o (k ∷ ks) → Stood o P low high (child_left first left (k ∷ ks))
  more_left low high first None k ks is between children rise = (children_lower o P low k.key high k.tree ks (λ b u h. under low k.key b u between.from h) between.from children, rise.1)
  more_left low high first (Some t) k ks is between children rise = ((between, is, children), rise)

  thin_by_within : (b : Bool) (low high : Option (List ℕ)) (first : List ℕ) (t : T) (k : KeyedChild T) (ks : List (KeyedChild T)) → ChildrenWithin o P low high t (k ∷ ks) → KeysRise o (k ∷ ks)
      → Stood o P low high (if b then (let l = thin o key g k.key k.tree ks in record l { children = record { key = first; tree = t } ∷ l.children }) else (let l = g t in record { children = child_left first l.tree (k ∷ ks); wrote = l.wrote })).children
  thin_by_within true low high first t k ks children rise =
      in_front low high first t k.key (thin o key g k.key k.tree ks).children children.1 children.0.from children.0.under (thin_rest k.key high k.tree ks children.0.under children.2 rise.0 rise.1)
  thin_by_within false low high first t k ks children rise = more_left low high first (g t).tree k ks (stays low (Some k.key) t children.1) children.0 children.2 rise

  pub thin_within : (low high : Option (List ℕ)) (first : List ℕ) (t : T) (ks : List (KeyedChild T)) → ChildrenWithin o P low high t ks → KeysRise o ks → Stood o P low high (thin o key g first t ks).children
  thin_within low high first t [] children rise = all_left low high first (g t).tree (stays low high t children)
  thin_within low high first t (k ∷ ks) children rise = thin_by_within (is_le (key_cmp o k.key key)) low high first t k ks children rise

child_few : {T : Type 0} (key : List ℕ) (left : Option T) (ks : List (KeyedChild T)) → length (child_left key left ks) ≤ length ks + 1
child_few key None ks = omega arith
child_few key (Some t) ks = omega arith

thin_few : {T : Type 0} (o : Order) (key : List ℕ) (g : T → PageLeft T) (first : List ℕ) (t : T) (ks : List (KeyedChild T)) → length (thin o key g first t ks).children ≤ length ks + 1
thin_few o key g first t [] = child_few first (g t).tree []
thin_few o key g first t (k ∷ ks) =
    chosen (λ x. length x.children ≤ length (k ∷ ks) + 1) (is_le (key_cmp o k.key key)) (let l = thin o key g k.key k.tree ks in record l { children = record { key = first; tree = t } ∷ l.children }) (let l = g t in record { children = child_left first l.tree (k ∷ ks); wrote = l.wrote })
    (λ _. omega (arith, thin_few o key g k.key k.tree ks)) (λ _. child_few first (g t).tree (k ∷ ks))

-- ---- a record dropped from a page

leaf_has : (number : ℕ) (ps : List Pair) → left_of (records_of 0) (leaf_left number ps) ≡ ps
leaf_has number [] = refl
leaf_has number (p ∷ ps) = refl

inner_has : {T : Type 0} (f : T → List Pair) (number : ℕ) (ks : List (KeyedChild T)) → left_of (λ (t : Inner T). over f t.first t.rest) (inner_left number ks) ≡ of_children f ks
inner_has f number [] = refl
inner_has f number (k ∷ ks) = refl

pub drop_records : (o : Order) (key : List ℕ) (n : ℕ) (low high : Option (List ℕ)) (t : Tree n) → IsWithin o n low high t → left_of (records_of n) (drop_in o key n t).tree ≡ without key (records_of n t)
drop_records o key zero low high t is =
    chosen (λ (x : PageLeft Leaf). left_of (records_of 0) x.tree ≡ without key t.pairs) (is_some (find key t.pairs)) (record { tree = leaf_left t.number (without key t.pairs); wrote = t.number ∷ [] }) (record { tree = Some t; wrote = [] })
    (λ there. leaf_has t.number (without key t.pairs)) (λ absent. sym (without_absent key t.pairs absent))
drop_records o key (suc n) low high t is =
    inner_has (records_of n) t.number (thin o key (drop_in o key n) [] t.first t.rest).children
    ∙ thin_records o key (IsWithin o n) (records_of n) (drop_in o key n) (λ a b u h. records_between o n a b u h) (λ a b u h. drop_records o key n a b u h) low high [] t.first t.rest is.2

leaf_within : (o : Order) (low high : Option (List ℕ)) (number : ℕ) (ps : List Pair) → Rising o ps × AllBetween o low high ps × FitsLeaf ps → IfSome (leaf_left number ps) (IsWithin o 0 low high)
leaf_within o low high number [] is = tt
leaf_within o low high number (p ∷ ps) is = is

inner_within : (o : Order) (n : ℕ) (low high : Option (List ℕ)) (number : ℕ) (ks : List (KeyedChild (Tree n))) → length ks ≤ 128 → Stood o (IsWithin o n) low high ks → IfSome (inner_left number ks) (IsWithin o (suc n) low high)
inner_within o n low high number [] few is = tt
inner_within o n low high number (k ∷ ks) few is = (omega arith, is.1, is.0)

pub drop_within : (o : Order) (key : List ℕ) (n : ℕ) (low high : Option (List ℕ)) (t : Tree n) → IsWithin o n low high t → IfSome (drop_in o key n t).tree (IsWithin o n low high)
drop_within o key zero low high t is =
    chosen (λ (x : PageLeft Leaf). IfSome x.tree (IsWithin o 0 low high)) (is_some (find key t.pairs)) (record { tree = leaf_left t.number (without key t.pairs); wrote = t.number ∷ [] }) (record { tree = Some t; wrote = [] })
    (λ there. leaf_within o low high t.number (without key t.pairs)
    (without_rising o key t.pairs is.0, without_between o low high key t.pairs is.1, fits_by (without key t.pairs) t.pairs (without_shorter key t.pairs) (without_smaller key t.pairs) is.2))
    (λ absent. is)
drop_within o key (suc n) low high t is =
    inner_within o n low high t.number (thin o key (drop_in o key n) [] t.first t.rest).children (omega (arith, thin_few o key (drop_in o key n) [] t.first t.rest, is.0))
    (thin_within o key (IsWithin o n) (drop_in o key n) (λ a b u h. drop_within o key n a b u h) (λ a m b u up h. within_up o n a m b u up h) (λ a m b u from h. within_lower o n a m b u from h) low high [] t.first t.rest is.2 is.1)

-- ---- the root

eq_so : (m : ℕ) → (m == 0) ≡ true → m ≡ 0
eq_so m h = grind (arith, nat_tests)

only_child : (o : Order) (n : ℕ) (t : Tree n) (ks : List (KeyedChild (Tree n))) → length ks ≡ 0 → ChildrenWithin o (IsWithin o n) None None t ks → (over (records_of n) t ks ≡ records_of n t) × IsWithin o n None None t
only_child o n t [] none children = (append-nil (records_of n t), children)
only_child o n t (k ∷ ks) none children = absurd (omega (arith, none))

give_has : (o : Order) (n : ℕ) (t : Tree n) (next : ℕ) (wrote : List ℕ) (m : List Pair) → records_of n t ≡ m → IsWithin o n None None t → LeadsTo o m (give_way n t next wrote)
give_has o zero t next wrote m has is = record { records = has; within = is }
give_has o (suc n) t next wrote m has is =
    chosen (λ x. LeadsTo o m x) (length t.rest == 0) (give_way n t.first next (wrote ++ t.number ∷ [])) (record { levels = suc n; top = t; next = next; wrote = wrote })
    (λ one. let alone = only_child o n t.first t.rest (eq_so (length t.rest) one) is.2 in give_has o n t.first next (wrote ++ t.number ∷ []) m (sym alone.0 ∙ has) alone.1)
    (λ more. record { records = has; within = is })

settle_has : (o : Order) (n : ℕ) (before : Tree n) (next : ℕ) (left : Option (Tree n)) (wrote : List ℕ) (m : List Pair) → left_of (records_of n) left ≡ m → IfSome left (IsWithin o n None None)
    → LeadsTo o m (settled n before next (record { tree = left; wrote = wrote }))
settle_has o n before next None wrote m has is = record { records = has; within = (tt, tt, tt) }
settle_has o n before next (Some t) wrote m has is =
    chosen (λ x. LeadsTo o m x) (length wrote == 0) (record { levels = n; top = t; next = next; wrote = [] }) (give_way n t next wrote)
    (λ same. record { records = has; within = is }) (λ dropped. give_has o n t next wrote m has is)

-- a record dropped from a tree is dropped from its records
pub drop_tree_stands : (o : Order) (key : List ℕ) (n : ℕ) (t : Tree n) (next : ℕ) → IsWithin o n None None t → LeadsTo o (without key (records_of n t)) (drop_tree o key n t next)
drop_tree_stands o key n t next is =
    settle_has o n t next (drop_in o key n t).tree (drop_in o key n t).wrote (without key (records_of n t)) (drop_records o key n None None t is) (drop_within o key n None None t is)

pub clear_tree_stands : (o : Order) (n : ℕ) (t : Tree n) (next : ℕ) → LeadsTo o [] (clear_tree n t next)
clear_tree_stands o n t next = record { records = refl; within = (tt, tt, tt) }
