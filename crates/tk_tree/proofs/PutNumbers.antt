-- The pages of a tree after a put: the numbers that were there, and those that were given out.
use Rattle.std.proofs.Common.{◌≡◌, ℕ, zero, suc, ◌+◌, ◌≤◌, ◌<◌, Bool, true, false, if◌then◌else◌, List, [], ◌∷◌, ◌++◌, length, take, drop, refl, sym, ap, subst, ◌∙◌, arith, length-drop}
use Rattle.std.specs.Prelude.{nat_lt, nat_le, ◌==◌, ◌&&◌}
use Rattle.std.proofs.lemmas.List.{append-nil, take-append-drop}
use Rattle.std.proofs.lemmas.Bool.Decides.{nat_tests}
use Rattle.std.specs.Ordering.{is_le}
use Rattle.tk_model.specs.Orders.{key_cmp}
use Rattle.tk_model.specs.Records.{put}
use Rattle.tk_model.specs.declared.record.Order.{Order}
use Rattle.tk_model.specs.declared.record.Pair.{Pair}
use Rattle.tk_tree.specs.Tree.{KeyedChild, Tree, over, numbers_of}
use Rattle.tk_tree.specs.Pages.{copies, AreGiven}
use Rattle.tk_tree.specs.Put.{SplitPage, TreeAfter, is_long, half_of, least_key, joined, leaf_alone, split_leaf, inner_alone, cut_off, split_inner, spread, put_in, grow, put_tree}
use Rattle.tk_tree.proofs.Parts.{chosen, parts, over_joined, parts_joined}
use Rattle.tk_tree.proofs.Lying.{copies_append}
use Rattle.tk_tree.proofs.Puts.{some_so, split_few}

-- once where a number was given out
abbrev pub given : (low high m : ℕ) → ℕ
given low high m = if nat_le low m && nat_lt m high then 1 else 0

given_none : (a m : ℕ) → given a a m ≡ 0
given_none a m = grind (arith, nat_tests)

given_one : (a m : ℕ) → given a (a + 1) m ≡ (if m == a then 1 else 0)
given_one a m = grind (arith, nat_tests)

given_both : (a b c m : ℕ) → a ≤ b → b ≤ c → given a b m + given b c m ≡ given a c m
given_both a b c m ab bc = grind (arith, nat_tests)

eq_so : (m n : ℕ) → (m == n) ≡ true → m ≡ n
eq_so m n h = grind (arith, nat_tests)

many_so : (n : ℕ) → nat_lt 127 n ≡ true → 128 ≤ n
many_so n h = grind (arith, nat_tests)

long_none : {T : Type 0} (ks : List (KeyedChild T)) → nat_lt 127 (length ks) ≡ true → drop 63 ks ≡ [] → ⊥
long_none ks long none = absurd (omega (arith, many_so (length ks) long, length-drop 63 ks, ap length none))

module _ (m : ℕ) where
  abbrev one : ℕ → ℕ
  one n = if m == n then 1 else 0

  -- pages with their own number, those that were there and those that were given out
  pub record Counts {T : Type 0} (numbers : T → List ℕ) (before next : ℕ) (b : SplitPage T) : Type 0 where
    pub grows : next ≤ b.next
    pub count : copies m (parts numbers b) ≡ before + given next b.next m

  own : (n : ℕ) (ns : List ℕ) → copies m (n ∷ ns) ≡ one n + copies m ns
  own n ns = refl

  -- ---- leaves

  leaf_counts : (number : ℕ) (ps : List Pair) (next : ℕ) → Counts (numbers_of 0) (one number) next (leaf_alone number ps next)
  leaf_counts number ps next = record { grows = omega arith; count = omega (arith, given_none next m) }

  pub split_counts : (fuel number : ℕ) (ps : List Pair) (next : ℕ) → Counts (numbers_of 0) (one number) next (split_leaf fuel number ps next)
  split_counts zero number ps next = leaf_counts number ps next
  split_counts (suc fuel) number ps next =
      let a = split_leaf fuel number (take (half_of ps) ps) (next + 1) in
      let b = split_leaf fuel next (drop (half_of ps) ps) a.next in
      chosen (Counts (numbers_of 0) (one number) next) (is_long ps) (joined a (least_key (drop (half_of ps) ps)) b) (leaf_alone number ps next)
      (λ long.
      let x = split_counts fuel number (take (half_of ps) ps) (next + 1) in
      let y = split_counts fuel next (drop (half_of ps) ps) a.next in
      record {
        grows = omega (arith, x.grows, y.grows);
        count = ap (copies m) (parts_joined (numbers_of 0) a b (least_key (drop (half_of ps) ps)))
            ∙ omega (arith, copies_append m (parts (numbers_of 0) a) (parts (numbers_of 0) b), x.count, y.count, given_one next m, given_both next (next + 1) a.next m (omega arith) x.grows, given_both next a.next b.next m (omega (arith, x.grows)) y.grows);
      })
      (λ short. leaf_counts number ps next)

  -- ---- inner pages

  module _ (n : ℕ) where
    abbrev children : Tree n → List (KeyedChild (Tree n)) → ℕ
    children t ks = copies m (over (numbers_of n) t ks)

    alone_counts : (number : ℕ) (t : Tree n) (ks : List (KeyedChild (Tree n))) (next : ℕ) → Counts (numbers_of (suc n)) (one number + children t ks) next (inner_alone number t ks next)
    alone_counts number t ks next = record { grows = omega arith; count = omega (arith, given_none next m, ap (copies m) (append-nil (over (numbers_of n) t ks))) }

    cut_counts : (number : ℕ) (t : Tree n) (ks us : List (KeyedChild (Tree n))) (next : ℕ) (others : Tree n → List (KeyedChild (Tree n)) → SplitPage (Tree (suc n)))
        → ((u : Tree n) (more : List (KeyedChild (Tree n))) → Counts (numbers_of (suc n)) (one next + children u more) (next + 1) (others u more)) → (empty : us ≡ [] → ⊥)
        → Counts (numbers_of (suc n)) (one number + children t (ks ++ us)) next (cut_off (inner_alone number t ks (next + 1)) us others)
    cut_counts number t ks [] next others known some = absurd (some refl)
    cut_counts number t ks (u ∷ us) next others known some =
        let a = inner_alone number t ks (next + 1) in
        let b = others u.tree us in
        let x = alone_counts number t ks (next + 1) in
        let y = known u.tree us in
        record {
          grows = omega (arith, y.grows);
          count = ap (copies m) (parts_joined (numbers_of (suc n)) a b u.key)
              ∙ omega (
                arith,
                copies_append m (parts (numbers_of (suc n)) a) (parts (numbers_of (suc n)) b),
                x.count,
                y.count,
                given_none (next + 1) m,
                given_one next m,
                given_both next (next + 1) b.next m (omega arith) y.grows,
                ap (copies m) (over_joined (numbers_of n) t ks u us),
                copies_append m (over (numbers_of n) t ks) (over (numbers_of n) u.tree us),
              );
        }

    pub inner_counts : (fuel number : ℕ) (t : Tree n) (ks : List (KeyedChild (Tree n))) (next : ℕ) → Counts (numbers_of (suc n)) (one number + children t ks) next (split_inner fuel number t ks next)
    inner_counts zero number t ks next = alone_counts number t ks next
    inner_counts (suc fuel) number t ks next =
        chosen (Counts (numbers_of (suc n)) (one number + children t ks) next) (nat_lt 127 (length ks))
        (cut_off (inner_alone number t (take 63 ks) (next + 1)) (drop 63 ks) (λ u more. split_inner fuel next u more (next + 1)))
        (inner_alone number t ks next)
        (λ long.
        subst (λ l. Counts (numbers_of (suc n)) (one number + children t l) next (cut_off (inner_alone number t (take 63 ks) (next + 1)) (drop 63 ks) (λ u more. split_inner fuel next u more (next + 1)))) (take-append-drop 63 ks)
        (cut_counts number t (take 63 ks) (drop 63 ks) next (λ u more. split_inner fuel next u more (next + 1)) (λ u more. inner_counts fuel next u more (next + 1))
        (λ none. long_none ks long none)))
        (λ short. alone_counts number t ks next)

    -- ---- children of which one became pages

    module _ (o : Order) (key : List ℕ) (g : Tree n → SplitPage (Tree n)) (next : ℕ) (counts : (u : Tree n) → Counts (numbers_of n) (copies m (numbers_of n u)) next (g u)) where
      spread_by : (b : Bool) (t : Tree n) (j : KeyedChild (Tree n)) (ks : List (KeyedChild (Tree n))) → Counts (numbers_of n) (children j.tree ks) next (spread o key g j.tree ks)
          → Counts (numbers_of n) (children t (j ∷ ks)) next (if b then (let d = spread o key g j.tree ks in record d { first = t; rest = record { key = j.key; tree = d.first } ∷ d.rest }) else (let d = g t in record d { rest = d.rest ++ j ∷ ks }))
      spread_by true t j ks deeper = record {
        grows = deeper.grows;
        count = omega (arith, copies_append m (numbers_of n t) (parts (numbers_of n) (spread o key g j.tree ks)), copies_append m (numbers_of n t) (over (numbers_of n) j.tree ks), deeper.count);
      }
      spread_by false t j ks deeper = record {
        grows = (counts t).grows;
        count = ap (copies m) (over_joined (numbers_of n) (g t).first (g t).rest j ks)
            ∙ omega (arith, copies_append m (parts (numbers_of n) (g t)) (over (numbers_of n) j.tree ks), copies_append m (numbers_of n t) (over (numbers_of n) j.tree ks), (counts t).count);
      }

      pub spread_counts : (t : Tree n) (ks : List (KeyedChild (Tree n))) → Counts (numbers_of n) (children t ks) next (spread o key g t ks)
      spread_counts t [] = record { grows = (counts t).grows; count = omega (arith, (counts t).count, ap (copies m) (append-nil (numbers_of n t))) }
      spread_counts t (j ∷ ks) = spread_by (is_le (key_cmp o j.key key)) t j ks (spread_counts j.tree ks)

  -- ---- a page, and the root

  pub put_counts : (o : Order) (new : Pair) (n : ℕ) (t : Tree n) (next : ℕ) → Counts (numbers_of n) (copies m (numbers_of n t)) next (put_in o new n t next)
  put_counts o new zero t next =
      let x = split_counts (length (put o new t.pairs)) t.number (put o new t.pairs) next in record { grows = x.grows; count = omega (arith, x.count) }
  put_counts o new (suc n) t next =
      let b = spread o new.key (λ u. put_in o new n u next) t.first t.rest in
      let x = spread_counts n o new.key (λ u. put_in o new n u next) next (λ u. put_counts o new n u next) t.first t.rest in
      let c = split_inner (length b.rest) t.number b.first b.rest b.next in
      chosen (Counts (numbers_of (suc n)) (copies m (numbers_of (suc n) t)) next) (length b.rest == length t.rest)
      (record { first = record { number = t.number; first = b.first; rest = b.rest }; rest = []; next = b.next; wrote = b.wrote })
      (record c { wrote = b.wrote ++ c.wrote })
      (λ same. record { grows = x.grows; count = omega (arith, x.count, ap (copies m) (append-nil (over (numbers_of n) b.first b.rest))) })
      (λ more.
      let y = inner_counts n (length b.rest) t.number b.first b.rest b.next in
      record { grows = omega (arith, x.grows, y.grows); count = omega (arith, x.count, y.count, given_both next b.next c.next m x.grows y.grows) })

  pub record Numbered (before next : ℕ) (g : TreeAfter) : Type 0 where
    pub grows : next ≤ g.next
    pub count : copies m (numbers_of g.levels g.top) ≡ before + given next g.next m

  grow_alone : (before next n : ℕ) (t : Tree n) (ks : List (KeyedChild (Tree n))) (after : ℕ) (wrote : List ℕ) → length ks ≡ 0 → next ≤ after → copies m (over (numbers_of n) t ks) ≡ before + given next after m → Numbered before next (record { levels = n; top = t; next = after; wrote = wrote })
  grow_alone before next n t [] after wrote none grows count = record { grows = grows; count = ap (copies m) (sym (append-nil (numbers_of n t))) ∙ count }
  grow_alone before next n t (j ∷ ks) after wrote none grows count = absurd (omega (arith, none))

  pub grow_counts : (fuel n : ℕ) (b : SplitPage (Tree n)) (before next : ℕ) → length b.rest ≤ fuel → Counts (numbers_of n) before next b → Numbered before next (grow fuel n b)
  grow_counts zero n b before next few x = grow_alone before next n b.first b.rest b.next b.wrote (omega arith) x.grows x.count
  grow_counts (suc fuel) n b before next few x =
      let c = split_inner (length b.rest) b.next b.first b.rest (b.next + 1) in
      chosen (Numbered before next) (length b.rest == 0) (record { levels = n; top = b.first; next = b.next; wrote = b.wrote }) (grow fuel (suc n) (record c { wrote = b.wrote ++ c.wrote }))
      (λ none. grow_alone before next n b.first b.rest b.next b.wrote (eq_so (length b.rest) 0 none) x.grows x.count)
      (λ some.
      let y = inner_counts n (length b.rest) b.next b.first b.rest (b.next + 1) in
      grow_counts fuel (suc n) (record c { wrote = b.wrote ++ c.wrote }) before next (omega (arith, some_so (length b.rest) some, split_few (length b.rest) b.next b.first b.rest (b.next + 1)))
      (record { grows = omega (arith, x.grows, y.grows); count = omega (arith, x.count, y.count, given_one b.next m, given_both next b.next (b.next + 1) m x.grows (omega arith), given_both next (b.next + 1) c.next m (omega (arith, x.grows)) y.grows) }))

given_most : (low high m : ℕ) → given low high m ≤ 1
given_most low high m = grind (arith, nat_tests)

given_below : (low high m : ℕ) → m < low → given low high m ≡ 0
given_below low high m less = grind (arith, nat_tests)

given_range : (low high m : ℕ) → 1 ≤ given low high m → (low ≤ m) × (m < high)
given_range low high m has = (grind (arith, nat_tests), grind (arith, nat_tests))

given_by : (low high m before : ℕ) → before ≤ 1 → (1 ≤ before → (1 ≤ m) × (m < low)) → 1 ≤ low → low ≤ high → (before + given low high m ≤ 1) × (1 ≤ before + given low high m → (1 ≤ m) × (m < high))
given_by low high m zero once old some le =
    (omega (arith, given_most low high m), λ has. let r = given_range low high m (omega (arith, has)) in (omega (arith, r.0, some), r.1))
given_by low high m (suc b) once old some le =
    let was = old (omega arith) in
    (omega (arith, once, given_below low high m was.1), λ has. (was.0, omega (arith, was.1, le)))

-- after a put
pub put_given : (o : Order) (new : Pair) (n : ℕ) (t : Tree n) (next : ℕ) → 1 ≤ next → AreGiven next (numbers_of n t) → AreGiven (put_tree o new n t next).next (numbers_of (put_tree o new n t next).levels (put_tree o new n t next).top)
put_given o new n t next some is =
    let b = put_in o new n t next in
    let x : (m : ℕ) → Numbered m (copies m (numbers_of n t)) next (put_tree o new n t next) = λ m. grow_counts m (length b.rest) n b (copies m (numbers_of n t)) next (omega arith) (put_counts m o new n t next) in
    record {
      apart = λ m. omega (arith, (x m).count, (given_by next (put_tree o new n t next).next m (copies m (numbers_of n t)) (is.apart m) (is.numbers m) some (x m).grows).0);
      numbers = λ m has. (given_by next (put_tree o new n t next).next m (copies m (numbers_of n t)) (is.apart m) (is.numbers m) some (x m).grows).1 (omega (arith, has, (x m).count));
    }

pub put_grows : (o : Order) (new : Pair) (n : ℕ) (t : Tree n) (next : ℕ) → next ≤ (put_tree o new n t next).next
put_grows o new n t next = let b = put_in o new n t next in (grow_counts 0 (length b.rest) n b (copies 0 (numbers_of n t)) next (omega arith) (put_counts 0 o new n t next)).grows
