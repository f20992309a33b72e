-- The pages that a put doesn't write stay as they are.
use Rattle.std.proofs.Common.{◌≡◌, ℕ, zero, suc, ◌+◌, ◌≤◌, Bool, true, false, if◌then◌else◌, List, [], ◌∷◌, ◌++◌, length, map, take, drop, Option, Some, None, refl, sym, ap, subst, ◌∙◌, arith, length-append}
use Rattle.std.specs.Prelude.{nat_lt, ◌==◌}
use Rattle.std.proofs.lemmas.List.{append-nil, take-append-drop}
use Rattle.std.proofs.lemmas.Bool.Decides.{nat_tests}
use Rattle.std.specs.Ordering.{is_le}
use Rattle.tk_model.specs.Orders.{key_cmp, same_bytes}
use Rattle.tk_model.specs.Records.{find, put}
use Rattle.tk_model.specs.declared.record.Order.{Order}
use Rattle.tk_model.specs.declared.record.Pair.{Pair}
use Rattle.tk_page.specs.declared.page.Child.{Child}
use Rattle.tk_page.specs.declared.page.Page.{Page as Spelled}
use Rattle.tk_page.specs.declared.page.Page.TheVariants as pages
use Rattle.tk_tree.specs.Tree.{Leaf, KeyedChild, Tree, over, number_of}
use Rattle.tk_tree.specs.Pages.{number_key, child_of, page_of, stored, pages_of, IsOther}
use Rattle.tk_tree.specs.Put.{SplitPage, TreeAfter, is_long, half_of, least_key, joined, leaf_alone, split_leaf, inner_alone, cut_off, split_inner, spread, put_in, grow, put_tree}
use Rattle.tk_tree.proofs.Parts.{chosen, parts, over_joined, parts_joined}
use Rattle.tk_tree.proofs.Puts.{split_few, some_so}

-- the first of two that is there
abbrev pub first_of : Option (List ℕ) → Option (List ℕ) → Option (List ℕ)
first_of (Some v) o = Some v
first_of None o = o

first_if : (b : Bool) (v : List ℕ) (o p : Option (List ℕ)) → (if b then Some v else first_of o p) ≡ first_of (if b then Some v else o) p
first_if true v o p = refl
first_if false v o p = refl

pub find_append : (k : List ℕ) (ps qs : List Pair) → find k (ps ++ qs) ≡ first_of (find k ps) (find k qs)
find_append k [] qs = refl
find_append k (p ∷ ps) qs =
    ap (λ o. if same_bytes k p.key then Some p.value else o) (find_append k ps qs) ∙ first_if (same_bytes k p.key) p.value (find k ps) (find k qs)

pub other_both : (k : List ℕ) (ns ms : List ℕ) → IsOther k (ns ++ ms) → IsOther k ns × IsOther k ms
other_both k [] ms other = (tt, other)
other_both k (n ∷ ns) ms other = let deeper = other_both k ns ms other.1 in ((other.0, deeper.0), deeper.1)

pub skip : (k : List ℕ) (n : ℕ) (page : Spelled) (ps : List Pair) → same_bytes k (number_key n) ≡ false → find k (stored n page ∷ ps) ≡ find k ps
skip k n page ps other = rw other refl

module _ (k : List ℕ) where
  -- ---- leaves

  abbrev Written : SplitPage Leaf → Type 0
  Written b = IsOther k b.wrote → find k (parts (pages_of 0) b) ≡ None

  leaf_written : (number : ℕ) (ps : List Pair) (next : ℕ) → Written (leaf_alone number ps next)
  leaf_written number ps next other = skip k number (page_of 0 (record { number = number; pairs = ps })) [] other.0

  pub split_written : (fuel number : ℕ) (ps : List Pair) (next : ℕ) → Written (split_leaf fuel number ps next)
  split_written zero number ps next = leaf_written number ps next
  split_written (suc fuel) number ps next =
      let a = split_leaf fuel number (take (half_of ps) ps) (next + 1) in
      let b = split_leaf fuel next (drop (half_of ps) ps) a.next in
      chosen Written (is_long ps) (joined a (least_key (drop (half_of ps) ps)) b) (leaf_alone number ps next)
      (λ long other.
      let both = other_both k a.wrote b.wrote other in
      ap (find k) (parts_joined (pages_of 0) a b (least_key (drop (half_of ps) ps))) ∙ find_append k (parts (pages_of 0) a) (parts (pages_of 0) b)
      ∙ ap (λ o. first_of o (find k (parts (pages_of 0) b))) (split_written fuel number (take (half_of ps) ps) (next + 1) both.0)
      ∙ split_written fuel next (drop (half_of ps) ps) a.next both.1)
      (λ short. leaf_written number ps next)

  split_number : (fuel number : ℕ) (ps : List Pair) (next : ℕ) → (split_leaf fuel number ps next).first.number ≡ number
  split_number zero number ps next = refl
  split_number (suc fuel) number ps next =
      let a = split_leaf fuel number (take (half_of ps) ps) (next + 1) in
      chosen (λ (x : SplitPage Leaf). x.first.number ≡ number) (is_long ps) (joined a (least_key (drop (half_of ps) ps)) (split_leaf fuel next (drop (half_of ps) ps) a.next)) (leaf_alone number ps next)
      (λ long. split_number fuel number (take (half_of ps) ps) (next + 1)) (λ short. refl)

  -- a leaf that is split is written
  pub leaf_wrote : (fuel number : ℕ) (ps : List Pair) (next : ℕ) → IsOther k (split_leaf fuel number ps next).wrote → same_bytes k (number_key number) ≡ false
  leaf_wrote zero number ps next other = other.0
  leaf_wrote (suc fuel) number ps next other =
      let a = split_leaf fuel number (take (half_of ps) ps) (next + 1) in
      let b = split_leaf fuel next (drop (half_of ps) ps) a.next in
      chosen (λ (x : SplitPage Leaf). IsOther k x.wrote → same_bytes k (number_key number) ≡ false) (is_long ps) (joined a (least_key (drop (half_of ps) ps)) b) (leaf_alone number ps next)
      (λ long others. leaf_wrote fuel number (take (half_of ps) ps) (next + 1) (other_both k a.wrote b.wrote others).0) (λ short others. others.0) other

  module _ (n : ℕ) where
    cut_wrote : (number : ℕ) (t : Tree n) (ks us : List (KeyedChild (Tree n))) (next : ℕ) (others : Tree n → List (KeyedChild (Tree n)) → SplitPage (Tree (suc n))) → IsOther k (cut_off (inner_alone number t ks next) us others).wrote
        → same_bytes k (number_key number) ≡ false
    cut_wrote number t ks [] next others other = other.0
    cut_wrote number t ks (u ∷ us) next others other = other.0

    pub inner_wrote : (fuel number : ℕ) (t : Tree n) (ks : List (KeyedChild (Tree n))) (next : ℕ) → IsOther k (split_inner fuel number t ks next).wrote → same_bytes k (number_key number) ≡ false
    inner_wrote zero number t ks next other = other.0
    inner_wrote (suc fuel) number t ks next other =
        chosen (λ (x : SplitPage (Tree (suc n))). IsOther k x.wrote → same_bytes k (number_key number) ≡ false) (nat_lt 127 (length ks))
        (cut_off (inner_alone number t (take 63 ks) (next + 1)) (drop 63 ks) (λ u more. split_inner fuel next u more (next + 1)))
        (inner_alone number t ks next)
        (λ long others. cut_wrote number t (take 63 ks) (drop 63 ks) (next + 1) (λ u more. split_inner fuel next u more (next + 1)) others) (λ short others. others.0) other

    -- ---- inner pages

    abbrev Keeps : (t : Tree n) (ks : List (KeyedChild (Tree n))) → SplitPage (Tree (suc n)) → Type 0
    Keeps t ks b = IsOther k b.wrote → find k (parts (pages_of (suc n)) b) ≡ find k (over (pages_of n) t ks)

    alone_keeps : (number : ℕ) (t : Tree n) (ks : List (KeyedChild (Tree n))) (next : ℕ) → Keeps t ks (inner_alone number t ks next)
    alone_keeps number t ks next other =
        skip k number (page_of (suc n) (record { number = number; first = t; rest = ks })) (over (pages_of n) t ks ++ []) other.0 ∙ ap (find k) (append-nil (over (pages_of n) t ks))

    cut_keeps : (number : ℕ) (t : Tree n) (ks us : List (KeyedChild (Tree n))) (next : ℕ) (others : Tree n → List (KeyedChild (Tree n)) → SplitPage (Tree (suc n))) → ((u : Tree n) (more : List (KeyedChild (Tree n))) → Keeps u more (others u more))
        → Keeps t (ks ++ us) (cut_off (inner_alone number t ks next) us others)
    cut_keeps number t ks [] next others known other = alone_keeps number t ks next other ∙ ap (λ l. find k (over (pages_of n) t l)) (sym (append-nil ks))
    cut_keeps number t ks (u ∷ us) next others known other =
        let a = inner_alone number t ks next in
        let b = others u.tree us in
        let both = other_both k a.wrote b.wrote other in
        ap (find k) (parts_joined (pages_of (suc n)) a b u.key) ∙ find_append k (parts (pages_of (suc n)) a) (parts (pages_of (suc n)) b)
        ∙ ap (λ o. first_of o (find k (parts (pages_of (suc n)) b))) (alone_keeps number t ks next both.0)
        ∙ ap (λ o. first_of (find k (over (pages_of n) t ks)) o) (known u.tree us both.1)
        ∙ sym (find_append k (over (pages_of n) t ks) (over (pages_of n) u.tree us)) ∙ ap (find k) (sym (over_joined (pages_of n) t ks u us))

    pub split_keeps : (fuel number : ℕ) (t : Tree n) (ks : List (KeyedChild (Tree n))) (next : ℕ) → Keeps t ks (split_inner fuel number t ks next)
    split_keeps zero number t ks next = alone_keeps number t ks next
    split_keeps (suc fuel) number t ks next =
        chosen (Keeps t ks) (nat_lt 127 (length ks))
        (cut_off (inner_alone number t (take 63 ks) (next + 1)) (drop 63 ks) (λ u more. split_inner fuel next u more (next + 1)))
        (inner_alone number t ks next)
        (λ long. subst (λ l. Keeps t l (cut_off (inner_alone number t (take 63 ks) (next + 1)) (drop 63 ks) (λ u more. split_inner fuel next u more (next + 1)))) (take-append-drop 63 ks)
        (cut_keeps number t (take 63 ks) (drop 63 ks) (next + 1) (λ u more. split_inner fuel next u more (next + 1)) (λ u more. split_keeps fuel next u more (next + 1))))
        (λ short. alone_keeps number t ks next)

    cut_number : (page : SplitPage (Tree (suc n))) (us : List (KeyedChild (Tree n))) (others : Tree n → List (KeyedChild (Tree n)) → SplitPage (Tree (suc n))) → (cut_off page us others).first.number ≡ page.first.number
    cut_number page [] others = refl
    cut_number page (u ∷ us) others = refl

    inner_number : (fuel number : ℕ) (t : Tree n) (ks : List (KeyedChild (Tree n))) (next : ℕ) → (split_inner fuel number t ks next).first.number ≡ number
    inner_number zero number t ks next = refl
    inner_number (suc fuel) number t ks next =
        chosen (λ (x : SplitPage (Tree (suc n))). x.first.number ≡ number) (nat_lt 127 (length ks))
        (cut_off (inner_alone number t (take 63 ks) (next + 1)) (drop 63 ks) (λ u more. split_inner fuel next u more (next + 1)))
        (inner_alone number t ks next)
        (λ long. cut_number (inner_alone number t (take 63 ks) (next + 1)) (drop 63 ks) (λ u more. split_inner fuel next u more (next + 1))) (λ short. refl)

    -- ---- children of which one became pages

    module _ (o : Order) (key : List ℕ) (g : Tree n → SplitPage (Tree n)) (keeps : (u : Tree n) → IsOther k (g u).wrote → find k (parts (pages_of n) (g u)) ≡ find k (pages_of n u)) where
      spread_by : (b : Bool) (t : Tree n) (j : KeyedChild (Tree n)) (ks : List (KeyedChild (Tree n)))
          → (IsOther k (spread o key g j.tree ks).wrote → find k (parts (pages_of n) (spread o key g j.tree ks)) ≡ find k (over (pages_of n) j.tree ks))
          → let c = if b then (let d = spread o key g j.tree ks in record d { first = t; rest = record { key = j.key; tree = d.first } ∷ d.rest }) else (let d = g t in record d { rest = d.rest ++ j ∷ ks }) in
          IsOther k c.wrote → find k (parts (pages_of n) c) ≡ find k (over (pages_of n) t (j ∷ ks))
      spread_by true t j ks deeper other =
          find_append k (pages_of n t) (parts (pages_of n) (spread o key g j.tree ks)) ∙ ap (λ x. first_of (find k (pages_of n t)) x) (deeper other)
          ∙ sym (find_append k (pages_of n t) (over (pages_of n) j.tree ks))
      spread_by false t j ks deeper other =
          ap (find k) (over_joined (pages_of n) (g t).first (g t).rest j ks) ∙ find_append k (parts (pages_of n) (g t)) (over (pages_of n) j.tree ks)
          ∙ ap (λ x. first_of x (find k (over (pages_of n) j.tree ks))) (keeps t other) ∙ sym (find_append k (pages_of n t) (over (pages_of n) j.tree ks))

      pub spread_keeps : (t : Tree n) (ks : List (KeyedChild (Tree n))) → IsOther k (spread o key g t ks).wrote → find k (parts (pages_of n) (spread o key g t ks)) ≡ find k (over (pages_of n) t ks)
      spread_keeps t [] other = keeps t other ∙ ap (find k) (sym (append-nil (pages_of n t)))
      spread_keeps t (j ∷ ks) other = spread_by (is_le (key_cmp o j.key key)) t j ks (spread_keeps j.tree ks) other

-- ---- where no child was split, a page stays as it is

module _ (n : ℕ) (o : Order) (key : List ℕ) (g : Tree n → SplitPage (Tree n)) (numbered : (u : Tree n) → number_of n (g u).first ≡ number_of n u) where
  abbrev SameLinks : (t : Tree n) (ks : List (KeyedChild (Tree n))) → SplitPage (Tree n) → Type 0
  SameLinks t ks b = (number_of n b.first ≡ number_of n t) × (length b.rest ≡ length ks → map (child_of n) b.rest ≡ map (child_of n) ks)

  nothing : (ks : List (KeyedChild (Tree n))) (m : ℕ) → length ks ≡ 0 → ks ≡ []
  nothing [] m none = refl
  nothing (j ∷ ks) m none = absurd (omega (arith, none))

  links_by : (b : Bool) (t : Tree n) (j : KeyedChild (Tree n)) (ks : List (KeyedChild (Tree n))) → SameLinks j.tree ks (spread o key g j.tree ks)
      → SameLinks t (j ∷ ks) (if b then (let d = spread o key g j.tree ks in record d { first = t; rest = record { key = j.key; tree = d.first } ∷ d.rest }) else (let d = g t in record d { rest = d.rest ++ j ∷ ks }))
  links_by true t j ks deeper = (
    refl,
    λ long. let d = spread o key g j.tree ks in
        ap (λ m. record { page = m; key = j.key } ∷ map (child_of n) d.rest) deeper.0 ∙ ap (λ l. child_of n j ∷ l) (deeper.1 (omega (arith, long))),
  )
  links_by false t j ks deeper =
      (numbered t, λ long. ap (λ l. map (child_of n) (l ++ j ∷ ks)) (nothing (g t).rest 0 (omega (arith, long, length-append (g t).rest (j ∷ ks)))))

  pub same_links : (t : Tree n) (ks : List (KeyedChild (Tree n))) → SameLinks t ks (spread o key g t ks)
  same_links t [] = (numbered t, λ long. ap (λ l. map (child_of n) l) (nothing (g t).rest 0 (omega (arith, long))))
  same_links t (j ∷ ks) = links_by (is_le (key_cmp o j.key key)) t j ks (same_links j.tree ks)

abbrev inner_page : (first : ℕ) → List Child → Spelled
inner_page first cs = pages.Inner (record { page = first; key = [] } ∷ cs)

eq_so : (m n : ℕ) → (m == n) ≡ true → m ≡ n
eq_so m n h = grind (arith, nat_tests)

pub put_number : (o : Order) (new : Pair) (n : ℕ) (t : Tree n) (next : ℕ) → number_of n (put_in o new n t next).first ≡ number_of n t
put_number o new zero t next = split_number [] (length (put o new t.pairs)) t.number (put o new t.pairs) next
put_number o new (suc n) t next =
    let b = spread o new.key (λ u. put_in o new n u next) t.first t.rest in
    chosen (λ (x : SplitPage (Tree (suc n))). x.first.number ≡ t.number) (length b.rest == length t.rest)
    (record { first = record { number = t.number; first = b.first; rest = b.rest }; rest = []; next = b.next; wrote = b.wrote })
    (let c = split_inner (length b.rest) t.number b.first b.rest b.next in record c { wrote = b.wrote ++ c.wrote })
    (λ same. refl) (λ more. inner_number [] n (length b.rest) t.number b.first b.rest b.next)

-- a page that a put doesn't write stays as it is
pub put_keeps : (k : List ℕ) (o : Order) (new : Pair) (n : ℕ) (t : Tree n) (next : ℕ) → IsOther k (put_in o new n t next).wrote → find k (parts (pages_of n) (put_in o new n t next)) ≡ find k (pages_of n t)
put_keeps k o new zero t next other =
    split_written k (length (put o new t.pairs)) t.number (put o new t.pairs) next other
    ∙ sym (skip k t.number (page_of 0 t) [] (leaf_wrote k (length (put o new t.pairs)) t.number (put o new t.pairs) next other))
put_keeps k o new (suc n) t next other =
    let b = spread o new.key (λ u. put_in o new n u next) t.first t.rest in
    let below : IsOther k b.wrote → find k (parts (pages_of n) b) ≡ find k (over (pages_of n) t.first t.rest) =
    spread_keeps k n o new.key (λ u. put_in o new n u next) (λ u. put_keeps k o new n u next) t.first t.rest in
    let links = same_links n o new.key (λ u. put_in o new n u next) (λ u. put_number o new n u next) t.first t.rest in
    chosen (λ (x : SplitPage (Tree (suc n))). IsOther k x.wrote → find k (parts (pages_of (suc n)) x) ≡ find k (pages_of (suc n) t)) (length b.rest == length t.rest)
    (record { first = record { number = t.number; first = b.first; rest = b.rest }; rest = []; next = b.next; wrote = b.wrote })
    (let c = split_inner (length b.rest) t.number b.first b.rest b.next in record c { wrote = b.wrote ++ c.wrote })
    (λ same others.
    ap (find k) (append-nil (pages_of (suc n) (record { number = t.number; first = b.first; rest = b.rest })))
    ∙ ap (λ m. find k (stored t.number (inner_page m (map (child_of n) b.rest)) ∷ parts (pages_of n) b)) links.0
    ∙ ap (λ l. find k (stored t.number (inner_page (number_of n t.first) l) ∷ parts (pages_of n) b)) (links.1 (eq_so _ _ same))
    ∙ ap (λ x. if same_bytes k (number_key t.number) then Some (stored t.number (page_of (suc n) t)).value else x) (below others))
    (λ more others.
    let c = split_inner (length b.rest) t.number b.first b.rest b.next in
    let both = other_both k b.wrote c.wrote others in
    split_keeps k n (length b.rest) t.number b.first b.rest b.next both.1
    ∙ below both.0
    ∙ sym (skip k t.number (page_of (suc n) t) (over (pages_of n) t.first t.rest) (inner_wrote k n (length b.rest) t.number b.first b.rest b.next both.1)))
    other

-- ---- the root

grow_alone : (k : List ℕ) (n : ℕ) (t : Tree n) (ks : List (KeyedChild (Tree n))) → length ks ≡ 0 → find k (pages_of n t) ≡ find k (over (pages_of n) t ks)
grow_alone k n t [] none = ap (find k) (sym (append-nil (pages_of n t)))
grow_alone k n t (j ∷ ks) none = absurd (omega (arith, none))

pub grow_keeps : (k : List ℕ) (fuel n : ℕ) (b : SplitPage (Tree n)) → length b.rest ≤ fuel → IsOther k (grow fuel n b).wrote
    → IsOther k b.wrote × (find k (pages_of (grow fuel n b).levels (grow fuel n b).top) ≡ find k (parts (pages_of n) b))
grow_keeps k zero n b few other = (other, grow_alone k n b.first b.rest (omega arith))
grow_keeps k (suc fuel) n b few other =
    let c = split_inner (length b.rest) b.next b.first b.rest (b.next + 1) in
    let d = record c { wrote = b.wrote ++ c.wrote } in
    chosen (λ (x : TreeAfter). IsOther k x.wrote → IsOther k b.wrote × (find k (pages_of x.levels x.top) ≡ find k (parts (pages_of n) b))) (length b.rest == 0)
    (record { levels = n; top = b.first; next = b.next; wrote = b.wrote })
    (grow fuel (suc n) d)
    (λ none others. (others, grow_alone k n b.first b.rest (eq_so (length b.rest) 0 none)))
    (λ some others.
    let deeper = grow_keeps k fuel (suc n) d (omega (arith, some_so (length b.rest) some, split_few (length b.rest) b.next b.first b.rest (b.next + 1))) others in
    let both = other_both k b.wrote c.wrote deeper.0 in
    (both.0, deeper.1 ∙ split_keeps k n (length b.rest) b.next b.first b.rest (b.next + 1) both.1))
    other

-- a page that a put in a tree doesn't write stays as it is
pub put_tree_keeps : (k : List ℕ) (o : Order) (new : Pair) (n : ℕ) (t : Tree n) (next : ℕ) → IsOther k (put_tree o new n t next).wrote
    → find k (pages_of (put_tree o new n t next).levels (put_tree o new n t next).top) ≡ find k (pages_of n t)
put_tree_keeps k o new n t next other =
    let b = put_in o new n t next in
    let grown = grow_keeps k (length b.rest) n b (omega arith) other in
    grown.1 ∙ put_keeps k o new n t next grown.0
