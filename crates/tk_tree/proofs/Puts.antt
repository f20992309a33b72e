-- A record that is put in a tree is put in its records, and the tree stays valid.
use Rattle.std.proofs.Common.{◌≡◌, ℕ, zero, suc, ◌+◌, ◌-◌, ◌≤◌, Bool, true, false, if◌then◌else◌, List, [], ◌∷◌, ◌++◌, length, take, drop, Option, Some, None, refl, sym, ap, subst, ◌∙◌, arith, length-append, length-drop}
use Rattle.std.specs.Prelude.{nat_lt, ◌==◌}
use Rattle.std.proofs.lemmas.List.{append-nil}
use Rattle.std.proofs.lemmas.Bool.Decides.{nat_tests}
use Rattle.std.specs.Ordering.{is_le}
use Rattle.std.specs.declared.cmp.Ordering.{Ordering}
use Rattle.std.specs.declared.cmp.Ordering.TheVariants.{Less, Equal, Greater}
use Rattle.tk_model.specs.Orders.{key_cmp}
use Rattle.tk_model.specs.Records.{put, put_by}
use Rattle.tk_model.specs.declared.record.Order.{Order}
use Rattle.tk_model.specs.declared.record.Pair.{Pair}
use Rattle.tk_model.proofs.RecordLaws.{put_rising}
use Rattle.tk_tree.specs.Tree.{KeyedChild, Inner, Tree, over, records_of}
use Rattle.tk_tree.specs.Formed.{Between, AllBetween, AllPast, KeysRise, ChildrenWithin, IsWithin}
use Rattle.tk_tree.specs.Put.{SplitPage, inner_alone, cut_off, split_inner, spread, raised, put_in, grow, put_tree}
use Rattle.tk_tree.specs.Put.{LeadsTo}
use Rattle.tk_tree.proofs.Keys.{before_key, behind_key, not_le, put_behind, put_before}
use Rattle.tk_tree.proofs.Lookups.{children_between, records_between}
use Rattle.tk_tree.proofs.Parts.{chosen, parts, over_joined, AllPastLow, past_farther, past_low_append, IsRun, children_joined, children_ahead, rise_joined}
use Rattle.tk_tree.proofs.LeafSplits.{split_records, split_within as leaf_within}
use Rattle.tk_tree.proofs.InnerSplits.{of_inner, split_has, split_within as inner_within}

-- ---- bounds of what is put

put_by_between : (o : Order) (low high : Option (List ℕ)) (c : Ordering) (new p : Pair) (ps deeper : List Pair) → Between o low high new.key → AllBetween o low high (p ∷ ps) → AllBetween o low high deeper
    → AllBetween o low high (put_by c new p ps deeper)
put_by_between o low high Less new p ps deeper between all more = (between, all)
put_by_between o low high Equal new p ps deeper between all more = (between, all.1)
put_by_between o low high Greater new p ps deeper between all more = (all.0, more)

put_between : (o : Order) (low high : Option (List ℕ)) (new : Pair) (ps : List Pair) → Between o low high new.key → AllBetween o low high ps → AllBetween o low high (put o new ps)
put_between o low high new [] between all = (between, tt)
put_between o low high new (p ∷ ps) between all = put_by_between o low high (key_cmp o new.key p.key) new p ps (put o new ps) between all (put_between o low high new ps between all.1)

-- ---- children of which one became pages

module _ {T : Type 0} (o : Order) (P : (low high : Option (List ℕ)) → T → Type 0) (g : T → SplitPage T) where
  module _ (f : T → List Pair) (new : Pair) (known : (low high : Option (List ℕ)) (t : T) → P low high t → AllBetween o low high (f t))
      (puts : (low high : Option (List ℕ)) (t : T) → P low high t → parts f (g t) ≡ put o new (f t)) where
    spread_by : (b : Bool) (low high : Option (List ℕ)) (t : T) (k : KeyedChild T) (ks : List (KeyedChild T)) → is_le (key_cmp o k.key new.key) ≡ b → ChildrenWithin o P low high t (k ∷ ks)
        → parts f (spread o new.key g k.tree ks) ≡ put o new (over f k.tree ks)
        → parts f (if b then (let c = spread o new.key g k.tree ks in record c { first = t; rest = record { key = k.key; tree = c.first } ∷ c.rest }) else (let c = g t in record c { rest = c.rest ++ k ∷ ks }))
        ≡ put o new (f t ++ over f k.tree ks)
    spread_by true low high t k ks is children deeper =
        ap (λ l. f t ++ l) deeper ∙ sym (put_before o new (f t) (over f k.tree ks) (before_key o low k.key new.key (f t) (known low (Some k.key) t children.1) is))
    spread_by false low high t k ks is children deeper =
        over_joined f (g t).first (g t).rest k ks
        ∙ ap (λ l. l ++ over f k.tree ks) (puts low (Some k.key) t children.1)
        ∙ sym (put_behind o new (f t) (over f k.tree ks) (behind_key o k.key new.key high (over f k.tree ks) (children_between o f P known (Some k.key) high k.tree ks children.2) (not_le o k.key new.key is)))

    pub spread_records : (low high : Option (List ℕ)) (t : T) (ks : List (KeyedChild T)) → ChildrenWithin o P low high t ks → parts f (spread o new.key g t ks) ≡ put o new (over f t ks)
    spread_records low high t [] children = puts low high t children ∙ ap (put o new) (sym (append-nil (f t)))
    spread_records low high t (k ∷ ks) children =
        spread_by (is_le (key_cmp o k.key new.key)) low high t k ks refl children (spread_records (Some k.key) high k.tree ks children.2)

  module _ (key : List ℕ) (stands : (low high : Option (List ℕ)) (t : T) → P low high t → Between o low high key → IsRun o P low high (g t)) where
    -- what is kept of the children: their bounds, the order of their keys, and a bound that all keys were past
    pub record IsSpread (low high : Option (List ℕ)) (before : List (KeyedChild T)) (b : SplitPage T) : Type 0 where
      pub children : ChildrenWithin o P low high b.first b.rest
      pub rise : KeysRise o b.rest
      pub past : AllPastLow o low before → AllPastLow o low b.rest

    cons_past : (low : Option (List ℕ)) (k : KeyedChild T) (u : T) (before after : List (KeyedChild T)) → AllPast o k.key after → AllPastLow o low (k ∷ before) → AllPastLow o low (record { key = k.key; tree = u } ∷ after)
    cons_past None k u before after all past = tt
    cons_past (Some low) k u before after all past = (past.0, past_farther o low k.key after past.0 all)

    spread_within_by : (b : Bool) (low high : Option (List ℕ)) (t : T) (k : KeyedChild T) (ks : List (KeyedChild T)) → is_le (key_cmp o k.key key) ≡ b → Between o low high key → ChildrenWithin o P low high t (k ∷ ks) → KeysRise o (k ∷ ks)
        → (Between o (Some k.key) high key → IsSpread (Some k.key) high ks (spread o key g k.tree ks))
        → IsSpread low high (k ∷ ks) (if b then (let c = spread o key g k.tree ks in record c { first = t; rest = record { key = k.key; tree = c.first } ∷ c.rest }) else (let c = g t in record c { rest = c.rest ++ k ∷ ks }))
    spread_within_by true low high t k ks is between children rise deeper =
        let d = deeper (record { from = is; under = between.under }) in
        record {
          children = (children.0, children.1, d.children);
          rise = (d.past rise.0, d.rise);
          past = cons_past low k (spread o key g k.tree ks).first ks (spread o key g k.tree ks).rest (d.past rise.0);
        }
    spread_within_by false low high t k ks is between children rise deeper =
        let run = stands low (Some k.key) t children.1 (record { from = between.from; under = not_le o k.key key is }) in
        record {
          children = children_joined o P low high (g t).first (g t).rest k ks run.children children.0 children.2;
          rise = rise_joined o (g t).rest k ks run.rise (children_ahead o P low k.key (g t).first (g t).rest run.children) rise;
          past = λ all. past_low_append o low (g t).rest (k ∷ ks) run.past all;
        }

    pub spread_within : (low high : Option (List ℕ)) (t : T) (ks : List (KeyedChild T)) → Between o low high key → ChildrenWithin o P low high t ks → KeysRise o ks → IsSpread low high ks (spread o key g t ks)
    spread_within low high t [] between children rise =
        let run = stands low high t children between in record { children = run.children; rise = run.rise; past = λ all. run.past }
    spread_within low high t (k ∷ ks) between children rise =
        spread_within_by (is_le (key_cmp o k.key key)) low high t k ks refl between children rise (λ closer. spread_within (Some k.key) high k.tree ks closer children.2 rise.1)

-- ---- the page above

same_so : (m n : ℕ) → (m == n) ≡ true → m ≡ n
same_so m n e = grind (arith, nat_tests)

raised_has : {T A : Type 0} (f : T → List A) (number : ℕ) (before : List (KeyedChild T)) (b : SplitPage T) → parts (of_inner f) (raised number before b) ≡ parts f b
raised_has f number before b =
    chosen (λ x. parts (of_inner f) x ≡ parts f b) (length b.rest == length before)
    (record { first = record { number = number; first = b.first; rest = b.rest }; rest = []; next = b.next; wrote = b.wrote })
    (let c = split_inner (length b.rest) number b.first b.rest b.next in record c { wrote = b.wrote ++ c.wrote })
    (λ _. append-nil (parts f b)) (λ _. split_has f (length b.rest) number b.first b.rest b.next)

rewrote : {T : Type 0} (o : Order) (P : (low high : Option (List ℕ)) → T → Type 0) (low high : Option (List ℕ)) (b : SplitPage T) (wrote : List ℕ) → IsRun o P low high b → IsRun o P low high (record b { wrote = wrote })
rewrote o P low high b wrote run = record { children = run.children; rise = run.rise; past = run.past }

alone_run : (o : Order) (n : ℕ) (low high : Option (List ℕ)) (b : SplitPage (Tree (suc n))) → b.rest ≡ [] → IsWithin o (suc n) low high b.first → IsRun o (IsWithin o (suc n)) low high b
alone_run o n None high b none is = subst (λ l. IsRun o (IsWithin o (suc n)) None high (record b { rest = l })) (sym none) (record { children = is; rise = tt; past = tt })
alone_run o n (Some low) high b none is = subst (λ l. IsRun o (IsWithin o (suc n)) (Some low) high (record b { rest = l })) (sym none) (record { children = is; rise = tt; past = tt })

raised_within : (o : Order) (n : ℕ) (low high : Option (List ℕ)) (number : ℕ) (before : List (KeyedChild (Tree n))) (b : SplitPage (Tree n)) → length before ≤ 127 → ChildrenWithin o (IsWithin o n) low high b.first b.rest → KeysRise o b.rest
    → IsRun o (IsWithin o (suc n)) low high (raised number before b)
raised_within o n low high number before b few children rise =
    chosen (λ x. IsRun o (IsWithin o (suc n)) low high x) (length b.rest == length before)
    (record { first = record { number = number; first = b.first; rest = b.rest }; rest = []; next = b.next; wrote = b.wrote })
    (let c = split_inner (length b.rest) number b.first b.rest b.next in record c { wrote = b.wrote ++ c.wrote })
    (λ same. alone_run o n low high (record { first = record { number = number; first = b.first; rest = b.rest }; rest = []; next = b.next; wrote = b.wrote }) refl
    (omega (arith, same_so (length b.rest) (length before) same), rise, children))
    (λ _. let c = split_inner (length b.rest) number b.first b.rest b.next in
    rewrote o (IsWithin o (suc n)) low high c (b.wrote ++ c.wrote) (inner_within o n low high (length b.rest) number b.first b.rest b.next (omega arith) rise children))

-- ---- a record put in a page

pub put_records : (o : Order) (new : Pair) (n : ℕ) (low high : Option (List ℕ)) (t : Tree n) (next : ℕ) → IsWithin o n low high t → parts (records_of n) (put_in o new n t next) ≡ put o new (records_of n t)
put_records o new zero low high t next is = split_records (length (put o new t.pairs)) t.number (put o new t.pairs) next
put_records o new (suc n) low high t next is =
    raised_has (records_of n) t.number t.rest (spread o new.key (λ u. put_in o new n u next) t.first t.rest)
    ∙ spread_records o (IsWithin o n) (λ u. put_in o new n u next) (records_of n) new (λ a b u h. records_between o n a b u h) (λ a b u h. put_records o new n a b u next h) low high t.first t.rest is.2

pub put_within : (o : Order) (new : Pair) (n : ℕ) (low high : Option (List ℕ)) (t : Tree n) (next : ℕ) → IsWithin o n low high t → Between o low high new.key → IsRun o (IsWithin o n) low high (put_in o new n t next)
put_within o new zero low high t next is between =
    leaf_within o low high (length (put o new t.pairs)) t.number (put o new t.pairs) next (omega arith) (put_rising o new t.pairs is.0) (put_between o low high new t.pairs between is.1)
put_within o new (suc n) low high t next is between =
    let s = spread_within o (IsWithin o n) (λ u. put_in o new n u next) new.key (λ a b u h closer. put_within o new n a b u next h closer) low high t.first t.rest between is.2 is.1 in
    raised_within o n low high t.number t.rest (spread o new.key (λ u. put_in o new n u next) t.first t.rest) is.0 s.children s.rise

-- ---- the root

alone_stands : (o : Order) (n : ℕ) (t : Tree n) (ks : List (KeyedChild (Tree n))) (next : ℕ) (wrote : List ℕ) (m : List Pair) → length ks ≡ 0 → over (records_of n) t ks ≡ m → ChildrenWithin o (IsWithin o n) None None t ks
    → LeadsTo o m (record { levels = n; top = t; next = next; wrote = wrote })
alone_stands o n t [] next wrote m none has children = record { records = sym (append-nil (records_of n t)) ∙ has; within = children }
alone_stands o n t (k ∷ ks) next wrote m none has children = absurd (omega (arith, none))

cut_fewer : {T : Type 0} (page : SplitPage (Inner T)) (us : List (KeyedChild T)) (others : T → List (KeyedChild T) → SplitPage (Inner T)) → page.rest ≡ []
    → ((u : T) (more : List (KeyedChild T)) → length (others u more).rest ≤ length more - 1) → length (cut_off page us others).rest ≤ length us
cut_fewer page [] others alone known = omega (arith, ap length alone)
cut_fewer page (k ∷ us) others alone known = omega (arith, ap length alone, known k.tree us, length-append page.rest (record { key = k.key; tree = (others k.tree us).first } ∷ (others k.tree us).rest))

-- there are fewer pages than children behind the first
pub split_few : {T : Type 0} (fuel number : ℕ) (t : T) (ks : List (KeyedChild T)) (next : ℕ) → length (split_inner fuel number t ks next).rest ≤ length ks - 1
split_few zero number t ks next = omega arith
split_few (suc fuel) number t ks next =
    chosen (λ x. length x.rest ≤ length ks - 1) (nat_lt 127 (length ks))
    (cut_off (inner_alone number t (take 63 ks) (next + 1)) (drop 63 ks) (λ u more. split_inner fuel next u more (next + 1)))
    (inner_alone number t ks next)
    (λ long. omega (arith, length-drop 63 ks, cut_fewer (inner_alone number t (take 63 ks) (next + 1)) (drop 63 ks) (λ u more. split_inner fuel next u more (next + 1)) refl (λ u more. split_few fuel next u more (next + 1))))
    (λ short. omega arith)

pub some_so : (n : ℕ) → (n == 0) ≡ false → 1 ≤ n
some_so n e = grind (arith, nat_tests)

pub grow_stands : (o : Order) (fuel n : ℕ) (b : SplitPage (Tree n)) (m : List Pair) → length b.rest ≤ fuel → parts (records_of n) b ≡ m → ChildrenWithin o (IsWithin o n) None None b.first b.rest → KeysRise o b.rest
    → LeadsTo o m (grow fuel n b)
grow_stands o zero n b m few has children rise = alone_stands o n b.first b.rest b.next b.wrote m (omega arith) has children
grow_stands o (suc fuel) n b m few has children rise =
    let c = split_inner (length b.rest) b.next b.first b.rest (b.next + 1) in
    chosen (λ x. LeadsTo o m x) (length b.rest == 0)
    (record { levels = n; top = b.first; next = b.next; wrote = b.wrote })
    (grow fuel (suc n) (record c { wrote = b.wrote ++ c.wrote }))
    (λ none. alone_stands o n b.first b.rest b.next b.wrote m (same_so (length b.rest) 0 none) has children)
    (λ some.
    let run = inner_within o n None None (length b.rest) b.next b.first b.rest (b.next + 1) (omega arith) rise children in
    grow_stands o fuel (suc n) (record c { wrote = b.wrote ++ c.wrote }) m (omega (arith, some_so (length b.rest) some, split_few (length b.rest) b.next b.first b.rest (b.next + 1))) (split_has (records_of n) (length b.rest) b.next b.first b.rest (b.next + 1) ∙ has) run.children run.rise)

-- a record put in a tree is put in its records
pub put_tree_stands : (o : Order) (new : Pair) (n : ℕ) (t : Tree n) (next : ℕ) → IsWithin o n None None t → LeadsTo o (put o new (records_of n t)) (put_tree o new n t next)
put_tree_stands o new n t next is =
    let b = put_in o new n t next in
    let run = put_within o new n None None t next is (record { from = tt; under = tt }) in
    grow_stands o (length b.rest) n b (put o new (records_of n t)) (omega arith) (put_records o new n None None t next is) run.children run.rise
