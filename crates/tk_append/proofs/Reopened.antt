-- Nothing fails in the closed file of groups.
use Rattle.std.proofs.Common.{◌≡◌, ◌≢◌, ℕ, zero, suc, ◌+◌, ◌*◌, ◌<◌, ◌≤◌, ◌^◌, Bool, true, false, cond, List, [], ◌∷◌, ◌++◌, length, take, drop, refl, sym, ◌∙◌, ap, subst, arith, append_assoc, inl, inr}
use Rattle.std.specs.Prelude.{Option, Some, None, ◌==◌, ◌&&◌, ◌||◌, not, nat_le}
use Rattle.std.specs.List.{list_any}
use Rattle.std.specs.Int.{w64, to_be_bytes, from_be_bytes}
use Rattle.std.specs.declared.cmp.Ordering.{Ordering}
use Rattle.std.specs.declared.cmp.Ordering.TheVariants.{Less, Equal, Greater}
use Rattle.std.proofs.lemmas.Slice.Eq.{bytes_eq-Decides}
use Rattle.std.proofs.lemmas.Bool.{eq-eqb, ne_eqb, le-leb, cases_eq}
use Rattle.std.proofs.lemmas.Nat.{from_be_bytes-to_be_bytes_8}
use Rattle.std.proofs.lemmas.List.{append-nil, drop_at, take_at, length-append, drop-drop}
use Rattle.tk_model.specs.Records.{AllFit, HasNoClear, IsClearAlone, after, after_one, put, put_by, without, replay}
use Rattle.tk_model.specs.Orders.{same_bytes, key_cmp}
use Rattle.tk_model.specs.Entries.{is_in_shard, holds_key}
use Rattle.tk_model.specs.declared.record.Order.{Order}
use Rattle.tk_model.specs.declared.record.Order.TheVariants.{Hash}
use Rattle.tk_model.specs.declared.record.Pair.{Pair}
use Rattle.tk_model.specs.declared.record.Group.{Group}
use Rattle.tk_model.specs.declared.record.Change.{Change}
use Rattle.tk_model.specs.declared.record.Change.TheVariants.{Put, Drop, Clear}
use Rattle.tk_model.specs.declared.record.ShardOf.{ShardOf}
use Rattle.tk_block.specs.declared.block.Body.{Body}
use Rattle.tk_block.specs.declared.head.StaticHead.{StaticHead}
use Rattle.tk_block.specs.declared.closing.Closing.{Closing}
use Rattle.tk_block.specs.Number.{u64_in}
use Rattle.tk_block.specs.Text.{static_at, static_text, closing_at, closing_text, base_of}
use Rattle.tk_block.specs.Blocks.{IsSmall, body_of, block_text, extent_of, group_bodies, kind_of, key_of, value_of}
use Rattle.tk_block.specs.Grammar.{FitsBody}
use Rattle.tk_block.specs.Layout.{placed, Placed, newest, renewed, is_in, bucket_in, link_of, laid, end_of, texts, links_of, bodies_of, heads_below, heads_text, file_text}
use Rattle.tk_block.proofs.Grammar.{statics, closings, length-static_text, length-closing_text}
use Rattle.tk_block.proofs.BlockReads.{block_head, block_body, block_link, block_padding, block_rest, change_fits}
use Rattle.tk_block.proofs.Lengths.{length-block_text, length-heads_below, length-file_text}
use Rattle.tk_block.proofs.Layouts.{newest-append, length-laid}
use Rattle.tk_append.specs.Log.{AreGroups, AllIn, AllInItsShard, blocks_of, closed_text}
use Rattle.tk_append.specs.Opening.{Walk, Outcome, Ends, begin, walk, walk_on, walked, may_stand, is_in_turn, is_in_its_shard, is_padded, opened_by, records_in, broken_unless, broken_at, place_in, head_fault, count_fault, end_fault, closing_fault, static_fault, first_fault}
use Rattle.tk_append.specs.OpeningLaws.{OpensClosed}
use Rattle.tk_append.specs.Walked.{MayFollow}
use Rattle.tk_append.proofs.Layouts.{end_of-least}
use Rattle.tk_append.proofs.Readings.{file_blocks}
use Rattle.tk_append.proofs.WalkerSteps.{walk_next, goes_on}
use Rattle.tk_append.proofs.ClosedFiles.{changes_of, replayed}

-- bodies that may follow one another, and end with a whole group
abbrev pub Fit : (next : ℕ) (h : StaticHead) (shard : ShardOf) (least : ℕ) (open_group : Option Placed) (place : ℕ) → List Body → Type 0
Fit next h shard least open_group place [] = (open_group ≡ None) × (least ≤ next)
Fit next h shard least open_group place (b ∷ bs) =
    FitsBody b × (not (b.kind == 3) ≡ true) × (is_in_turn least open_group b ≡ true) × (is_in_its_shard h shard b ≡ true)
    × Fit next h shard (cond b.last (b.number + 1) least) (opened_by open_group (placed place b)) (place + extent_of b) bs

small_one : (c : Change) → AllFit (c ∷ []) → IsSmall (key_of c) (value_of c)
small_one (Put p) fit = record { key_fits = omega (arith, fit.0); value_fits = fit.1 }
small_one (Drop k) fit = record { key_fits = omega (arith, fit.0); value_fits = omega arith }
small_one Clear fit = record { key_fits = omega arith; value_fits = omega arith }

fit_head : (c : Change) (cs : List Change) → AllFit (c ∷ cs) → AllFit (c ∷ []) × AllFit cs
fit_head (Put p) cs fit = ((fit.0, fit.1, tt), fit.2)
fit_head (Drop k) cs fit = ((fit.0, tt), fit.1)
fit_head Clear cs fit = (tt, fit)

no_clear_head : (c : Change) (cs : List Change) → HasNoClear (c ∷ cs) → (not (kind_of c == 4) ≡ true) × HasNoClear cs
no_clear_head (Put p) cs none = (refl, none)
no_clear_head (Drop k) cs none = (refl, none)
no_clear_head Clear cs none = absurd none

clear_alone : (c d : Change) (cs : List Change) → IsClearAlone (c ∷ d ∷ cs) → HasNoClear (c ∷ d ∷ cs)
clear_alone (Put p) d cs one = one
clear_alone (Drop k) d cs one = one
clear_alone Clear d cs one = one

no_void : (c : Change) → not (kind_of c == 3) ≡ true
no_void (Put p) = refl
no_void (Drop k) = refl
no_void Clear = refl

or_true : (t : Bool) → (t || true) ≡ true
or_true true = refl
or_true false = refl

at_home : (h : StaticHead) (shard : ShardOf) (n : ℕ) (c : Change) (last : Bool) → is_in_shard shard c ≡ true → is_in_its_shard h shard (body_of n c last) ≡ true
at_home h shard n (Put p) last here = rw here (or_true (not (h.kind == 1) || false))
at_home h shard n (Drop k) last here = rw here (or_true (not (h.kind == 1) || false))
at_home h shard n Clear last here = grind arith

home_of : (h : StaticHead) (shard : ShardOf) (n : ℕ) (c : Change) (last : Bool) → (h.kind ≡ 1 → is_in_shard shard c ≡ true) → is_in_its_shard h shard (body_of n c last) ≡ true
home_of h shard n c last here = elim (cases_eq h.kind 1) [
  | inl e ↦ at_home h shard n c last (here e)
  | inr ne ↦ ap (λ (t : Bool). not t || (kind_of c == 4) || holds_key shard (key_of c)) (ne_eqb _ _ ne)
]

turn_first : (least n : ℕ) (c : Change) (last : Bool) → least ≤ n → (not (kind_of c == 4) || last) ≡ true → is_in_turn least None (body_of n c last) ≡ true
turn_first least n c last most other = rw (le-leb _ _ most, other) refl

turn_next : (least n : ℕ) (c : Change) (last : Bool) (x : Placed) → x.body.number ≡ n → not (kind_of c == 4) ≡ true → is_in_turn least (Some x) (body_of n c last) ≡ true
turn_next least n c last x is other = rw (eq-eqb n x.body.number (sym is), other) refl

left_true : (t : Bool) → t ≡ true → (t || false) ≡ true
left_true true is = refl
left_true false is = absurd (cc is)

pub least_upto : (next lo : ℕ) (gs : List Group) → AreGroups lo next gs → lo ≤ next
least_upto next lo [] legal = legal
least_upto next lo (g ∷ gs) legal = omega (arith, legal.0, least_upto next (g.number + 1) gs legal.4)

module _ (next : ℕ) (h : StaticHead) (shard : ShardOf) where
  -- the rest of a group, then other bodies
  fit_rest : (least n place : ℕ) (x : Placed) (c : Change) (cs : List Change) (rest : List Body) → x.body.number ≡ n → n < 2 ^ 64 → AllFit (c ∷ cs) → HasNoClear (c ∷ cs) → (h.kind ≡ 1 → AllIn shard (c ∷ cs))
      → Fit next h shard (n + 1) None (end_of place (group_bodies n (c ∷ cs))) rest → Fit next h shard least (Some x) place (group_bodies n (c ∷ cs) ++ rest)
  fit_rest least n place x c [] rest is small fit none in_its_shard more =
      (change_fits n c true (small_one c fit) small, no_void c, turn_next least n c true x is (no_clear_head c [] none).0, home_of h shard n c true (λ e. (in_its_shard e).0), more)
  fit_rest least n place x c (d ∷ cs) rest is small fit none in_its_shard more =
      let f = fit_head c (d ∷ cs) fit in
      let k = no_clear_head c (d ∷ cs) none in (
        change_fits n c false (small_one c f.0) small,
        no_void c,
        turn_next least n c false x is k.0,
        home_of h shard n c false (λ e. (in_its_shard e).0),
        fit_rest least n (place + extent_of (body_of n c false)) x d cs rest is small f.1 k.1 (λ e. (in_its_shard e).1) more,
      )

  -- a group, then other bodies
  fit_group : (least n place : ℕ) (c : Change) (cs : List Change) (rest : List Body) → least ≤ n → n < 2 ^ 64 → AllFit (c ∷ cs) → IsClearAlone (c ∷ cs) → (h.kind ≡ 1 → AllIn shard (c ∷ cs))
      → Fit next h shard (n + 1) None (end_of place (group_bodies n (c ∷ cs))) rest → Fit next h shard least None place (group_bodies n (c ∷ cs) ++ rest)
  fit_group least n place c [] rest most small fit one in_its_shard more =
      (change_fits n c true (small_one c fit) small, no_void c, turn_first least n c true most (or_true (not (kind_of c == 4))), home_of h shard n c true (λ e. (in_its_shard e).0), more)
  fit_group least n place c (d ∷ cs) rest most small fit one in_its_shard more =
      let f = fit_head c (d ∷ cs) fit in
      let k = no_clear_head c (d ∷ cs) (clear_alone c d cs one) in (
        change_fits n c false (small_one c f.0) small,
        no_void c,
        turn_first least n c false most (left_true _ k.0),
        home_of h shard n c false (λ e. (in_its_shard e).0),
        fit_rest least n (place + extent_of (body_of n c false)) (placed place (body_of n c false)) d cs rest refl small f.1 k.1 (λ e. (in_its_shard e).1) more,
      )

  fit_some : (least n place : ℕ) (cs : List Change) (rest : List Body) → cs ≢ [] → least ≤ n → n < 2 ^ 64 → AllFit cs → IsClearAlone cs → (h.kind ≡ 1 → AllIn shard cs)
      → Fit next h shard (n + 1) None (end_of place (group_bodies n cs)) rest → Fit next h shard least None place (group_bodies n cs ++ rest)
  fit_some least n place [] rest some most small fit one in_its_shard more = absurd (some refl)
  fit_some least n place (c ∷ cs) rest some most small fit one in_its_shard more = fit_group least n place c cs rest most small fit one in_its_shard more

  pub fit_groups : (lo place : ℕ) (gs : List Group) → next ≤ 2 ^ 64 → AreGroups lo next gs → (h.kind ≡ 1 → AllInItsShard shard gs) → Fit next h shard lo None place (bodies_of gs)
  fit_groups lo place [] small legal in_its_shard = (refl, legal)
  fit_groups lo place (g ∷ gs) small legal in_its_shard =
      fit_some lo g.number place g.changes (bodies_of gs) legal.1 legal.0 (omega (arith, least_upto next (g.number + 1) gs legal.4)) legal.2 legal.3 (λ e. (in_its_shard e).0)
      (fit_groups (g.number + 1) (end_of place (group_bodies g.number g.changes)) gs small legal.4 (λ e. (in_its_shard e).1))

by_tests : (s t : Bool) (found place m : ℕ) → found < m → place < m → cond s 0 (cond t place found) < m
by_tests true t found place m below here = omega arith
by_tests false true found place m below here = here
by_tests false false found place m below here = below

by_test : (t : Bool) (found m : ℕ) → 0 < m → found < m → cond t 0 found < m
by_test true found m some below = some
by_test false found m some below = below

all_six : (a b c d e f : Bool) → a ≡ true → b ≡ true → c ≡ true → d ≡ true → e ≡ true → f ≡ true → (a && b && c && d && e && f) ≡ true
all_six a b c d e f p q r s t u = rw (p, q, r, s, t, u) refl

renewed_small : (p k found m : ℕ) (x : Placed) → found < m → x.place < m → renewed p k found x < m
renewed_small p k found m x below here = by_tests (x.body.kind == 4) (is_in p k x.body) found x.place m below here

link_small : (p m : ℕ) (blocks : List Placed) (b : Body) → 0 < m → ((k : ℕ) → newest p k 0 blocks < m) → link_of p blocks b < m
link_small p m blocks b some below = by_test (b.kind == 4) (newest p (bucket_in p b.key) 0 blocks) m some (below (bucket_in p b.key))

newest_more : (p k m : ℕ) (blocks : List Placed) (x : Placed) → newest p k 0 blocks < m → x.place < m → newest p k 0 (blocks ++ x ∷ []) < m
newest_more p k m blocks x below here =
    subst (λ (n : ℕ). n < m) (sym (newest-append p k 0 blocks (x ∷ []))) (renewed_small p k (newest p k 0 blocks) m x below here)

may_stand_there : (h : StaticHead) (shard : ShardOf) (w : Walk) (place link : ℕ) (b : Body) (rest : List ℕ) → not (b.kind == 3) ≡ true → is_in_turn w.least w.open_group b ≡ true → is_in_its_shard h shard b ≡ true
    → may_stand h shard w (block_text b place link ++ rest) (extent_of b) b ≡ true
may_stand_there h shard w place link b rest other turn in_its_shard =
    let bytes = block_text b place link ++ rest in
    let within : nat_le (extent_of b) (length bytes) ≡ true = le-leb _ _ (omega (arith, length-append (block_text b place link) rest, length-block_text b place link)) in
    let padding : is_padded bytes (extent_of b) b ≡ true = (bytes_eq-Decides _ _).1 (block_padding b place link rest) in
    all_six _ _ _ _ _ _ within (eq-eqb (extent_of b) (extent_of b) refl) other padding turn in_its_shard

-- a walk over the text of bodies
record Reread (next : ℕ) (h : StaticHead) (shard : ShardOf) (n : ℕ) (w : Walk) (place : ℕ) (bs : List Body) : Type 0 where
  v : Walk
  ends : walk_on n h shard w place (texts (laid place bs) (links_of h.p w.blocks (laid place bs))) ≡ Ends v
  blocks : v.blocks ≡ w.blocks ++ laid place bs
  whole : v.open_group ≡ None
  least : v.least ≤ next

walk_texts : (next : ℕ) (h : StaticHead) (shard : ShardOf) (n : ℕ) (w : Walk) (place : ℕ) (bs : List Body) → length bs ≤ n → Fit next h shard w.least w.open_group place bs → end_of place bs < 2 ^ 64
    → ((k : ℕ) → newest h.p k 0 w.blocks < 2 ^ 64) → Reread next h shard n w place bs
walk_texts next h shard n w place [] fuel fit end below = record { v = w; ends = refl; blocks = sym (append-nil w.blocks); whole = fit.0; least = fit.1 }
walk_texts next h shard zero w place (b ∷ bs) fuel fit end below = absurd (omega arith)
walk_texts next h shard (suc n) w place (b ∷ bs) fuel fit end below =
    let x : Placed = placed place b in
    let link = link_of h.p w.blocks b in
    let rest = texts (laid (place + extent_of b) bs) (links_of h.p (w.blocks ++ x ∷ []) (laid (place + extent_of b) bs)) in
    let bytes = block_text b place link ++ rest in
    let here : place < 2 ^ 64 = omega (arith, end_of-least (place + extent_of b) bs) in
    let small : link < 2 ^ 64 = link_small h.p (2 ^ 64) w.blocks b (omega arith) below in
    let follows : MayFollow h shard w place bytes (extent_of b) b = record {
      head = block_head b place link rest fit.0;
      body = block_body b place link rest fit.0;
      stands = may_stand_there h shard w place link b rest fit.1 fit.2 fit.3;
      linked = block_link b place link rest small;
    } in
    let more = walk_texts next h shard n (walked w x) (place + extent_of b) bs (omega arith) fit.4 end (λ k. newest_more h.p k (2 ^ 64) w.blocks x (below k) here) in
    record {
      v = more.v;
      ends =
          walk_next n h shard w place bytes (omega (arith, length-append (block_text b place link) rest, length-block_text b place link))
          ∙ goes_on h shard w place (extent_of b) bytes b (λ u e. walk_on n h shard u (place + e) (drop e bytes)) follows
          ∙ ap (λ (l : List ℕ). walk_on n h shard (walked w x) (place + extent_of b) l) (block_rest b place link rest)
          ∙ more.ends;
      blocks = more.blocks ∙ append_assoc w.blocks (x ∷ []) (laid (place + extent_of b) bs);
      whole = more.whole;
      least = more.least;
    }

pub count_upto : (place : ℕ) (bs : List Body) → place + length bs ≤ end_of place bs
count_upto place [] = omega arith
count_upto place (b ∷ bs) = omega (arith, count_upto (place + extent_of b) bs)

pub newest_laid : (p k found place m : ℕ) (bs : List Body) → found < m → end_of place bs ≤ m → newest p k found (laid place bs) < m
newest_laid p k found place m [] below end = below
newest_laid p k found place m (b ∷ bs) below end =
    newest_laid p k (renewed p k found (placed place b)) (place + extent_of b) m bs
    (renewed_small p k found m (placed place b) below (omega (arith, end_of-least (place + extent_of b) bs))) end

word_in : (p n k : ℕ) (blocks : List Placed) (rest : List ℕ) → k < n → take 8 (drop (8 * k) (heads_below p n blocks ++ rest)) ≡ to_be_bytes w64 (newest p k 0 blocks)
word_in p zero k blocks rest below = absurd (omega arith)
word_in p (suc n) k blocks rest below =
    let word = to_be_bytes w64 (newest p n 0 blocks) in
    let joined : (heads_below p n blocks ++ word) ++ rest ≡ heads_below p n blocks ++ (word ++ rest) = append_assoc (heads_below p n blocks) word rest in
    ap (λ (l : List ℕ). take 8 (drop (8 * k) l)) joined
    ∙ elim (cases_eq n k) [
      | inl e ↦
          ap (λ (l : List ℕ). take 8 l) (drop_at (heads_below p n blocks) (word ++ rest) (8 * k) (length-heads_below p n blocks ∙ ap (λ (i : ℕ). 8 * i) e)) ∙ take_at word rest 8 refl
          ∙ ap (λ (i : ℕ). to_be_bytes w64 (newest p i 0 blocks)) e
      | inr ne ↦ word_in p n k blocks (word ++ rest) (omega (arith, ne))
    ]

u64_read : (f : List ℕ) (at n : ℕ) → n < 2 ^ 64 → take 8 (drop at f) ≡ to_be_bytes w64 n → u64_in f at ≡ n
unfolding u64_in
u64_read f at n small is = ap (λ (l : List ℕ). from_be_bytes w64 l) is ∙ from_be_bytes-to_be_bytes_8 n small

pub head_read : (p k : ℕ) (blocks : List Placed) (front rest : List ℕ) → length front ≡ 64 → k < 2 ^ p → newest p k 0 blocks < 2 ^ 64 → u64_in (front ++ (heads_text p blocks ++ rest)) (64 + 8 * k) ≡ newest p k 0 blocks
unfolding heads_text
head_read p k blocks front rest long below small =
    u64_read (front ++ (heads_below p (2 ^ p) blocks ++ rest)) (64 + 8 * k) (newest p k 0 blocks) small
    (ap (λ (l : List ℕ). take 8 l) (sym (drop-drop (8 * k) 64 (front ++ (heads_below p (2 ^ p) blocks ++ rest))))
    ∙ ap (λ (l : List ℕ). take 8 (drop (8 * k) l)) (drop_at front (heads_below p (2 ^ p) blocks ++ rest) 64 long)
    ∙ word_in p (2 ^ p) k blocks rest below)

heads_right : (p : ℕ) (blocks : List Placed) (f : List ℕ) (n b : ℕ) → ((k : ℕ) → k < b + n → u64_in f (64 + 8 * k) ≡ newest p k 0 blocks) → head_fault p blocks f n b ≡ None
heads_right p blocks f zero b each = refl
heads_right p blocks f (suc n) b each =
    ap (λ (t : Bool). cond t (head_fault p blocks f n (b + 1)) (Some (64 + 8 * b))) (eq-eqb _ _ (each b (omega arith))) ∙ heads_right p blocks f n (b + 1) (λ k below. each k (omega arith))

length-put_by : (o : Ordering) (new p : Pair) (ps deeper : List Pair) → length deeper ≤ suc (length ps) → length (put_by o new p ps deeper) ≤ suc (suc (length ps))
length-put_by Less new p ps deeper most = omega arith
length-put_by Equal new p ps deeper most = omega arith
length-put_by Greater new p ps deeper most = omega arith

length-put : (o : Order) (new : Pair) (m : List Pair) → length (put o new m) ≤ suc (length m)
length-put o new [] = omega arith
length-put o new (p ∷ ps) = length-put_by (key_cmp o new.key p.key) new p ps (put o new ps) (length-put o new ps)

length-either : (t : Bool) (p : Pair) (ps qs : List Pair) → length qs ≤ length ps → length (cond t ps (p ∷ qs)) ≤ suc (length ps)
length-either true p ps qs most = omega arith
length-either false p ps qs most = omega arith

length-without : (k : List ℕ) (m : List Pair) → length (without k m) ≤ length m
length-without k [] = omega arith
length-without k (p ∷ ps) = length-either (same_bytes k p.key) p ps (without k ps) (length-without k ps)

length-one : (c : Change) (m : List Pair) → length (after_one Hash c m) ≤ suc (length m)
length-one (Put p) m = length-put Hash p m
length-one (Drop k) m = omega (arith, length-without k m)
length-one Clear m = omega arith

length-after : (cs : List Change) (m : List Pair) → length (after Hash cs m) ≤ length m + length cs
length-after [] m = omega arith
length-after (c ∷ cs) m = omega (arith, length-after cs (after_one Hash c m), length-one c m)

length-changes : (blocks : List Placed) → length (changes_of blocks) ≡ length blocks
length-changes [] = refl
length-changes (x ∷ xs) = ap suc (length-changes xs)

-- a file, part by part
file_parts : (h : StaticHead) (groups : List Group) (c : Closing) → c.size ≡ end_of (base_of h.p) (bodies_of groups)
    → file_text h groups c.count c.next ≡ static_text h ++ (closing_text c ++ (heads_text h.p (blocks_of h groups) ++ texts (blocks_of h groups) (links_of h.p [] (blocks_of h groups))))
unfolding file_text
file_parts h groups c size =
    let rest = heads_text h.p (blocks_of h groups) ++ texts (blocks_of h groups) (links_of h.p [] (blocks_of h groups)) in
    ap (λ (n : ℕ). (static_text h ++ closing_text (record { size = n; count = c.count; next = c.next })) ++ rest) (sym size) ∙ append_assoc (static_text h) (closing_text c) rest

-- the walk over a file's bytes, told by those from the base on
walk_of : (h : StaticHead) (shard : ShardOf) (f bytes : List ℕ) (o : Outcome) → drop (base_of h.p) f ≡ bytes → walk_on (length f) h shard begin (base_of h.p) bytes ≡ o → walk h shard f ≡ o
unfolding walk
walk_of h shard f bytes o is ends = ap (λ (l : List ℕ). walk_on (length f) h shard begin (base_of h.p) l) is ∙ ends

may_be_written : (writable : Bool) (next : ℕ) → (writable ≡ true → next ≤ 2 ^ 62) → (not writable || nat_le next (2 ^ 62)) ≡ true
may_be_written true next last = le-leb _ _ (last refl)
may_be_written false next last = refl

none_at : (kinds : List ℕ) (writable : Bool) (shard : ShardOf) (h : StaticHead) (c : Closing) (f : List ℕ) (v : Walk) → 64 ≤ length f → static_at f ≡ Some h → list_any (λ k. k == h.kind) kinds ≡ true
    → closing_at (drop 32 f) ≡ Some c → c.size ≡ length f → base_of h.p ≤ c.size → walk h shard f ≡ Ends v → v.open_group ≡ None → head_fault h.p v.blocks f (2 ^ h.p) 0 ≡ None
    → c.count ≡ length (records_in v.blocks) → v.least ≤ c.next → (writable ≡ true → c.next ≤ 2 ^ 62) → first_fault kinds writable shard f ≡ None
unfolding first_fault
none_at kinds writable shard h c f v long head kind closing size base ends whole heads count least last =
    let sized : ((c.size == length f) && nat_le (base_of h.p) c.size) ≡ true = rw (eq-eqb _ _ size, le-leb _ _ base) refl in
    let counted : ((c.count == length (records_in v.blocks)) && nat_le v.least c.next) ≡ true = rw (eq-eqb _ _ count, le-leb _ _ least) refl in
    ap (λ (t : Bool). static_fault kinds writable shard f (cond t (static_at f) None)) (le-leb _ _ long)
    ∙ ap (static_fault kinds writable shard f) head
    ∙ ap (λ (t : Bool). broken_unless t 8 (closing_fault writable h shard f (closing_at (drop 32 f)))) kind
    ∙ ap (closing_fault writable h shard f) closing
    ∙ ap (λ (t : Bool). broken_unless t 32 (end_fault writable h c f (walk h shard f))) sized
    ∙ ap (end_fault writable h c f) ends
    ∙ ap (λ (o : Option Placed). broken_at (place_in o) (broken_at (head_fault h.p v.blocks f (2 ^ h.p) 0) (count_fault writable c v))) whole
    ∙ ap (λ (o : Option ℕ). broken_at o (count_fault writable c v)) heads
    ∙ ap (λ (t : Bool). broken_unless t 32 (broken_unless (not writable || nat_le c.next (2 ^ 62)) 48 None)) counted
    ∙ ap (λ (t : Bool). broken_unless t 48 None) (may_be_written writable c.next last)

pub opens_closed : OpensClosed
opens_closed kinds writable shard h groups next m =
    let f = closed_text h groups next in
    let blocks = blocks_of h groups in
    let bs = bodies_of groups in
    let base = base_of h.p in
    let c : Closing = record { size = end_of base bs; count = length (replay Hash groups []); next = next } in
    let heads = heads_text h.p blocks in
    let rest = texts blocks (links_of h.p [] blocks) in
    let parts : f ≡ static_text h ++ (closing_text c ++ (heads ++ rest)) = file_parts h groups c refl in
    let fronted : f ≡ (static_text h ++ closing_text c) ++ (heads ++ rest) = parts ∙ sym (append_assoc (static_text h) (closing_text c) (heads ++ rest)) in
    let long : length f ≡ end_of base bs = length-file_text h groups (length (replay Hash groups [])) next in
    let front_long : length (static_text h ++ closing_text c) ≡ 64 = omega (arith, length-append (static_text h) (closing_text c), length-static_text h, length-closing_text c) in
    let based : drop base f ≡ rest = file_blocks h groups (length (replay Hash groups [])) next in
    let replays : records_in blocks ≡ replay Hash groups [] = replayed base groups [] in
    let few : length (replay Hash groups []) < 2 ^ 64 =
    omega (arith, m.size, ap length replays, length-after (changes_of blocks) [], length-changes blocks, length-laid base bs, count_upto base bs) in
    let head : static_at f ≡ Some h = ap static_at parts ∙ statics.again h _ (m.head, m.generation) in
    let closing : closing_at (drop 32 f) ≡ Some c =
    ap (λ (l : List ℕ). closing_at (drop 32 l)) parts ∙ ap closing_at (drop_at (static_text h) (closing_text c ++ (heads ++ rest)) 32 (length-static_text h)) ∙ closings.again c _ (m.size, few, m.number) in
    let v = walk_texts next h shard (length f) begin base bs (omega (arith, long, count_upto base bs)) (fit_groups next h shard 0 base groups (omega (arith, m.number)) m.legal m.in_its_shard) m.size (λ k. omega arith) in
    let small : (k : ℕ) → newest h.p k 0 blocks < 2 ^ 64 = λ k. newest_laid h.p k 0 base (2 ^ 64) bs (omega arith) (omega (arith, m.size)) in
    let stand : head_fault h.p blocks f (2 ^ h.p) 0 ≡ None =
    heads_right h.p blocks f (2 ^ h.p) 0 (λ k below. ap (λ (l : List ℕ). u64_in l (64 + 8 * k)) fronted ∙ head_read h.p k blocks (static_text h ++ closing_text c) rest front_long (omega arith) (small k)) in
    none_at kinds writable shard h c f v.v (omega (arith, long, end_of-least base bs)) head m.kind closing (sym long) (end_of-least base bs)
    (walk_of h shard f rest (Ends v.v) based v.ends) v.whole
    (subst (λ (l : List Placed). head_fault h.p l f (2 ^ h.p) 0 ≡ None) (sym v.blocks) stand)
    (ap length (sym replays ∙ ap records_in (sym v.blocks))) v.least m.last
