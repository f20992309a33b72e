-- A file in which nothing fails is the closed file of its groups.
use Rattle.std.proofs.Common.{◌≡◌, ℕ, zero, suc, ◌+◌, ◌*◌, ◌<◌, ◌≤◌, ◌^◌, Bool, true, false, cond, List, [], ◌∷◌, ◌++◌, length, get_or, take, drop, refl, sym, ◌∙◌, ap, subst, arith, append_assoc, inl, inr}
use Rattle.std.specs.Prelude.{Option, Some, None, ◌==◌, ◌||◌, not, nat_le, map}
use Rattle.std.specs.List.{list_any}
use Rattle.std.specs.Int.{w64, to_be_bytes, from_be_bytes}
use Rattle.std.proofs.lemmas.Bool.{eqb-true, leb-true, cases_eq}
use Rattle.std.proofs.lemmas.Nat.{be_bytes_8}
use Rattle.std.proofs.lemmas.List.{append-nil, take-append-drop, length-drop, length-take, drop-drop}
use Rattle.std.proofs.Math.Seq.{take-add}
use Rattle.tk_model.proofs.NetChanges.{after_append}
use Rattle.tk_model.specs.Records.{after, replay}
use Rattle.tk_model.specs.declared.record.Order.TheVariants.{Hash}
use Rattle.tk_model.specs.declared.record.Pair.{Pair}
use Rattle.tk_model.specs.declared.record.Group.{Group}
use Rattle.tk_model.specs.declared.record.Change.{Change}
use Rattle.tk_model.specs.declared.record.Change.TheVariants.{Put, Drop, Clear}
use Rattle.tk_model.specs.declared.record.ShardOf.{ShardOf}
use Rattle.tk_model.specs.declared.error.OpenError.{OpenError}
use Rattle.tk_block.specs.declared.block.Body.{Body}
use Rattle.tk_block.specs.declared.head.StaticHead.{StaticHead}
use Rattle.tk_block.specs.declared.closing.Closing.{Closing}
use Rattle.tk_block.specs.Number.{u64_in}
use Rattle.tk_block.specs.Text.{static_at, static_text, closing_at, closing_text, base_of}
use Rattle.tk_block.specs.Blocks.{body_of, extent_of, group_bodies, is_nil}
use Rattle.tk_block.specs.Layout.{Placed, newest, laid, end_of, texts, links_of, bodies_of, heads_below, heads_text, file_text}
use Rattle.tk_block.proofs.Bodies.{two_true, joined_front}
use Rattle.tk_block.proofs.Grammar.{static_found, closing_found}
use Rattle.tk_block.proofs.Layouts.{laid-append}
use Rattle.tk_append.specs.Log.{AreGroups, AllIn, AllInItsShard, blocks_of, closed_text}
use Rattle.tk_append.specs.OpeningLaws.{IsClosedFile, OpensOnlyClosed}
use Rattle.tk_model.specs.Entries.{is_in_shard, holds_key}
use Rattle.tk_append.specs.Opening.{Walk, Outcome, FailsAt, Ends, walk, is_in_its_shard, change_in, records_in, broken_unless, broken_at, place_in, head_fault, count_fault, end_fault, closing_fault, static_fault, first_fault}
use Rattle.tk_append.specs.Checked.{IsFound, IsClosed}
use Rattle.tk_append.specs.declared.check.Found.{Found}
use Rattle.tk_append.proofs.Groupings.{IsPart, part_bodies, groups_upto}
use Rattle.tk_append.proofs.Walks.{AreBytes, bytes_drop, AllBodiesInShard, file_grouped}

unless : (t : Bool) (place : ℕ) (next : Option OpenError) → broken_unless t place next ≡ None → (t ≡ true) × (next ≡ None)
unless true place next is = (refl, is)
unless false place next is = absurd (cc is)

at_none : (o : Option ℕ) (next : Option OpenError) → broken_at o next ≡ None → (o ≡ None) × (next ≡ None)
at_none None next is = (refl, is)
at_none (Some place) next is = absurd (cc is)

long_enough : (t : Bool) (kinds : List ℕ) (writable : Bool) (shard : ShardOf) (f : List ℕ) → nat_le 64 (length f) ≡ t → static_fault kinds writable shard f (cond t (static_at f) None) ≡ None
    → (64 ≤ length f) × (static_fault kinds writable shard f (static_at f) ≡ None)
long_enough true kinds writable shard f is none = (leb-true _ _ is, none)
long_enough false kinds writable shard f is none = absurd (cc none)

-- what holds of a file in which nothing fails
pub record Sound (kinds : List ℕ) (writable : Bool) (f : List ℕ) (h : StaticHead) (c : Closing) (w : Walk) : Type 0 where
  pub kind : list_any (λ k. k == h.kind) kinds ≡ true
  pub size : c.size ≡ length f
  pub long : base_of h.p ≤ length f
  pub whole : place_in w.open_group ≡ None
  pub heads : head_fault h.p w.blocks f (2 ^ h.p) 0 ≡ None
  pub count : c.count ≡ length (records_in w.blocks)
  pub least : w.least ≤ c.next
  pub last : writable ≡ true → c.next ≤ 2 ^ 62

may_write : (writable : Bool) (next : ℕ) → (not writable || nat_le next (2 ^ 62)) ≡ true → writable ≡ true → next ≤ 2 ^ 62
may_write true next is asked = leb-true _ _ is
may_write false next is asked = absurd (cc asked)

pub sound : (kinds : List ℕ) (writable : Bool) (shard : ShardOf) (f : List ℕ) (h : StaticHead) (c : Closing) (w : Walk) → static_at f ≡ Some h → closing_at (drop 32 f) ≡ Some c → walk h shard f ≡ Ends w
    → first_fault kinds writable shard f ≡ None → Sound kinds writable f h c w
unfolding first_fault
sound kinds writable shard f h c w head closing ends none =
    let t0 = long_enough (nat_le 64 (length f)) kinds writable shard f refl none in
    let t1 = unless _ 8 (closing_fault writable h shard f (closing_at (drop 32 f))) (ap (static_fault kinds writable shard f) (sym head) ∙ t0.1) in
    let t2 = unless _ 32 (end_fault writable h c f (walk h shard f)) (ap (closing_fault writable h shard f) (sym closing) ∙ t1.1) in
    let sizes = two_true _ _ t2.0 in
    let t3 = at_none (place_in w.open_group) (broken_at (head_fault h.p w.blocks f (2 ^ h.p) 0) (count_fault writable c w)) (ap (end_fault writable h c f) (sym ends) ∙ t2.1) in
    let t4 = at_none (head_fault h.p w.blocks f (2 ^ h.p) 0) (count_fault writable c w) t3.1 in
    let t5 = unless _ 32 (broken_unless (not writable || nat_le c.next (2 ^ 62)) 48 None) t4.1 in
    let counts = two_true _ _ t5.0 in
    let t6 = unless (not writable || nat_le c.next (2 ^ 62)) 48 None t5.1 in
    let size : c.size ≡ length f = eqb-true _ _ sizes.0 in
    record {
      kind = t1.0;
      size = size;
      long = subst (λ (n : ℕ). base_of h.p ≤ n) size (leb-true _ _ sizes.1);
      whole = t3.0;
      heads = t4.0;
      count = eqb-true _ _ counts.0;
      least = leb-true _ _ counts.1;
      last = may_write writable c.next t6.0;
    }

same_if : (t : Bool) (o : Option ℕ) (place : ℕ) → cond t o (Some place) ≡ None → (t ≡ true) × (o ≡ None)
same_if true o place is = (refl, is)
same_if false o place is = absurd (cc is)

-- each head stands in the file
head_all : (p : ℕ) (blocks : List Placed) (f : List ℕ) (n b : ℕ) → head_fault p blocks f n b ≡ None → (k : ℕ) → b ≤ k → k < b + n → u64_in f (64 + 8 * k) ≡ newest p k 0 blocks
head_all p blocks f zero b none k from below = absurd (omega arith)
head_all p blocks f (suc n) b none k from below =
    let t = same_if (u64_in f (64 + 8 * b) == newest p b 0 blocks) (head_fault p blocks f n (b + 1)) (64 + 8 * b) none in
    elim (cases_eq b k) [
      | inl e ↦ subst (λ (i : ℕ). u64_in f (64 + 8 * i) ≡ newest p i 0 blocks) e (eqb-true _ _ t.0)
      | inr ne ↦ head_all p blocks f n (b + 1) t.1 k (omega (arith, ne)) (omega arith)
    ]

u64_told : (f : List ℕ) (at : ℕ) → u64_in f at ≡ from_be_bytes w64 (take 8 (drop at f))
unfolding u64_in
u64_told f at = refl

take_small : (n : ℕ) (xs : List ℕ) → AreBytes xs → AreBytes (take n xs)
take_small zero xs are i = omega arith
take_small (suc n) [] are i = omega arith
take_small (suc n) (x ∷ xs) are zero = are zero
take_small (suc n) (x ∷ xs) are (suc i) = take_small n xs (λ k. are (suc k)) i

-- the eight bytes of a number
word_at : (f : List ℕ) (at n : ℕ) → AreBytes f → at + 8 ≤ length f → u64_in f at ≡ n → take 8 (drop at f) ≡ to_be_bytes w64 n
word_at f at n are fits is =
    sym (be_bytes_8 (take 8 (drop at f)) n (omega (arith, length-take 8 (drop at f), length-drop at f)) (take_small 8 (drop at f) (bytes_drop at f are)) (sym is ∙ u64_told f at))

heads_stand : (p n : ℕ) (blocks : List Placed) (f : List ℕ) → AreBytes f → 64 + 8 * n ≤ length f → ((k : ℕ) → k < n → u64_in f (64 + 8 * k) ≡ newest p k 0 blocks) → take (8 * n) (drop 64 f) ≡ heads_below p n blocks
heads_stand p zero blocks f are fits each = refl
heads_stand p (suc n) blocks f are fits each =
    let next : 8 * suc n ≡ 8 * n + 8 = omega arith in
    ap (λ (k : ℕ). take k (drop 64 f)) next
    ∙ take-add (8 * n) 8 (drop 64 f)
    ∙ ap (λ (l : List ℕ). l ++ take 8 (drop (8 * n) (drop 64 f))) (heads_stand p n blocks f are (omega arith) (λ k below. each k (omega arith)))
    ∙ ap (λ (l : List ℕ). heads_below p n blocks ++ take 8 l) (drop-drop (8 * n) 64 f)
    ∙ ap (λ (l : List ℕ). heads_below p n blocks ++ l) (word_at f (64 + 8 * n) (newest p n 0 blocks) are (omega arith) (each n (omega arith)))

pub heads_stand_all : (p : ℕ) (blocks : List Placed) (f : List ℕ) → AreBytes f → base_of p ≤ length f → head_fault p blocks f (2 ^ p) 0 ≡ None → take (8 * 2 ^ p) (drop 64 f) ≡ heads_text p blocks
unfolding heads_text
heads_stand_all p blocks f are long none = heads_stand p (2 ^ p) blocks f are long (λ k below. head_all p blocks f (2 ^ p) 0 none k (omega arith) (omega arith))

pub change_back : (n : ℕ) (c : Change) (last : Bool) → change_in (body_of n c last) ≡ c
change_back n (Put p) last = refl
change_back n (Drop k) last = refl
change_back n Clear last = refl

abbrev pub changes_of : List Placed → List Change
changes_of blocks = map (λ (x : Placed). change_in x.body) blocks

changes-append : (xs ys : List Placed) → changes_of (xs ++ ys) ≡ changes_of xs ++ changes_of ys
changes-append [] ys = refl
changes-append (x ∷ xs) ys = ap (λ (l : List Change). change_in x.body ∷ l) (changes-append xs ys)

group_changes : (place n : ℕ) (cs : List Change) → changes_of (laid place (group_bodies n cs)) ≡ cs
group_changes place n [] = refl
group_changes place n (c ∷ cs) =
    ap (λ (d : Change). d ∷ changes_of (laid (place + extent_of (body_of n c (is_nil cs))) (group_bodies n cs))) (change_back n c (is_nil cs))
    ∙ ap (λ (l : List Change). c ∷ l) (group_changes (place + extent_of (body_of n c (is_nil cs))) n cs)

pub replayed : (place : ℕ) (gs : List Group) (m : List Pair) → after Hash (changes_of (laid place (bodies_of gs))) m ≡ replay Hash gs m
replayed place [] m = refl
replayed place (g ∷ gs) m =
    let front = group_bodies g.number g.changes in
    ap (λ (l : List Placed). after Hash (changes_of l) m) (laid-append place front (bodies_of gs))
    ∙ ap (λ (l : List Change). after Hash l m) (changes-append (laid place front) (laid (end_of place front) (bodies_of gs)))
    ∙ after_append Hash (changes_of (laid place front)) (changes_of (laid (end_of place front) (bodies_of gs))) m
    ∙ ap (λ (l : List Change). after Hash (changes_of (laid (end_of place front) (bodies_of gs))) (after Hash l m)) (group_changes place g.number g.changes)
    ∙ replayed (end_of place front) gs (after Hash g.changes m)

-- the text of a whole file, part by part
whole_text : (h : StaticHead) (f : List ℕ) (groups : List Group) (c : Closing) → static_at f ≡ Some h → closing_at (drop 32 f) ≡ Some c → c.size ≡ end_of (base_of h.p) (bodies_of groups)
    → take (8 * 2 ^ h.p) (drop 64 f) ≡ heads_text h.p (blocks_of h groups) → drop (base_of h.p) f ≡ texts (blocks_of h groups) (links_of h.p [] (blocks_of h groups)) → f ≡ file_text h groups c.count c.next
unfolding file_text
whole_text h f groups c head closing size heads blocks =
    let rest = texts (blocks_of h groups) (links_of h.p [] (blocks_of h groups)) in
    let front : take 64 f ≡ static_text h ++ closing_text c = joined_front 32 32 f _ _ (static_found f h head).1 (closing_found (drop 32 f) c closing).1 in
    let base : take (base_of h.p) f ≡ (static_text h ++ closing_text c) ++ heads_text h.p (blocks_of h groups) = joined_front 64 (8 * 2 ^ h.p) f _ _ front heads in
    let whole : f ≡ ((static_text h ++ closing_text c) ++ heads_text h.p (blocks_of h groups)) ++ rest =
    sym (take-append-drop (base_of h.p) f) ∙ ap (λ (l : List ℕ). l ++ drop (base_of h.p) f) base ∙ ap (λ (l : List ℕ). ((static_text h ++ closing_text c) ++ heads_text h.p (blocks_of h groups)) ++ l) blocks in
    whole ∙ append_assoc (static_text h ++ closing_text c) (heads_text h.p (blocks_of h groups)) rest
    ∙ ap (λ (n : ℕ). (static_text h ++ closing_text (record { size = n; count = c.count; next = c.next })) ++ (heads_text h.p (blocks_of h groups) ++ rest)) size

no_part : (least : ℕ) (open_group : Option Placed) (number : ℕ) (part : List Change) → open_group ≡ None → IsPart least open_group number part → part ≡ []
no_part least None number part is rest = rest
no_part least (Some x) number part is rest = absurd (cc is)

home_split : (h : StaticHead) (shard : ShardOf) (xs ys : List Body) → AllBodiesInShard h shard (xs ++ ys) → AllBodiesInShard h shard xs × AllBodiesInShard h shard ys
home_split h shard [] ys all = (tt, all)
home_split h shard (x ∷ xs) ys all = let more = home_split h shard xs ys all.1 in ((all.0, more.0), more.1)

home_key : (h : StaticHead) (shard : ShardOf) (k : List ℕ) → h.kind ≡ 1 → (not (h.kind == 1) || false || holds_key shard k) ≡ true → holds_key shard k ≡ true
home_key h shard k one here = subst (λ (n : ℕ). (not (n == 1) || false || holds_key shard k) ≡ true) one here

home_change : (h : StaticHead) (shard : ShardOf) (n : ℕ) (c : Change) (last : Bool) → h.kind ≡ 1 → is_in_its_shard h shard (body_of n c last) ≡ true → is_in_shard shard c ≡ true
home_change h shard n (Put p) last one here = home_key h shard p.key one here
home_change h shard n (Drop k) last one here = home_key h shard k one here
home_change h shard n Clear last one here = refl

home_changes : (h : StaticHead) (shard : ShardOf) (n : ℕ) (cs : List Change) → h.kind ≡ 1 → AllBodiesInShard h shard (group_bodies n cs) → AllIn shard cs
home_changes h shard n [] one all = tt
home_changes h shard n (c ∷ cs) one all = (home_change h shard n c (is_nil cs) one all.0, home_changes h shard n cs one all.1)

home_groups : (h : StaticHead) (shard : ShardOf) (gs : List Group) → AllBodiesInShard h shard (bodies_of gs) → h.kind ≡ 1 → AllInItsShard shard gs
home_groups h shard [] all one = tt
home_groups h shard (g ∷ gs) all one =
    let parts = home_split h shard (group_bodies g.number g.changes) (bodies_of gs) all in
    (home_changes h shard g.number g.changes one parts.0, home_groups h shard gs parts.1 one)

-- a header, a closing part and groups that make a file
record Made (shard : ShardOf) (f : List ℕ) (h : StaticHead) (c : Closing) (w : Walk) : Type 0 where
  groups : List Group
  legal : AreGroups 0 c.next groups
  blocks : w.blocks ≡ blocks_of h groups
  records : records_in w.blocks ≡ replay Hash groups []
  end : c.size ≡ end_of (base_of h.p) (bodies_of groups)
  in_its_shard : h.kind ≡ 1 → AllInItsShard shard groups
  text : f ≡ closed_text h groups c.next

made : (kinds : List ℕ) (writable : Bool) (shard : ShardOf) (f : List ℕ) (h : StaticHead) (c : Closing) (w : Walk) → AreBytes f → static_at f ≡ Some h → closing_at (drop 32 f) ≡ Some c → walk h shard f ≡ Ends w
    → w.open_group ≡ None → Sound kinds writable f h c w → Made shard f h c w
made kinds writable shard f h c w are head closing ends whole s =
    let g = file_grouped h shard f w are s.long ends in
    let groups = g.parted.groups in
    let bodies : g.bodies ≡ bodies_of groups =
    g.parted.bodies_are ∙ ap (λ (l : List Change). bodies_of groups ++ part_bodies g.parted.number l) (no_part w.least w.open_group g.parted.number g.parted.part whole g.parted.rest) ∙ append-nil (bodies_of groups) in
    let blocks : w.blocks ≡ blocks_of h groups = g.blocks ∙ ap (laid (base_of h.p)) bodies in
    let end : c.size ≡ end_of (base_of h.p) (bodies_of groups) = s.size ∙ g.end ∙ ap (end_of (base_of h.p)) bodies in
    let records : records_in w.blocks ≡ replay Hash groups [] = ap records_in blocks ∙ replayed (base_of h.p) groups [] in
    record {
      groups = groups;
      legal = groups_upto 0 w.least c.next groups g.parted.legal s.least;
      blocks = blocks;
      records = records;
      end = end;
      in_its_shard = home_groups h shard groups (subst (AllBodiesInShard h shard) bodies g.in_its_shard);
      text =
          whole_text h f groups c head closing end
          (subst (λ (l : List Placed). take (8 * 2 ^ h.p) (drop 64 f) ≡ heads_text h.p l) blocks (heads_stand_all h.p w.blocks f are s.long s.heads))
          (subst (λ (l : List Placed). drop (base_of h.p) f ≡ texts l (links_of h.p [] l)) blocks g.text)
          ∙ ap (λ (n : ℕ). file_text h groups n c.next) (s.count ∙ ap length records);
    }

-- what was found is a closed file
pub closed_is : (kinds : List ℕ) (writable : Bool) (shard : ShardOf) (f : List ℕ) (found : Found) → AreBytes f → first_fault kinds writable shard f ≡ None → IsFound shard f found → IsClosed kinds writable shard f found
closed_is kinds writable shard f found are none is =
    let h = found.head in
    let c = found.closing in
    let s = sound kinds writable shard f h c is.w is.head is.closing is.ends none in
    let m = made kinds writable shard f h c is.w are is.head is.closing is.ends is.whole s in
    record {
      groups = m.groups;
      head = (static_found f h is.head).0.0;
      generation = (static_found f h is.head).0.1;
      legal = m.legal;
      number = (closing_found (drop 32 f) c is.closing).0.2;
      count = s.count ∙ ap length m.records;
      size = m.end;
      bound = (closing_found (drop 32 f) c is.closing).0.0;
      text = m.text;
      kind = s.kind;
      in_its_shard = m.in_its_shard;
      last = s.last;
    }

-- its blocks are those of its groups
pub closed_blocks : (kinds : List ℕ) (writable : Bool) (shard : ShardOf) (f : List ℕ) (found : Found) (are : AreBytes f) (none : first_fault kinds writable shard f ≡ None) (is : IsFound shard f found)
    → is.w.blocks ≡ blocks_of found.head (closed_is kinds writable shard f found are none is).groups
unfolding closed_is made
closed_blocks kinds writable shard f found are none is =
    let h = found.head in
    let c = found.closing in
    (made kinds writable shard f h c is.w are is.head is.closing is.ends is.whole (sound kinds writable shard f h c is.w is.head is.closing is.ends none)).blocks

no_open : (o : Option Placed) → place_in o ≡ None → o ≡ None
no_open None is = refl
no_open (Some x) is = absurd (cc is)

all_read : (kinds : List ℕ) (writable : Bool) (shard : ShardOf) (f : List ℕ) (h : StaticHead) (c : Closing) (w : Walk) → AreBytes f → static_at f ≡ Some h → closing_at (drop 32 f) ≡ Some c → walk h shard f ≡ Ends w
    → first_fault kinds writable shard f ≡ None → IsClosedFile kinds writable shard f
all_read kinds writable shard f h c w are head closing ends none =
    let s = sound kinds writable shard f h c w head closing ends none in
    let m = made kinds writable shard f h c w are head closing ends (no_open w.open_group s.whole) s in
    let fits = (closing_found (drop 32 f) c closing).0 in
    record {
      h = h;
      groups = m.groups;
      next = c.next;
      may = record {
        head = (static_found f h head).0.0;
        generation = (static_found f h head).0.1;
        kind = s.kind;
        legal = m.legal;
        in_its_shard = m.in_its_shard;
        size = subst (λ (n : ℕ). n < 2 ^ 64) m.end fits.0;
        number = fits.2;
        last = s.last;
      };
      text = m.text;
    }

walk_read : (o : Outcome) (kinds : List ℕ) (writable : Bool) (shard : ShardOf) (f : List ℕ) (h : StaticHead) (c : Closing) → AreBytes f → static_at f ≡ Some h → closing_at (drop 32 f) ≡ Some c → walk h shard f ≡ o
    → end_fault writable h c f o ≡ None → first_fault kinds writable shard f ≡ None → IsClosedFile kinds writable shard f
walk_read (FailsAt place) kinds writable shard f h c are head closing is end none = absurd (cc end)
walk_read (Ends w) kinds writable shard f h c are head closing is end none = all_read kinds writable shard f h c w are head closing is none

closing_read : (o : Option Closing) (kinds : List ℕ) (writable : Bool) (shard : ShardOf) (f : List ℕ) (h : StaticHead) → AreBytes f → static_at f ≡ Some h → closing_at (drop 32 f) ≡ o
    → closing_fault writable h shard f o ≡ None → first_fault kinds writable shard f ≡ None → IsClosedFile kinds writable shard f
closing_read None kinds writable shard f h are head is end none = absurd (cc end)
closing_read (Some c) kinds writable shard f h are head is end none =
    walk_read (walk h shard f) kinds writable shard f h c are head is refl (unless _ 32 (end_fault writable h c f (walk h shard f)) end).1 none

static_read : (o : Option StaticHead) (kinds : List ℕ) (writable : Bool) (shard : ShardOf) (f : List ℕ) → AreBytes f → static_at f ≡ o → static_fault kinds writable shard f o ≡ None → first_fault kinds writable shard f ≡ None
    → IsClosedFile kinds writable shard f
static_read None kinds writable shard f are is end none = absurd (cc end)
static_read (Some h) kinds writable shard f are is end none =
    closing_read (closing_at (drop 32 f)) kinds writable shard f h are is refl (unless _ 8 (closing_fault writable h shard f (closing_at (drop 32 f))) end).1 none

told_none : (kinds : List ℕ) (writable : Bool) (shard : ShardOf) (f : List ℕ) → first_fault kinds writable shard f ≡ None → static_fault kinds writable shard f (static_at f) ≡ None
unfolding first_fault
told_none kinds writable shard f none = (long_enough (nat_le 64 (length f)) kinds writable shard f refl none).1

all_bytes : (f : List ℕ) → ((i : ℕ) → i < length f → get_or f i 0 < 256) → AreBytes f
all_bytes [] are i = omega arith
all_bytes (x ∷ xs) are zero = are zero (omega arith)
all_bytes (x ∷ xs) are (suc i) = all_bytes xs (λ k below. are (suc k) (omega arith)) i

-- nothing else is opened
pub opens_only_closed : OpensOnlyClosed
opens_only_closed kinds writable shard f are none = static_read (static_at f) kinds writable shard f (all_bytes f are) refl (told_none kinds writable shard f none) none
