-- What fails first in a file, step by step.
use Rattle.std.proofs.Common.{◌≡◌, ◌≢◌, ℕ, suc, ◌+◌, ◌*◌, ◌-◌, ◌<◌, ◌≤◌, ◌^◌, Bool, true, false, cond, List, length, get_or, take, drop, refl, sym, ◌∙◌, ap, subst, arith}
use Rattle.std.specs.Result.{IsErrAnd}
use Rattle.std.specs.Prelude.{OnOk, option_map, Result, Ok, Err, Option, Some, None, ◌==◌, ◌&&◌, nat_le}
use Rattle.std.specs.List.{list_any}
use Rattle.std.proofs.lemmas.Bool.{eq-eqb, ne_eqb, le-leb}
use Rattle.std.proofs.lemmas.Bool.Decides.{nat_tests}
use Rattle.std.proofs.lemmas.List.{take_all, length-drop}
use Rattle.tk_model.specs.declared.record.ShardOf.{ShardOf}
use Rattle.tk_model.specs.declared.error.OpenError.{OpenError}
use Rattle.tk_model.specs.declared.error.OpenError.TheVariants.{NotADatabase, BrokenAt}
use Rattle.tk_block.specs.Number.{u64_in}
use Rattle.tk_block.specs.Text.{static_at, closing_at, base_of, is_static}
use Rattle.tk_block.specs.Layout.{Placed}
use Rattle.tk_block.specs.declared.head.StaticHead.{StaticHead}
use Rattle.tk_block.specs.declared.closing.Closing.{Closing}
use Rattle.tk_append.specs.Chains.{HeadsAre}
use Rattle.tk_append.specs.Opening.{Walk, Outcome, Ends, count_fault, broken_at, place_in, first_fault, static_fault, closing_fault, end_fault, head_fault, walk, broken_unless}
use Rattle.tk_append.specs.Walked.{NewestIn, live_head, as_open}
use Rattle.tk_append.specs.Checked.{HeadIn, ClosingIn, Finds, FindsCause}
use Rattle.tk_append.specs.declared.walker.OpenGroup.{OpenGroup}

pub static_small : (h : StaticHead) → is_static h ≡ true → h.p ≤ 24
static_small h is = grind (arith, nat_tests)

pub short_file : (kinds : List ℕ) (writable : Bool) (shard : ShardOf) (f : List ℕ) → length f < 64 → first_fault kinds writable shard f ≡ Some NotADatabase
unfolding first_fault
short_file kinds writable shard f short =
    let t : nat_le 64 (length f) ≡ false = grind (arith, nat_tests) in
    rw t refl

long_file : (kinds : List ℕ) (writable : Bool) (shard : ShardOf) (f : List ℕ) → 64 ≤ length f → first_fault kinds writable shard f ≡ static_fault kinds writable shard f (static_at f)
unfolding first_fault
long_file kinds writable shard f long =
    let t : nat_le 64 (length f) ≡ true = grind (arith, nat_tests) in
    rw t refl

pub no_static : (kinds : List ℕ) (writable : Bool) (shard : ShardOf) (f : List ℕ) → 64 ≤ length f → static_at f ≡ None → first_fault kinds writable shard f ≡ Some NotADatabase
no_static kinds writable shard f long none = long_file kinds writable shard f long ∙ ap (static_fault kinds writable shard f) none

pub other_kind : (kinds : List ℕ) (writable : Bool) (shard : ShardOf) (f : List ℕ) (h : StaticHead) → 64 ≤ length f → static_at f ≡ Some h → list_any (λ k. k == h.kind) kinds ≡ false
    → first_fault kinds writable shard f ≡ Some (BrokenAt 8)
other_kind kinds writable shard f h long is other = long_file kinds writable shard f long ∙ ap (static_fault kinds writable shard f) is ∙ ap (λ (b : Bool). broken_unless b 8 (closing_fault writable h shard f (closing_at (drop 32 f)))) other

pub head_found : (kinds f : List ℕ) (h : StaticHead) → 64 ≤ length f → static_at f ≡ Some h → list_any (λ k. k == h.kind) kinds ≡ true → HeadIn kinds f h
head_found kinds f h long is fits = record {
  head = is;
  long = long;
  rest = λ writable shard.
      long_file kinds writable shard f long ∙ ap (static_fault kinds writable shard f) is ∙ ap (λ (b : Bool). broken_unless b 8 (closing_fault writable h shard f (closing_at (drop 32 f)))) fits;
}

-- the slice from 32 on
pub behind_static : (f : List ℕ) (o : Option Closing) → o ≡ closing_at (take (length f - 32) (drop 32 f)) → closing_at (drop 32 f) ≡ o
behind_static f o is = sym (is ∙ ap closing_at (take_all (length f - 32) (drop 32 f) (omega (arith, length-drop 32 f))))

pub no_closing : (writable : Bool) (h : StaticHead) (shard : ShardOf) (f : List ℕ) → closing_at (drop 32 f) ≡ None → closing_fault writable h shard f (closing_at (drop 32 f)) ≡ Some (BrokenAt 32)
no_closing writable h shard f none = ap (closing_fault writable h shard f) none

sized : (f : List ℕ) (p : ℕ) (c : Closing) → c.size ≢ length f → ((c.size == length f) && nat_le (base_of p) c.size) ≡ false
sized f p c other = rw (ne_eqb _ _ other) refl

pub other_size : (writable : Bool) (h : StaticHead) (shard : ShardOf) (f : List ℕ) (c : Closing) → closing_at (drop 32 f) ≡ Some c → c.size ≢ length f
    → closing_fault writable h shard f (closing_at (drop 32 f)) ≡ Some (BrokenAt 32)
other_size writable h shard f c is other =
    ap (closing_fault writable h shard f) is ∙ ap (λ (b : Bool). broken_unless b 32 (end_fault writable h c f (walk h shard f))) (sized f h.p c other)

pub small_size : (writable : Bool) (h : StaticHead) (shard : ShardOf) (f : List ℕ) (c : Closing) (p : ℕ) → h.p ≡ p → closing_at (drop 32 f) ≡ Some c → c.size ≡ length f → c.size < base_of p
    → closing_fault writable h shard f (closing_at (drop 32 f)) ≡ Some (BrokenAt 32)
small_size writable h shard f c p same is size small =
    let t : nat_le (base_of h.p) c.size ≡ false = let u : nat_le (base_of p) c.size ≡ false = grind (arith, nat_tests) in rw same u in
    let both : ((c.size == length f) && nat_le (base_of h.p) c.size) ≡ false = rw (eq-eqb _ _ size, t) refl in
    ap (closing_fault writable h shard f) is ∙ ap (λ (b : Bool). broken_unless b 32 (end_fault writable h c f (walk h shard f))) both

pub closing_found : (p : ℕ) (f : List ℕ) (c : Closing) → closing_at (drop 32 f) ≡ Some c → c.size ≡ length f → base_of p ≤ c.size → ClosingIn p f c
closing_found p f c is size long = record {
  closing = is;
  size = size;
  long = subst (λ (n : ℕ). base_of p ≤ n) size long;
  rest = λ writable h shard same.
      let t : nat_le (base_of h.p) c.size ≡ true = rw same (le-leb _ _ long) in
      let both : ((c.size == length f) && nat_le (base_of h.p) c.size) ≡ true = rw (eq-eqb _ _ size, t) refl in
      ap (closing_fault writable h shard f) is ∙ ap (λ (b : Bool). broken_unless b 32 (end_fault writable h c f (walk h shard f))) both;
}

-- one head more
pub head_next : (p n m bucket : ℕ) (heads : List ℕ) (blocks : List Placed) (f : List ℕ) → HeadsAre p heads blocks → bucket < length heads → n ≡ suc m → u64_in f (64 + 8 * bucket) ≡ get_or heads bucket 0
    → head_fault p blocks f n bucket ≡ head_fault p blocks f m (bucket + 1)
head_next p n m bucket heads blocks f are within is same =
    ap (λ (k : ℕ). head_fault p blocks f k bucket) is
    ∙ ap (λ (b : Bool). cond b (head_fault p blocks f m (bucket + 1)) (Some (64 + 8 * bucket))) (eq-eqb _ _ (same ∙ are.newest_each bucket (omega (arith, are.whole))))

pub head_other : (p n m bucket : ℕ) (heads : List ℕ) (blocks : List Placed) (f : List ℕ) → HeadsAre p heads blocks → bucket < length heads → n ≡ suc m → u64_in f (64 + 8 * bucket) ≢ get_or heads bucket 0
    → head_fault p blocks f n bucket ≡ Some (64 + 8 * bucket)
head_other p n m bucket heads blocks f are within is other =
    ap (λ (k : ℕ). head_fault p blocks f k bucket) is
    ∙ ap (λ (b : Bool). cond b (head_fault p blocks f m (bucket + 1)) (Some (64 + 8 * bucket))) (ne_eqb _ _ (λ h. other (h ∙ sym (are.newest_each bucket (omega (arith, are.whole))))))

-- heads that were settled as far as this
pub record Settled (old now : List ℕ) (cleared i : ℕ) : Type 0 where
  pub same : length now ≡ length old
  pub done : (b : ℕ) → b < i → get_or now b 0 ≡ live_head cleared (get_or old b 0)
  pub left : (b : ℕ) → i ≤ b → get_or now b 0 ≡ get_or old b 0

pub settled_all : (p place : ℕ) (old now : List ℕ) (cleared i : ℕ) (blocks : List Placed) → Settled old now cleared i → length now ≤ i → NewestIn p place old cleared blocks → HeadsAre p now blocks
settled_all p place old now cleared i blocks s all are = record {
  whole = s.same ∙ are.whole;
  newest_each = λ b below. s.done b (omega (arith, s.same, are.whole)) ∙ are.newest_each b below;
}

no_first : (o : Option Placed) → option_map as_open o ≡ None → o ≡ None
no_first None is = refl
no_first (Some x) is = absurd (cc is)

pub none_open : (w : Walk) (open_group : Option OpenGroup) → open_group ≡ option_map as_open w.open_group → open_group ≡ None → w.open_group ≡ None
none_open w open_group is none = no_first w.open_group (sym is ∙ none)

pub end_told : (writable : Bool) (h : StaticHead) (c : Closing) (f : List ℕ) (w : Walk) (o : Option ℕ) → w.open_group ≡ None → o ≡ head_fault h.p w.blocks f (2 ^ h.p) 0
    → end_fault writable h c f (Ends w) ≡ broken_at o (count_fault writable c w)
end_told writable h c f w o whole is =
    ap (λ (b : Option Placed). broken_at (place_in b) (broken_at (head_fault h.p w.blocks f (2 ^ h.p) 0) (count_fault writable c w))) whole
    ∙ ap (λ (x : Option ℕ). broken_at x (count_fault writable c w)) (sym is)

-- an error that is handed on is what fails first
pub finds_err : {T : Type 0} (r : Result T OpenError) (cause : OpenError) (fault : Option OpenError) → IsErrAnd r (λ e. e ≡ cause) → FindsCause cause fault → Finds r fault
finds_err (Ok x) cause fault is holds = absurd is
finds_err (Err e) cause fault is holds = subst (λ (x : OpenError). FindsCause x fault) (sym is) holds

-- the header, the closing part and the walk say what fails first
pub to_the_end : (kinds f : List ℕ) (writable : Bool) (shard : ShardOf) (h : StaticHead) (c : Closing) (o : Outcome) → HeadIn kinds f h → ClosingIn h.p f c → walk h shard f ≡ o
    → end_fault writable h c f o ≡ first_fault kinds writable shard f
to_the_end kinds f writable shard h c o head closing is =
    ap (end_fault writable h c f) (sym is) ∙ sym (closing.rest writable h shard refl) ∙ sym (head.rest writable shard)

pub always_ok : {T E : Type 0} {P : Type 0} (r : Result T E) → P → OnOk r P
always_ok (Ok x) holds = holds
always_ok (Err e) holds = tt
