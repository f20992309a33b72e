-- A block is read alike by the bytes of the window and by all that follow, and how the reading of a file goes on behind it.
use Rattle.std.proofs.Common.{◌≡◌, ℕ, zero, suc, ◌+◌, ◌-◌, ◌<◌, ◌≤◌, ◌^◌, ◌⊎◌, min, true, false, List, [], ◌++◌, length, drop, refl, sym, ◌∙◌, ap, subst, arith, inl, inr}
use Rattle.std.specs.Prelude.{Option, Some, None, IfSome, nat_le}
use Rattle.std.specs.Io.{StartsWith}
use Rattle.std.proofs.lemmas.Bool.{cases_lt}
use Rattle.std.proofs.lemmas.Bool.Decides.{nat_tests}
use Rattle.std.proofs.lemmas.List.{append-nil, drop_all, length-drop, length-take, drop-drop}
use Rattle.tk_model.specs.declared.record.Order.TheVariants.{Hash}
use Rattle.tk_model.specs.declared.record.Pair.{Pair}
use Rattle.tk_model.specs.Records.{replay}
use Rattle.tk_block.specs.declared.block.Body.{Body}
use Rattle.tk_block.specs.declared.head.StaticHead.{StaticHead}
use Rattle.tk_block.specs.Text.{head_at, base_of}
use Rattle.tk_block.specs.Blocks.{body_at, room_of}
use Rattle.tk_block.specs.Grammar.{FitsBody}
use Rattle.tk_block.specs.Layout.{Placed}
use Rattle.tk_block.proofs.BodyGrammar.{bodies}
use Rattle.tk_append.specs.Opening.{Walk, begin, walked}
use Rattle.tk_append.specs.Restored.{may_be_read, read_on, read_blocks, complete_groups, groups_in}
use Rattle.tk_model.specs.declared.error.OpenError.{OpenError}
use Rattle.tk_model.specs.declared.error.OpenError.TheVariants.{BrokenAt}
use Rattle.tk_append.specs.Read.{IsOutside}
use Rattle.tk_append.specs.Walked.{Shows}
use Rattle.tk_append.proofs.Windows.{cut, shows_rest, shows_none}
use Rattle.tk_append.proofs.BlockFronts.{body_more, body_front, head_more}
use Rattle.tk_append.proofs.Restoring.{block_on, nothing_read}
use Rattle.tk_append.proofs.Rereading.{none_read, refused, extent_some, value_small}
use Rattle.tk_restore.specs.Readings.{Knows, IsRead, NotRead, IsEnough, HoldsBlock, ReadUpto, Scanned}
use Rattle.tk_restore.specs.declared.reading.Reading.{Reading}

-- ---- the bytes of a window, and all that follow

-- what stands behind the window's bytes
record Parts (f : List ℕ) (place left : ℕ) (bytes : List ℕ) : Type 0 where
  rest : List ℕ
  is : drop place f ≡ bytes ++ rest
  none : length bytes ≡ left → rest ≡ []

parts : (f : List ℕ) (place left : ℕ) (bytes : List ℕ) → length f ≡ place + left → StartsWith (drop place f) bytes → Parts f place left bytes
parts f place left bytes long shown = record {
  rest = drop (length bytes) (drop place f);
  is = cut (drop place f) bytes shown;
  none = λ all. drop_all (length bytes) (drop place f) (omega (arith, all, long, length-drop place f));
}

head_enough : (place left : ℕ) (bytes rest : List ℕ) → min 24 left ≤ length bytes → length bytes ≤ left → (length bytes ≡ left → rest ≡ []) → head_at (bytes ++ rest) place ≡ head_at bytes place
head_enough place left bytes rest enough within none = elim (cases_lt (length bytes) 24) [
  | inl short ↦ ap (λ (l : List ℕ). head_at l place) (ap (λ (l : List ℕ). bytes ++ l) (none (omega arith)) ∙ append-nil bytes)
  | inr long ↦ head_more bytes rest place (omega arith)
]

-- the head that the window shows is that of the file
pub head_same : (f : List ℕ) (place left : ℕ) (bytes : List ℕ) → length f ≡ place + left → StartsWith (drop place f) bytes → min 24 left ≤ length bytes → length bytes ≤ left → head_at (drop place f) place ≡ head_at bytes place
head_same f place left bytes long shown enough within =
    let p = parts f place left bytes long shown in
    ap (λ (l : List ℕ). head_at l place) p.is ∙ head_enough place left bytes p.rest enough within p.none

pub holds_enough : (left e : ℕ) (first bytes : List ℕ) → min 24 left ≤ length first → length first ≤ length bytes → min (min e (2 ^ 26)) left ≤ length bytes → length bytes ≤ left → IsEnough left e bytes
holds_enough left e first bytes some grows enough within = elim (cases_lt (length bytes) left) [
  | inl less ↦ inr (omega arith, omega arith)
  | inr all ↦ inl (omega arith)
]

-- ---- a block that is read, or none

body_bound : (b : Body) → FitsBody b → room_of b ≤ 2 ^ 26
body_bound b fits = let v = value_small b fits.0 in let k = fits.1 in omega (arith, v, k)

too_long : (w : Walk) (e : ℕ) (b : Body) → e < room_of b → may_be_read w e b ≡ false
too_long w e b long =
    let t : nat_le (room_of b) e ≡ false = grind (arith, nat_tests) in
    rw t refl

not_behind : (w : Walk) (place left e : ℕ) (bytes rest : List ℕ) → IsEnough left e bytes → (length bytes ≡ left → rest ≡ []) → NotRead w place e bytes → NotRead w place e (bytes ++ rest)
not_behind w place left e bytes rest (inl all) none never =
    subst (NotRead w place e) (sym (ap (λ (l : List ℕ). bytes ++ l) (none all) ∙ append-nil bytes)) never
not_behind w place left e bytes rest (inr some) none never = λ b is.
    let bound = body_bound b ((bodies place).found (drop 24 (bytes ++ rest)) b is).0 in
    elim (cases_lt (length bytes) (room_of b)) [
      | inl short ↦ too_long w e b (omega (arith, some.1, bound, short))
      | inr long ↦ never b (body_front bytes rest place b some.0 long is)
    ]

body_behind : (place left e : ℕ) (bytes rest : List ℕ) (b : Body) → IsEnough left e bytes → (length bytes ≡ left → rest ≡ []) → body_at (drop 24 bytes) place ≡ Some b → body_at (drop 24 (bytes ++ rest)) place ≡ Some b
body_behind place left e bytes rest b (inl all) none is = ap (λ (l : List ℕ). body_at (drop 24 l) place) (ap (λ (l : List ℕ). bytes ++ l) (none all) ∙ append-nil bytes) ∙ is
body_behind place left e bytes rest b (inr some) none is = body_more bytes rest place b some.0 is

none_on : (o : Option Body) (n : ℕ) (w : Walk) (place e : ℕ) (bytes : List ℕ) → head_at bytes place ≡ Some e → body_at (drop 24 bytes) place ≡ o → NotRead w place e bytes → read_on (suc n) w place bytes ≡ w
none_on None n w place e bytes head body never = none_read n w place bytes (inr body)
none_on (Some b) n w place e bytes head body never = refused n w place e bytes b head body (never b body)

-- ---- how far a reading has come

ends_by : (most : ℕ) (h : StaticHead) (f : List ℕ) (place size : ℕ) (reading : Reading) (w : Walk) → place < size → length f ≡ size → Knows reading w → length f ≤ place + most
    → (read_on most w place (drop place f)).blocks ≡ read_blocks h f → ((n : ℕ) → read_on (suc n) w place (drop place f) ≡ w) → ReadUpto h f size reading
ends_by zero h f place size reading w here long knows enough rest still = absurd (omega (arith, enough, here, long))
ends_by (suc n) h f place size reading w here long knows enough rest still = record {
  w = w;
  most = 0;
  knows = knows;
  enough = omega (arith, long);
  rest = sym (ap (λ (v : Walk). v.blocks) (still n)) ∙ rest;
}

-- no head stands there
pub ends_headless : (h : StaticHead) (f : List ℕ) (place size : ℕ) (reading : Reading) → place < size → length f ≡ size → head_at (drop place f) place ≡ None → ReadUpto h f place reading → ReadUpto h f size reading
ends_headless h f place size reading here long none upto =
    ends_by upto.most h f place size reading upto.w here long upto.knows upto.enough upto.rest (λ n. none_read n upto.w place (drop place f) (inl none))

-- the block there may not be read
pub ends_unread : (h : StaticHead) (f : List ℕ) (place left size e : ℕ) (bytes : List ℕ) (old new : Reading) → place < size → length f ≡ size → length f ≡ place + left → StartsWith (drop place f) bytes → head_at (drop place f) place ≡ Some e
    → IsEnough left e bytes → (upto : ReadUpto h f place old) → NotRead upto.w place e bytes → Knows new upto.w → ReadUpto h f size new
ends_unread h f place left size e bytes old new here long whole shown head enough upto never knows =
    let p = parts f place left bytes whole shown in
    let not_there : NotRead upto.w place e (drop place f) = subst (NotRead upto.w place e) (sym p.is) (not_behind upto.w place left e bytes p.rest enough p.none never) in
    ends_by upto.most h f place size new upto.w here long knows upto.enough upto.rest
    (λ n. none_on (body_at (drop 24 (drop place f)) place) n upto.w place e (drop place f) head refl not_there)

goes_by : (most : ℕ) (h : StaticHead) (f : List ℕ) (place e next : ℕ) (b : Body) (new : Reading) (w : Walk) → place < length f → length f ≤ place + most → (read_on most w place (drop place f)).blocks ≡ read_blocks h f
    → head_at (drop place f) place ≡ Some e → body_at (drop 24 (drop place f)) place ≡ Some b → may_be_read w e b ≡ true → Knows new (walked w (record { place = place; extent = e; body = b })) → next ≡ place + min e (length f - place)
    → ReadUpto h f next new
goes_by zero h f place e next b new w here enough rest head body may knows is = absurd (omega (arith, enough, here))
goes_by (suc n) h f place e next b new w here enough rest head body may knows is =
    let x : Placed = record { place = place; extent = e; body = b } in
    let on = block_on n w place e (drop place f) b head body may in
    elim (cases_lt e (length f - place)) [
      | inl below ↦
          let at : place + e ≡ next = omega (arith, below, is) in
          record {
            w = walked w x;
            most = n;
            knows = knows;
            enough = omega (arith, enough, at, extent_some place e (drop place f) head);
            rest =
                ap (λ (v : Walk). v.blocks)
                (ap (λ (k : ℕ). read_on n (walked w x) k (drop k f)) (sym at) ∙ ap (λ (l : List ℕ). read_on n (walked w x) (place + e) l) (sym (drop-drop e place f)) ∙ sym on)
                ∙ rest;
          }
      | inr past ↦ record {
        w = walked w x;
        most = 0;
        knows = knows;
        enough = omega (arith, past, is);
        rest =
            ap (λ (v : Walk). v.blocks)
            (sym (nothing_read n (walked w x) (place + e)) ∙ ap (λ (l : List ℕ). read_on n (walked w x) (place + e) l) (sym (drop_all e (drop place f) (omega (arith, past, length-drop place f)))) ∙ sym on)
            ∙ rest;
      }
    ]

-- the block there was read
pub goes_on : (h : StaticHead) (f : List ℕ) (place left next e : ℕ) (bytes : List ℕ) (old new : Reading) → 0 < left → length f ≡ place + left → StartsWith (drop place f) bytes → head_at (drop place f) place ≡ Some e
    → IsEnough left e bytes → next ≡ place + min e left → (upto : ReadUpto h f place old) → IsRead upto.w place e bytes new → ReadUpto h f next new
goes_on h f place left next e bytes old new some whole shown head enough is upto read =
    let p = parts f place left bytes whole shown in
    let there : body_at (drop 24 (drop place f)) place ≡ Some read.body = ap (λ (l : List ℕ). body_at (drop 24 l) place) p.is ∙ body_behind place left e bytes p.rest read.body enough p.none read.there in
    goes_by upto.most h f place e next read.body new upto.w (omega (arith, whole, some)) upto.enough upto.rest head there read.may read.knows (omega (arith, is, whole))

pub upto_first : (h : StaticHead) (f : List ℕ) (place : ℕ) (reading : Reading) → place ≡ base_of h.p → Knows reading begin → ReadUpto h f place reading
unfolding read_blocks
upto_first h f place reading is knows = record {
  w = begin;
  most = length f;
  knows = knows;
  enough = omega arith;
  rest = ap (λ (k : ℕ). (read_on (length f) begin k (drop k f)).blocks) is;
}

pub upto_end : (h : StaticHead) (f : List ℕ) (place : ℕ) (reading : Reading) → ReadUpto h f place reading → length f ≤ place → reading.records.live ≡ replay Hash (groups_in h f) []
unfolding groups_in
upto_end h f place reading upto past =
    upto.knows.records
    ∙ ap (λ (v : Walk). replay Hash (complete_groups [] v.blocks) []) (sym (nothing_read upto.most upto.w place) ∙ ap (λ (l : List ℕ). read_on upto.most upto.w place l) (sym (drop_all place f past)))
    ∙ ap (λ (l : List Placed). replay Hash (complete_groups [] l) []) upto.rest

-- a file that ended too early was no fault
pub short_kept : (e : OpenError) (n before now : ℕ) → e ≡ BrokenAt n → IsOutside e ⊎ ((e ≡ BrokenAt 32) × (now ≡ before)) → now ≡ before
short_kept e n before now is (inl out) = absurd (subst IsOutside is out)
short_kept e n before now is (inr short) = short.1

-- ---- what the window holds, where the disk tells its bytes

abbrev pub Holding : (image : Option (List ℕ)) (place left : ℕ) (old new : List ℕ) → Option ℕ → Type 0
Holding image place left old new found = IfSome image (λ f. length f ≡ place + left → StartsWith (drop place f) old → HoldsBlock f place left new found)

pub hold_none : (image : Option (List ℕ)) (place left : ℕ) (old new : List ℕ) → (Shows image place old → Shows image place new) → min 24 left ≤ length new → length new ≤ left → head_at new place ≡ None
    → Holding image place left old new None
hold_none None place left old new shows enough within none = tt
hold_none (Some f) place left old new shows enough within none = λ long shown. record {
  head = head_same f place left new long (shows shown) enough within ∙ none;
  starts = tt;
  enough = tt;
}

pub hold_some : (image : Option (List ℕ)) (place left e : ℕ) (old first new : List ℕ) → (Shows image place old → Shows image place first) → (Shows image place first → Shows image place new) → min 24 left ≤ length first → length first ≤ left
    → StartsWith new first → min (min e (2 ^ 26)) left ≤ length new → length new ≤ left → head_at first place ≡ Some e → Holding image place left old new (Some e)
hold_some None place left e old first new shows more some fits grows enough within head = tt
hold_some (Some f) place left e old first new shows more some fits grows enough within head = λ long shown. record {
  head = head_same f place left first long (shows shown) some fits ∙ head;
  starts = more (shows shown);
  enough = holds_enough left e first new some (omega (arith, ap length grows, length-take (length first) new)) enough within;
}

-- ---- one block further

at_end : (size : ℕ) (P : Type 0) → size < size → P
at_end size P below = absurd (omega (arith, below))

pub scan_headless : (image : Option (List ℕ)) (h : StaticHead) (size place left : ℕ) (old new : List ℕ) (reading : Reading) → place < size → left ≡ size - place → Holding image place left old new None → Scanned image h size place old reading
    → Scanned image h size size new reading
scan_headless None h size place left old new reading here is holds s = record { held = at_end size _; upto = tt; shows = tt }
scan_headless (Some f) h size place left old new reading here is holds s = record {
  held = at_end size _;
  upto = λ long. ends_headless h f place size reading here long (holds (omega (arith, long, is, here)) (s.shows long here)).head (s.upto long);
  shows = λ long. at_end size _;
}

pub scan_unread : (image : Option (List ℕ)) (h : StaticHead) (size place left e : ℕ) (old bytes : List ℕ) (reading new : Reading) → place < size → left ≡ size - place → Holding image place left old bytes (Some e)
    → ((w : Walk) → Knows reading w → NotRead w place e bytes × Knows new w) → Scanned image h size place old reading → Scanned image h size size bytes new
scan_unread None h size place left e old bytes reading new here is holds read s = record { held = at_end size _; upto = tt; shows = tt }
scan_unread (Some f) h size place left e old bytes reading new here is holds read s = record {
  held = at_end size _;
  upto = λ long.
      let whole : length f ≡ place + left = omega (arith, long, is, here) in
      let block = holds whole (s.shows long here) in
      let upto = s.upto long in
      let not = read upto.w upto.knows in
      ends_unread h f place left size e bytes reading new here long whole block.starts block.head block.enough upto not.0 not.1;
  shows = λ long. at_end size _;
}

upto_read : (h : StaticHead) (f : List ℕ) (size place left e next : ℕ) (old bytes : List ℕ) (reading new : Reading) → place < size → left ≡ size - place → Holding (Some f) place left old bytes (Some e)
    → ((w : Walk) → Knows reading w → IsRead w place e bytes new) → next ≡ place + min e left → Scanned (Some f) h size place old reading → length f ≡ size → ReadUpto h f next new
upto_read h f size place left e next old bytes reading new here is holds read end s long =
    let whole : length f ≡ place + left = omega (arith, long, is, here) in
    let block = holds whole (s.shows long here) in
    let upto = s.upto long in
    goes_on h f place left next e bytes reading new (omega (arith, is, here)) whole block.starts block.head block.enough end upto (read upto.w upto.knows)

pub scan_last : (image : Option (List ℕ)) (h : StaticHead) (size place left e : ℕ) (old bytes : List ℕ) (reading new : Reading) → place < size → left ≡ size - place → Holding image place left old bytes (Some e)
    → ((w : Walk) → Knows reading w → IsRead w place e bytes new) → left ≤ e → Scanned image h size place old reading → Scanned image h size size bytes new
scan_last None h size place left e old bytes reading new here is holds read past s = record { held = at_end size _; upto = tt; shows = tt }
scan_last (Some f) h size place left e old bytes reading new here is holds read past s = record {
  held = at_end size _;
  upto = upto_read h f size place left e size old bytes reading new here is holds read (omega (arith, here, is, past)) s;
  shows = λ long. at_end size _;
}

passed_shown : (image : Option (List ℕ)) (place e n : ℕ) (bytes rest : List ℕ) → n ≡ min (length bytes) e → rest ≡ drop n bytes → Shows image place bytes → Shows image (place + e) rest
passed_shown image place e n bytes rest is passed shown = elim (cases_lt (length bytes) e) [
  | inl short ↦ subst (λ (l : List ℕ). Shows image (place + e) l) (sym (passed ∙ drop_all n bytes (omega (arith, is, short)))) (shows_none image (place + e))
  | inr long ↦
      let all : n ≡ e = omega (arith, is, long) in
      subst (λ (l : List ℕ). Shows image (place + e) l) (sym (passed ∙ ap (λ (k : ℕ). drop k bytes) all)) (shows_rest image place e bytes long shown)
]

pub scan_next : (image : Option (List ℕ)) (h : StaticHead) (size place left e n : ℕ) (old bytes rest : List ℕ) (reading new : Reading) → place < size → left ≡ size - place → Holding image place left old bytes (Some e) → length bytes ≤ left
    → ((w : Walk) → Knows reading w → IsRead w place e bytes new) → e < left → n ≡ min (length bytes) e → rest ≡ drop n bytes → Scanned image h size place old reading → Scanned image h size (place + e) rest new
scan_next None h size place left e n old bytes rest reading new here is holds fits read below count passed s = record {
  held = λ within. omega (arith, is, fits, below, count, ap length passed, length-drop n bytes);
  upto = tt;
  shows = tt;
}
scan_next (Some f) h size place left e n old bytes rest reading new here is holds fits read below count passed s = record {
  held = λ within. omega (arith, is, fits, below, count, ap length passed, length-drop n bytes);
  upto = upto_read h f size place left e (place + e) old bytes reading new here is holds read (omega (arith, below)) s;
  shows = λ long within. passed_shown (Some f) place e n bytes rest count passed (holds (omega (arith, long, is, here)) (s.shows long here)).starts;
}

pub scan_first : (image : Option (List ℕ)) (h : StaticHead) (size place : ℕ) (bytes : List ℕ) (reading : Reading) → place ≡ base_of h.p → bytes ≡ [] → Knows reading begin → Scanned image h size place bytes reading
scan_first None h size place bytes reading is none knows = record { held = λ below. omega (arith, below, ap length none); upto = tt; shows = tt }
scan_first (Some f) h size place bytes reading is none knows = record {
  held = λ below. omega (arith, below, ap length none);
  upto = λ long. upto_first h f place reading is knows;
  shows = λ long below. subst (λ (l : List ℕ). StartsWith (drop place f) l) (sym none) refl;
}

pub scan_end : (image : Option (List ℕ)) (h : StaticHead) (size place : ℕ) (bytes : List ℕ) (reading : Reading) (pairs : List Pair) → Scanned image h size place bytes reading → size ≤ place → IfSome image (λ f. size ≡ length f)
    → pairs ≡ reading.records.live → IfSome image (λ f. pairs ≡ replay Hash (groups_in h f) [])
scan_end None h size place bytes reading pairs s past long is = tt
scan_end (Some f) h size place bytes reading pairs s past long is = is ∙ upto_end h f place reading (s.upto (sym long)) (omega (arith, past, long))
