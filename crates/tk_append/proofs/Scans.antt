-- A walk over a file that is read in pieces.
use Rattle.std.proofs.Common.{◌≡◌, ℕ, zero, suc, ◌+◌, ◌-◌, ◌<◌, ◌≤◌, inl, inr, List, [], ◌∷◌, ◌++◌, length, get_or, take, drop, refl, sym, ◌∙◌, ap, subst, arith, append_assoc}
use Rattle.std.specs.Prelude.{Option, Some, None, IfSome, Result, Ok, Err, IfErr}
use Rattle.std.specs.Result.{IsErrAnd}
use Rattle.std.specs.Io.{StartsWith}
use Rattle.std.proofs.lemmas.List.{append-nil, drop_at, drop_all, length-append, length-drop, length-take, drop-drop}
use Rattle.tk_model.specs.declared.record.ShardOf.{ShardOf}
use Rattle.tk_model.specs.declared.error.OpenError.{OpenError}
use Rattle.tk_model.specs.declared.error.OpenError.TheVariants.{NotADatabase, BrokenAt, Fault, NoMemory}
use Rattle.tk_block.specs.Text.{base_of}
use Rattle.tk_block.specs.declared.head.StaticHead.{StaticHead}
use Rattle.tk_append.specs.Opening.{Walk, begin, walk, walk_on, walked}
use Rattle.tk_append.specs.Walked.{Fails, HoldsBlock, IsAt, Passed, Shows, WalkedAll, WalkFails}
use Rattle.tk_append.specs.declared.walker.Walker.{Walker}
use Rattle.tk_append.proofs.WalkerSteps.{goes_on, walk_next, walk_end}
use Rattle.tk_append.proofs.Windows.{cut, shows_both, shows_first, shows_rest, shows_none}
use Rattle.tk_append.proofs.BlockFronts.{fails_more, follows_any}
use Rattle.tk_block.specs.Layout.{placed}

-- how far a walk has come: the bytes that it passed, whatever stands behind them, and those that the window has
pub record Scanned (image : Option (List ℕ)) (h : StaticHead) (shard : ShardOf) (size place : ℕ) (bytes : List ℕ) (walker : Walker) : Type 0 where
  pub passed : List ℕ
  pub count : ℕ
  pub w : Walk
  pub at : IsAt h.p place walker w
  pub joined : (most : ℕ) (more : List ℕ) → walk_on (count + most) h shard begin (base_of h.p) (passed ++ more) ≡ walk_on most h shard w place more
  pub few : count ≤ length passed
  pub place_is : place ≡ base_of h.p + length passed
  pub held : place + length bytes ≤ size
  pub passed_shown : Shows image (base_of h.p) passed
  pub shown : Shows image place bytes
  pub small : (i : ℕ) → get_or passed i 0 < 256

pub scan_first : (image : Option (List ℕ)) (h : StaticHead) (shard : ShardOf) (size place : ℕ) (bytes : List ℕ) (walker : Walker) → IsAt h.p (base_of h.p) walker begin → base_of h.p ≤ size → place ≡ base_of h.p → bytes ≡ []
    → Scanned image h shard size place bytes walker
scan_first image h shard size place bytes walker at long is none = record {
  passed = [];
  count = 0;
  w = begin;
  at = subst (λ (n : ℕ). IsAt h.p n walker begin) (sym is) at;
  joined = λ most more. ap (λ (n : ℕ). walk_on n h shard begin (base_of h.p) more) (omega arith) ∙ ap (λ (n : ℕ). walk_on most h shard begin n more) (sym is);
  few = omega arith;
  place_is = omega (arith, is);
  held = omega (arith, is, long, ap length none);
  passed_shown = shows_none image (base_of h.p);
  shown = subst (λ (l : List ℕ). Shows image place l) (sym none) (shows_none image place);
  small = λ i. omega arith;
}

pub small_both : (xs ys : List ℕ) → ((i : ℕ) → get_or xs i 0 < 256) → ((i : ℕ) → get_or ys i 0 < 256) → (i : ℕ) → get_or (xs ++ ys) i 0 < 256
small_both [] ys a b i = b i
small_both (x ∷ xs) ys a b zero = a zero
small_both (x ∷ xs) ys a b (suc i) = small_both xs ys (λ k. a (suc k)) b i

small_first : (n : ℕ) (xs : List ℕ) → ((i : ℕ) → get_or xs i 0 < 256) → (i : ℕ) → get_or (take n xs) i 0 < 256
small_first zero xs a i = omega arith
small_first (suc n) [] a i = omega arith
small_first (suc n) (x ∷ xs) a zero = a zero
small_first (suc n) (x ∷ xs) a (suc i) = small_first n xs (λ k. a (suc k)) i

one_more : (h : StaticHead) (shard : ShardOf) (w : Walk) (place e most : ℕ) (bytes more : List ℕ) (new : Walker) → (p : Passed h shard w place bytes e new)
    → walk_on (suc most) h shard w place (take e bytes ++ more) ≡ walk_on most h shard (walked w (placed place p.body)) (place + e) more
one_more h shard w place e most bytes more new p =
    let own : length (take e bytes) ≡ e = omega (arith, p.within, length-take e bytes) in
    walk_next most h shard w place (take e bytes ++ more) (omega (arith, own, p.some, length-append (take e bytes) more))
    ∙ goes_on h shard w place e (take e bytes ++ more) p.body (λ v k. walk_on most h shard v (place + k) (drop k (take e bytes ++ more))) (follows_any h shard w place e bytes more p.body p.follows)
    ∙ ap (λ (l : List ℕ). walk_on most h shard (walked w (placed place p.body)) (place + e) l) (drop_at (take e bytes) more e own)

next_from : (image : Option (List ℕ)) (h : StaticHead) (shard : ShardOf) (size place e : ℕ) (old bytes : List ℕ) (walker new : Walker) → (s : Scanned image h shard size place old walker) → Shows image place bytes → place + length bytes ≤ size
    → (p : Passed h shard s.w place bytes e new) → Scanned image h shard size (place + e) (drop e bytes) new
next_from image h shard size place e old bytes walker new s shown held p =
    let own : length (take e bytes) ≡ e = omega (arith, p.within, length-take e bytes) in
    record {
      passed = s.passed ++ take e bytes;
      count = s.count + 1;
      w = walked s.w (placed place p.body);
      at = p.at;
      joined = λ most more.
          ap (λ (n : ℕ). walk_on n h shard begin (base_of h.p) ((s.passed ++ take e bytes) ++ more)) (omega arith)
          ∙ ap (λ (l : List ℕ). walk_on (s.count + suc most) h shard begin (base_of h.p) l) (append_assoc s.passed (take e bytes) more)
          ∙ s.joined (suc most) (take e bytes ++ more)
          ∙ one_more h shard s.w place e most bytes more new p;
      few = omega (arith, s.few, own, p.some, length-append s.passed (take e bytes));
      place_is = omega (arith, s.place_is, own, length-append s.passed (take e bytes));
      held = omega (arith, held, p.within, length-drop e bytes);
      passed_shown = shows_both image (base_of h.p) place s.passed (take e bytes) s.place_is s.passed_shown (shows_first image place e bytes shown);
      shown = shows_rest image place e bytes p.within shown;
      small = small_both s.passed (take e bytes) s.small (small_first e bytes p.small);
    }

-- one block further
pub scan_next : (image : Option (List ℕ)) (h : StaticHead) (shard : ShardOf) (size place e : ℕ) (old bytes rest : List ℕ) (walker new : Walker) → Scanned image h shard size place old walker → Shows image place bytes → place + length bytes ≤ size
    → rest ≡ drop e bytes → ((w : Walk) → IsAt h.p place walker w → Passed h shard w place bytes e new) → Scanned image h shard size (place + e) rest new
scan_next image h shard size place e old bytes rest walker new s shown held is p =
    subst (λ (l : List ℕ). Scanned image h shard size (place + e) l new) (sym is) (next_from image h shard size place e old bytes walker new s shown held (p s.w s.at))

walk_all : (h : StaticHead) (shard : ShardOf) (f : List ℕ) → walk h shard f ≡ walk_on (length f) h shard begin (base_of h.p) (drop (base_of h.p) f)
unfolding walk
walk_all h shard f = refl

-- the walk over a file that goes on so behind the bytes that were passed
walk_behind : (image : Option (List ℕ)) (h : StaticHead) (shard : ShardOf) (size place : ℕ) (bytes : List ℕ) (walker : Walker) (s : Scanned image h shard size place bytes walker) (f more : List ℕ) (most : ℕ)
    → drop (base_of h.p) f ≡ s.passed ++ more → length f ≡ s.count + most → walk h shard f ≡ walk_on most h shard s.w place more
walk_behind image h shard size place bytes walker s f more most is enough =
    walk_all h shard f
    ∙ ap (λ (n : ℕ). walk_on n h shard begin (base_of h.p) (drop (base_of h.p) f)) enough
    ∙ ap (λ (l : List ℕ). walk_on (s.count + most) h shard begin (base_of h.p) l) is
    ∙ s.joined most more

pub scan_end : (image : Option (List ℕ)) (h : StaticHead) (shard : ShardOf) (size place : ℕ) (bytes : List ℕ) (walker : Walker) → Scanned image h shard size place bytes walker → size ≤ place → WalkedAll image h shard size walker
scan_end image h shard size place bytes walker s past =
    let here : place ≡ size = omega (arith, s.held) in
    record {
      blocks = s.passed;
      w = s.w;
      whole = omega (arith, here, s.place_is);
      shown = s.passed_shown;
      small = s.small;
      ends = λ f is.
          walk_behind image h shard size place bytes walker s f [] (length f - s.count) (is ∙ sym (append-nil s.passed)) (omega (arith, s.few, ap length is, length-drop (base_of h.p) f))
          ∙ walk_end (length f - s.count) h shard s.w place [] refl;
      at = subst (λ (n : ℕ). IsAt h.p n walker s.w) here s.at;
    }

if_both : (o : Option (List ℕ)) (P Q R : List ℕ → Type 0) → IfSome o P → IfSome o Q → ((f : List ℕ) → P f → Q f → R f) → IfSome o R
if_both None P Q R p q more = tt
if_both (Some f) P Q R p q more = more f p q

fails_all : (h : StaticHead) (shard : ShardOf) (w : Walk) (place left : ℕ) (bytes rest : List ℕ) (e : OpenError) → HoldsBlock left bytes → (length bytes ≡ left → rest ≡ []) → Fails h shard w place bytes e → Fails h shard w place (bytes ++ rest) e
fails_all h shard w place left bytes rest e (inl all) none fails = subst (λ (l : List ℕ). Fails h shard w place l e) (sym (ap (λ (l : List ℕ). bytes ++ l) (none all) ∙ append-nil bytes)) fails
fails_all h shard w place left bytes rest e (inr some) none fails = fails_more h shard w place bytes rest e (record { long = some.0; held = some.1 }) fails

stops : (h : StaticHead) (shard : ShardOf) (f : List ℕ) (w : Walk) (place most : ℕ) (bytes : List ℕ) (e : OpenError) → 0 < length bytes → walk h shard f ≡ walk_on (suc most) h shard w place bytes → Fails h shard w place bytes e → WalkFails h shard f e
stops h shard f w place most bytes (BrokenAt q) some is fails = is ∙ walk_next most h shard w place bytes some ∙ fails _
stops h shard f w place most bytes NotADatabase some is fails = absurd fails
stops h shard f w place most bytes Fault some is fails = absurd fails
stops h shard f w place most bytes NoMemory some is fails = tt

-- a block that fails stops the walk
pub scan_fault : (image : Option (List ℕ)) (h : StaticHead) (shard : ShardOf) (size place : ℕ) (old bytes : List ℕ) (walker : Walker) (e : OpenError) → Scanned image h shard size place old walker → place < size → Shows image place bytes
    → HoldsBlock (size - place) bytes → ((w : Walk) → IsAt h.p place walker w → Fails h shard w place bytes e) → IfSome image (λ f. length f ≡ size → WalkFails h shard f e)
scan_fault image h shard size place old bytes walker e s here shown holds fails =
    if_both image (λ f. StartsWith (drop (base_of h.p) f) s.passed) (λ f. StartsWith (drop place f) bytes) (λ f. length f ≡ size → WalkFails h shard f e) s.passed_shown shown
    (λ f first then long.
    let rest : List ℕ = drop (length bytes) (drop place f) in
    let behind : drop place f ≡ bytes ++ rest = cut (drop place f) bytes then in
    let before : drop (base_of h.p) f ≡ s.passed ++ (bytes ++ rest) =
    cut (drop (base_of h.p) f) s.passed first
    ∙ ap (λ (l : List ℕ). s.passed ++ l) (drop-drop (length s.passed) (base_of h.p) f ∙ ap (λ (n : ℕ). drop n f) (sym s.place_is) ∙ behind) in
    let most : ℕ = length f - s.count - 1 in
    let enough : length f ≡ s.count + suc most = omega (arith, long, here, s.few, s.place_is) in
    stops h shard f s.w place most (bytes ++ rest) e (omega (arith, ap length behind, length-drop place f, long, here))
    (walk_behind image h shard size place old walker s f (bytes ++ rest) (suc most) before enough)
    (fails_all h shard s.w place (size - place) bytes rest e holds (λ all. drop_all (length bytes) (drop place f) (omega (arith, all, long, length-drop place f))) (fails s.w s.at)))

-- an error that is handed on
pub handed : {T : Type 0} (r : Result T OpenError) (cause : OpenError) (P : List ℕ → OpenError → Type 0) (image : Option (List ℕ)) (size : ℕ) → IsErrAnd r (λ e. e ≡ cause) → IfSome image (λ f. length f ≡ size → P f cause)
    → IfSome image (λ f. length f ≡ size → IfErr r (P f))
handed (Ok x) cause P None size is holds = tt
handed (Ok x) cause P (Some f) size is holds = λ long. tt
handed (Err e) cause P None size is holds = tt
handed (Err e) cause P (Some f) size is holds = λ long. subst (P f) (sym is) (holds long)
