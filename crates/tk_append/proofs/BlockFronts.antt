-- A block is judged alike on its own bytes and on all that follow.
use Rattle.std.proofs.Common.{◌≡◌, ◌≢◌, ℕ, ◌-◌, ◌≤◌, inl, inr, Bool, true, false, List, ◌++◌, length, take, drop, refl, sym, ◌∙◌, ap, subst, arith, append_assoc}
use Rattle.std.specs.Prelude.{◌^◌, Option, Some, None, nat_le}
use Rattle.std.specs.Io.{StartsWith}
use Rattle.std.proofs.lemmas.Bool.{le-leb, cases_eq}
use Rattle.std.proofs.lemmas.Bool.Decides.{nat_tests}
use Rattle.std.proofs.lemmas.Option.{cond_some}
use Rattle.std.proofs.lemmas.List.{length-append, length-drop, length-take, drop-append-le, take-append-le, take-append-drop}
use Rattle.tk_model.specs.declared.record.ShardOf.{ShardOf}
use Rattle.tk_block.specs.declared.block.Body.{Body}
use Rattle.tk_block.specs.declared.head.StaticHead.{StaticHead}
use Rattle.tk_block.specs.Number.{u64_in}
use Rattle.tk_block.specs.Text.{head_at, head_text}
use Rattle.tk_block.specs.Blocks.{body_at, body_text, extent_of, room_of, is_body}
use Rattle.tk_block.specs.Grammar.{Reads, FitsBody, FitsExtent}
use Rattle.tk_model.specs.declared.error.OpenError.{OpenError}
use Rattle.tk_model.specs.declared.error.OpenError.TheVariants as errors
use Rattle.tk_block.proofs.BodyGrammar.{bodies, length-body_text}
use Rattle.tk_block.proofs.Grammar.{heads}
use Rattle.tk_block.proofs.Heads.{length-head_text}
use Rattle.tk_append.specs.Opening.{Walk, Outcome, walk_block, may_stand, is_padded}
use Rattle.tk_append.specs.Walked.{MayFollow, Fails}
use Rattle.tk_append.proofs.WalkerSteps.{stood}
use Rattle.tk_append.proofs.Windows.{cut, starts, u64_same}

-- what is found at the front is found there whatever follows the text
found_more : {A : Type 0} (Fits : A → Type 0) (text : A → List ℕ) (find : List ℕ → Option A) → Reads Fits text find → (bytes more : List ℕ) (x : A) → find bytes ≡ Some x → find (bytes ++ more) ≡ Some x
found_more Fits text find reads bytes more x is =
    let f = reads.found bytes x is in
    let rest : List ℕ = drop (length (text x)) bytes in
    let same : bytes ++ more ≡ text x ++ (rest ++ more) = ap (λ (l : List ℕ). l ++ more) (cut bytes (text x) f.1) ∙ append_assoc (text x) rest more in
    ap find same ∙ reads.again x (rest ++ more) f.0

-- and what is found is found in any front that has its text
found_front : {A : Type 0} (Fits : A → Type 0) (text : A → List ℕ) (find : List ℕ → Option A) → Reads Fits text find → (bytes more : List ℕ) (x : A) → length (text x) ≤ length bytes → find (bytes ++ more) ≡ Some x → find bytes ≡ Some x
found_front Fits text find reads bytes more x long is =
    let f = reads.found (bytes ++ more) x is in
    let front : take (length (text x)) bytes ≡ text x = sym (take-append-le (length (text x)) bytes more long) ∙ f.1 in
    ap find (cut bytes (text x) front) ∙ reads.again x (drop (length (text x)) bytes) f.0

by_front : {A : Type 0} (Fits : A → Type 0) (text : A → List ℕ) (find : List ℕ → Option A) → Reads Fits text find → (bytes more : List ℕ) → ((x : A) → length (text x) ≤ length bytes) → (o p : Option A) → find bytes ≡ o → find (bytes ++ more) ≡ p → p ≡ o
by_front Fits text find reads bytes more long None None a b = refl
by_front Fits text find reads bytes more long None (Some x) a b = absurd (let e = found_front Fits text find reads bytes more x (long x) b in cc)
by_front Fits text find reads bytes more long (Some x) p a b = sym b ∙ found_more Fits text find reads bytes more x a

-- texts of a fixed length are found by their front alone
pub front_enough : {A : Type 0} (Fits : A → Type 0) (text : A → List ℕ) (find : List ℕ → Option A) → Reads Fits text find → (bytes more : List ℕ) → ((x : A) → length (text x) ≤ length bytes) → find (bytes ++ more) ≡ find bytes
front_enough Fits text find reads bytes more long = by_front Fits text find reads bytes more long (find bytes) (find (bytes ++ more)) refl refl

head_extent : (bytes : List ℕ) (place e : ℕ) → head_at bytes place ≡ Some e → u64_in bytes 4 ≡ e
unfolding head_at
head_extent bytes place e is = (cond_some _ _ _ is).1

front_starts : (xs ys : List ℕ) → StartsWith (xs ++ ys) xs
front_starts xs ys = starts (xs ++ ys) xs ys refl

value_small : (b : Body) → is_body b ≡ true → length b.value ≤ 33554431
value_small b is = grind (arith, nat_tests)

-- no extent is longer
extent_bound : (b : Body) → FitsBody b → extent_of b ≤ 2 ^ 26
extent_bound b fits = let v = value_small b fits.0 in let k = fits.1 in omega (arith, v, k)

extent_room : (b : Body) → room_of b ≤ extent_of b
extent_room b = omega arith

not_true : (t : Bool) → (t ≡ true → ⊥) → t ≡ false
not_true false never = refl
not_true true never = absurd (never refl)

-- a block of another extent than its body's may not stand
may_not : (h : StaticHead) (shard : ShardOf) (w : Walk) (bytes : List ℕ) (e : ℕ) (b : Body) → e ≢ extent_of b → may_stand h shard w bytes e b ≡ false
may_not h shard w bytes e b other = not_true (may_stand h shard w bytes e b) (λ is. other (stood h shard w bytes e b is).is_least)

padded_front : (bytes more : List ℕ) (e : ℕ) (b : Body) → room_of b ≤ e → e ≤ length bytes → is_padded (bytes ++ more) e b ≡ is_padded bytes e b
padded_front bytes more e b room within =
    let same : take (e - room_of b) (drop (room_of b) (bytes ++ more)) ≡ take (e - room_of b) (drop (room_of b) bytes) =
    ap (λ (l : List ℕ). take (e - room_of b) l) (drop-append-le (room_of b) bytes more (omega arith)) ∙ take-append-le (e - room_of b) (drop (room_of b) bytes) more (omega (arith, length-drop (room_of b) bytes)) in
    rw same refl

within_front : (bytes more : List ℕ) (e : ℕ) → e ≤ length bytes → nat_le e (length (bytes ++ more)) ≡ nat_le e (length bytes)
within_front bytes more e within = rw (le-leb e (length bytes) within, le-leb e (length (bytes ++ more)) (omega (arith, length-append bytes more))) refl

-- a block that lies within the front may stand there alike, whatever follows
may_front : (h : StaticHead) (shard : ShardOf) (w : Walk) (bytes more : List ℕ) (e : ℕ) (b : Body) → e ≤ length bytes → may_stand h shard w (bytes ++ more) e b ≡ may_stand h shard w bytes e b
may_front h shard w bytes more e b within =
    elim (cases_eq e (extent_of b)) [
      | inl same ↦ rw (within_front bytes more e within, padded_front bytes more e b (omega (arith, extent_room b)) within) refl
      | inr other ↦ may_not h shard w (bytes ++ more) e b other ∙ sym (may_not h shard w bytes e b other)
    ]

-- enough of a block that stands in front of more
pub record IsEnough (bytes : List ℕ) : Type 0 where
  pub long : 24 ≤ length bytes
  pub held : u64_in bytes 4 ≤ 2 ^ 26 → u64_in bytes 4 ≤ length bytes

behind_head : (bytes more : List ℕ) → 24 ≤ length bytes → drop 24 (bytes ++ more) ≡ drop 24 bytes ++ more
behind_head bytes more long = drop-append-le 24 bytes more long

pub body_more : (bytes more : List ℕ) (place : ℕ) (b : Body) → 24 ≤ length bytes → body_at (drop 24 bytes) place ≡ Some b → body_at (drop 24 (bytes ++ more)) place ≡ Some b
body_more bytes more place b long is =
    ap (λ (l : List ℕ). body_at l place) (behind_head bytes more long) ∙ found_more FitsBody (λ x. body_text x place) (λ l. body_at l place) (bodies place) (drop 24 bytes) more b is

pub body_front : (bytes more : List ℕ) (place : ℕ) (b : Body) → 24 ≤ length bytes → room_of b ≤ length bytes → body_at (drop 24 (bytes ++ more)) place ≡ Some b → body_at (drop 24 bytes) place ≡ Some b
body_front bytes more place b long room is =
    found_front FitsBody (λ x. body_text x place) (λ l. body_at l place) (bodies place) (drop 24 bytes) more b (omega (arith, length-body_text b place, length-drop 24 bytes))
    (ap (λ (l : List ℕ). body_at l place) (sym (behind_head bytes more long)) ∙ is)

pub head_more : (bytes more : List ℕ) (place : ℕ) → 16 ≤ length bytes → head_at (bytes ++ more) place ≡ head_at bytes place
head_more bytes more place long = front_enough FitsExtent (λ e. head_text e place) (λ l. head_at l place) (heads place) bytes more (λ e. omega (arith, length-head_text e place))

link_more : (bytes more : List ℕ) → 24 ≤ length bytes → u64_in (bytes ++ more) 16 ≡ u64_in bytes 16
link_more bytes more long = u64_same bytes (bytes ++ more) 16 (omega arith) (front_starts bytes more)

-- the body that stands in the whole and not in the front is longer than the extent says
too_long : (bytes more : List ℕ) (place e : ℕ) (b : Body) → IsEnough bytes → head_at bytes place ≡ Some e → body_at (drop 24 bytes) place ≡ None → body_at (drop 24 (bytes ++ more)) place ≡ Some b → e ≢ extent_of b
too_long bytes more place e b enough head none is same =
    let fits = ((bodies place).found (drop 24 (bytes ++ more)) b is).0 in
    let short : room_of b ≤ length bytes = omega (arith, extent_room b, extent_bound b fits, enough.held, head_extent bytes place e head) in
    let found = body_front bytes more place b enough.long short is in cc

may_alike : (h : StaticHead) (shard : ShardOf) (w : Walk) (bytes more : List ℕ) (place e : ℕ) (b : Body) → IsEnough bytes → head_at bytes place ≡ Some e → body_at (drop 24 bytes) place ≡ Some b
    → may_stand h shard w (bytes ++ more) e b ≡ may_stand h shard w bytes e b
may_alike h shard w bytes more place e b enough head is =
    let bound = extent_bound b ((bodies place).found (drop 24 bytes) b is).0 in
    elim (cases_eq e (extent_of b)) [
      | inl same ↦ may_front h shard w bytes more e b (omega (arith, bound, enough.held, head_extent bytes place e head))
      | inr other ↦ may_not h shard w (bytes ++ more) e b other ∙ sym (may_not h shard w bytes e b other)
    ]

block_alike : (o : Option ℕ) (p q : Option Body) (h : StaticHead) (shard : ShardOf) (w : Walk) (place : ℕ) (bytes more : List ℕ) (go : Walk → ℕ → Outcome) → IsEnough bytes → head_at bytes place ≡ o → body_at (drop 24 bytes) place ≡ p
    → body_at (drop 24 (bytes ++ more)) place ≡ q → walk_block h shard w place (bytes ++ more) o q go ≡ walk_block h shard w place bytes o p go
block_alike None p q h shard w place bytes more go enough head a b = refl
block_alike (Some e) None None h shard w place bytes more go enough head a b = refl
block_alike (Some e) None (Some x) h shard w place bytes more go enough head a b = rw (may_not h shard w (bytes ++ more) e x (too_long bytes more place e x enough head a b)) refl
block_alike (Some e) (Some x) None h shard w place bytes more go enough head a b = absurd (let c = body_more bytes more place x enough.long a in cc)
block_alike (Some e) (Some x) (Some y) h shard w place bytes more go enough head a b =
    let same : x ≡ y = let c = body_more bytes more place x enough.long a in cc in
    ap (λ (z : Body). walk_block h shard w place (bytes ++ more) (Some e) (Some z) go) (sym same)
    ∙ rw (may_alike h shard w bytes more place e x enough head a, link_more bytes more enough.long) refl

-- the block at the front of enough bytes and at the front of all
pub same_block : (h : StaticHead) (shard : ShardOf) (w : Walk) (place : ℕ) (bytes more : List ℕ) (go : Walk → ℕ → Outcome) → IsEnough bytes
    → walk_block h shard w place (bytes ++ more) (head_at (bytes ++ more) place) (body_at (drop 24 (bytes ++ more)) place) go ≡ walk_block h shard w place bytes (head_at bytes place) (body_at (drop 24 bytes) place) go
same_block h shard w place bytes more go enough =
    ap (λ (o : Option ℕ). walk_block h shard w place (bytes ++ more) o (body_at (drop 24 (bytes ++ more)) place) go) (head_more bytes more place (let l = enough.long in omega arith))
    ∙ block_alike (head_at bytes place) (body_at (drop 24 bytes) place) (body_at (drop 24 (bytes ++ more)) place) h shard w place bytes more go enough refl refl refl

-- what fails on enough bytes fails on all
pub fails_more : (h : StaticHead) (shard : ShardOf) (w : Walk) (place : ℕ) (bytes more : List ℕ) (e : OpenError) → IsEnough bytes → Fails h shard w place bytes e → Fails h shard w place (bytes ++ more) e
fails_more h shard w place bytes more (errors.BrokenAt at) enough fails = λ go. same_block h shard w place bytes more go enough ∙ fails go
fails_more h shard w place bytes more errors.NotADatabase enough fails = fails
fails_more h shard w place bytes more errors.Fault enough fails = fails
fails_more h shard w place bytes more errors.NoMemory enough fails = fails

follows_front : (h : StaticHead) (shard : ShardOf) (w : Walk) (place e : ℕ) (bytes more : List ℕ) (b : Body) → e ≡ length bytes → MayFollow h shard w place (bytes ++ more) e b → MayFollow h shard w place bytes e b
follows_front h shard w place e bytes more b is f =
    let s = stood h shard w (bytes ++ more) e b f.stands in
    let long : 48 ≤ length bytes = omega (arith, s.least) in
    record {
      head = sym (head_more bytes more place (omega arith)) ∙ f.head;
      body = body_front bytes more place b (omega arith) (omega (arith, extent_room b, s.is_least)) f.body;
      stands = sym (may_front h shard w bytes more e b (omega arith)) ∙ f.stands;
      linked = sym (link_more bytes more (omega arith)) ∙ f.linked;
    }

follows_more : (h : StaticHead) (shard : ShardOf) (w : Walk) (place e : ℕ) (bytes more : List ℕ) (b : Body) → e ≡ length bytes → MayFollow h shard w place bytes e b → MayFollow h shard w place (bytes ++ more) e b
follows_more h shard w place e bytes more b is f =
    let s = stood h shard w bytes e b f.stands in
    let long : 48 ≤ length bytes = omega (arith, s.least) in
    record {
      head = head_more bytes more place (omega arith) ∙ f.head;
      body = body_more bytes more place b (omega arith) f.body;
      stands = may_front h shard w bytes more e b (omega arith) ∙ f.stands;
      linked = link_more bytes more (omega arith) ∙ f.linked;
    }

-- a block that may follow does so whatever stands behind its extent
pub follows_any : (h : StaticHead) (shard : ShardOf) (w : Walk) (place e : ℕ) (bytes more : List ℕ) (b : Body) → MayFollow h shard w place bytes e b → MayFollow h shard w place (take e bytes ++ more) e b
follows_any h shard w place e bytes more b f =
    let s = stood h shard w bytes e b f.stands in
    let own : e ≡ length (take e bytes) = omega (arith, s.within, length-take e bytes) in
    follows_more h shard w place e (take e bytes) more b own
    (follows_front h shard w place e (take e bytes) (drop e bytes) b own (subst (λ (l : List ℕ). MayFollow h shard w place l e b) (sym (take-append-drop e bytes)) f))
