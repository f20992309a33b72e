-- A text of lines is read in one way, so the answer of a reader is the only one.
use Rattle.std.proofs.Common.{◌≡◌, ℕ, ◌<◌, ◌≤◌, ◌+◌, ◌-◌, Bool, false, cond, not, ltb, zero-add, List, [], ◌∷◌, ◌++◌, length, map, position, is_none, Option, Some, None, Result, Ok, Err, IfOk, IfErr, refl, sym, ap, ◌∙◌, inl, inr, append_assoc, length-append, arith}
use Rattle.std.specs.List.{position_or_len}
use Rattle.std.proofs.lemmas.List.{append-nil, length-map}
use Rattle.std.proofs.lemmas.Bool.{lt-ltb, le-ltb}
use Rattle.tk_model.specs.declared.record.Pair.{Pair}
use Rattle.tk_flat.specs.declared.error.TextError.{TextError}
use Rattle.tk_flat.specs.declared.error.TextError.TheVariants.{At, NoMemory}
use Rattle.tk_flat.specs.Errors.{Answers, Names}
use Rattle.tk_flat.specs.Tsv.{IsTsv, IsFirstBadLine, lines_of, pair_in}

-- the lines before the rest were read
pub record LinesSoFar (text rest : List ℕ) (pairs : List Pair) : Type 0 where
  pub done : List (List ℕ)
  pub split : lines_of text ≡ done ++ lines_of rest
  pub read : map pair_in done ≡ map Some pairs

pub lines_none : (text : List ℕ) → LinesSoFar text text []
lines_none text = record { done = []; split = refl; read = refl }

map-push : {A B : Type 0} (f : A → B) (xs : List A) (x : A) → map f (xs ++ x ∷ []) ≡ map f xs ++ f x ∷ []
map-push f [] x = refl
map-push f (y ∷ ys) x = ap (λ zs. f y ∷ zs) (map-push f ys x)

pub lines_more : (text rest line behind : List ℕ) (pairs next : List Pair) (pair : Pair) → LinesSoFar text rest pairs → lines_of rest ≡ line ∷ lines_of behind → Some pair ≡ pair_in line → next ≡ pairs ++ pair ∷ [] → LinesSoFar text behind next
lines_more text rest line behind pairs next pair so_far first is end =
    record {
      done = so_far.done ++ line ∷ [];
      split = so_far.split ∙ ap (λ (ls : List (List ℕ)). so_far.done ++ ls) first ∙ sym (append_assoc so_far.done (line ∷ []) (lines_of behind));
      read =
          map-push pair_in so_far.done line
          ∙ ap (λ (os : List (Option Pair)). os ++ pair_in line ∷ []) so_far.read
          ∙ ap (λ (o : Option Pair). map Some pairs ++ o ∷ []) (sym is)
          ∙ sym (map-push Some pairs pair)
          ∙ ap (λ (ps : List Pair). map Some ps) (sym end);
    }

pub lines_all : (text rest : List ℕ) (pairs : List Pair) → LinesSoFar text rest pairs → length rest ≡ 0 → IsTsv text pairs
lines_all text [] pairs so_far end = ap (λ (ls : List (List ℕ)). map pair_in ls) (so_far.split ∙ append-nil so_far.done) ∙ so_far.read
lines_all text (b ∷ bs) pairs so_far end = absurd (omega arith)

-- the line is no record
abbrev is_bad : List ℕ → Bool
is_bad line = is_none (pair_in line)

good : (line : List ℕ) (pair : Pair) → pair_in line ≡ Some pair → is_bad line ≡ false
good line pair is = ap (λ (o : Option Pair). is_none o) is

head_same : (a b : Option Pair) (xs ys : List (Option Pair)) → a ∷ xs ≡ b ∷ ys → a ≡ b
head_same a b xs ys e = cc

tail_same : (a b : Option Pair) (xs ys : List (Option Pair)) → a ∷ xs ≡ b ∷ ys → xs ≡ ys
tail_same a b xs ys e = cc

nothing_is_something : (a : Option Pair) (xs : List (Option Pair)) → [] ≡ a ∷ xs → ⊥
nothing_is_something a xs e = cc

some_is_none : (n : ℕ) → Some n ≡ None → ⊥
some_is_none n e = cc

inside_same : (a b : ℕ) → Some a ≡ Some b → a ≡ b
inside_same a b e = cc

pair_same : (p q : Pair) → Some p ≡ Some q → p ≡ q
pair_same p q e = cc

-- how many lines stand before the first bad one
behind_good : (done : List (List ℕ)) (pairs : List Pair) (more : List (List ℕ)) → map pair_in done ≡ map Some pairs → position_or_len is_bad (done ++ more) ≡ length pairs + position_or_len is_bad more
behind_good [] [] more read = sym (zero-add (position_or_len is_bad more))
behind_good [] (p ∷ ps) more read = absurd (nothing_is_something (Some p) (map Some ps) read)
behind_good (l ∷ ls) [] more read = absurd (nothing_is_something (pair_in l) (map pair_in ls) (sym read))
behind_good (l ∷ ls) (p ∷ ps) more read =
    ap (λ (t : Bool). cond (not t) (1 + position_or_len is_bad (ls ++ more)) 0) (good l p (head_same (pair_in l) (Some p) (map pair_in ls) (map Some ps) read))
    ∙ ap (λ (n : ℕ). 1 + n) (behind_good ls ps more (tail_same (pair_in l) (Some p) (map pair_in ls) (map Some ps) read))
    ∙ omega arith

position-at : (lines : List (List ℕ)) (n : ℕ) → position_or_len is_bad lines ≡ n → n < length lines → position is_bad lines ≡ Some n
position-at lines n is lt =
    ap (λ (k : ℕ). cond (ltb k (length lines)) (Some k) None) is ∙ ap (λ (t : Bool). cond t (Some n) None) (lt-ltb n (length lines) lt)

position-none : (lines : List (List ℕ)) → length lines ≤ position_or_len is_bad lines → position is_bad lines ≡ None
position-none lines le = ap (λ (t : Bool). cond t (Some (position_or_len is_bad lines)) None) (le-ltb (position_or_len is_bad lines) (length lines) le)

length_same : (lines : List (List ℕ)) (pairs : List Pair) → map pair_in lines ≡ map Some pairs → length lines ≡ length pairs
length_same lines pairs read = omega (arith, length-map lines pair_in, ap (λ (os : List (Option Pair)). length os) read, length-map pairs (λ (p : Pair). Some p))

bad_first : (line : List ℕ) (more : List (List ℕ)) → None ≡ pair_in line → position_or_len is_bad (line ∷ more) ≡ 0
bad_first line more bad = ap (λ (o : Option Pair). cond (not (is_none o)) (1 + position_or_len is_bad more) 0) (sym bad)

pub lines_until : (text rest line behind : List ℕ) (pairs : List Pair) (n : ℕ) → LinesSoFar text rest pairs → lines_of rest ≡ line ∷ lines_of behind → None ≡ pair_in line → n ≡ length pairs + 1 → IsFirstBadLine text n
lines_until text rest line behind pairs n so_far first bad is =
    let all : List (List ℕ) = so_far.done ++ line ∷ lines_of behind in
    let split : lines_of text ≡ all = so_far.split ∙ ap (λ (ls : List (List ℕ)). so_far.done ++ ls) first in
    let place : position_or_len is_bad all ≡ n - 1 = behind_good so_far.done pairs (line ∷ lines_of behind) so_far.read ∙ omega (arith, bad_first line (lines_of behind) bad) in
    let inside : n - 1 < length all = omega (arith, length_same so_far.done pairs so_far.read, length-append so_far.done (line ∷ lines_of behind)) in
    record {
      counted = omega arith;
      first = ap (λ (ls : List (List ℕ)). position is_bad ls) split ∙ position-at all (n - 1) place inside;
    }

somes_same : (ps qs : List Pair) → map Some ps ≡ map Some qs → ps ≡ qs
somes_same [] [] e = refl
somes_same [] (q ∷ qs) e = absurd (nothing_is_something (Some q) (map Some qs) e)
somes_same (p ∷ ps) [] e = absurd (nothing_is_something (Some p) (map Some ps) (sym e))
somes_same (p ∷ ps) (q ∷ qs) e =
    ap (λ (r : Pair). r ∷ ps) (pair_same p q (head_same (Some p) (Some q) (map Some ps) (map Some qs) e))
    ∙ ap (λ (rs : List Pair). q ∷ rs) (somes_same ps qs (tail_same (Some p) (Some q) (map Some ps) (map Some qs) e))

tsv_same : (text : List ℕ) (ps qs : List Pair) → IsTsv text ps → IsTsv text qs → ps ≡ qs
tsv_same text ps qs p q = somes_same ps qs (sym p ∙ q)

-- in a text of records no line is bad
tsv_sound : (text : List ℕ) (line : ℕ) (ps : List Pair) → IsTsv text ps → IsFirstBadLine text line → ⊥
tsv_sound text line ps p bad =
    let lines : List (List ℕ) = lines_of text in
    let place : position_or_len is_bad lines ≡ length ps = ap (λ (ls : List (List ℕ)). position_or_len is_bad ls) (sym (append-nil lines)) ∙ behind_good lines ps [] p ∙ omega arith in
    some_is_none (line - 1) (sym bad.first ∙ position-none lines (omega (arith, place, length_same lines ps p)))

line_same : (text : List ℕ) (a b : ℕ) → IsFirstBadLine text a → IsFirstBadLine text b → a ≡ b
line_same text a b x y = omega (arith, x.counted, y.counted, inside_same (a - 1) (b - 1) (sym x.first ∙ y.first))

pub tsv_accepted : (text : List ℕ) (result : Result (List Pair) TextError) → IfOk result (λ pairs. IsTsv text pairs) → IfErr result (Names (IsFirstBadLine text)) → (pairs : List Pair) → IsTsv text pairs → Answers (Ok pairs) result
tsv_accepted text (Ok got) read line pairs is = inl (ap (λ (ps : List Pair). Ok ps) (tsv_same text got pairs read is))
tsv_accepted text (Err (At at)) read line pairs is = absurd (tsv_sound text at pairs is line)
tsv_accepted text (Err NoMemory) read line pairs is = inr refl

pub tsv_refused : (text : List ℕ) (result : Result (List Pair) TextError) → IfOk result (λ pairs. IsTsv text pairs) → IfErr result (Names (IsFirstBadLine text)) → (line : ℕ) → IsFirstBadLine text line → Answers (Err (At line)) result
tsv_refused text (Ok got) read line at is = absurd (tsv_sound text at got read is)
tsv_refused text (Err (At found)) read line at is = inl (ap (λ (n : ℕ). Err (At n)) (line_same text found at line is))
tsv_refused text (Err NoMemory) read line at is = inr refl
