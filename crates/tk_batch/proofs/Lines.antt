-- A text of lines, read line by line by any reader of one line, up to so many.
use Rattle.std.proofs.Common.{◌≡◌, ℕ, suc, ◌<◌, ◌≤◌, ◌+◌, ◌-◌, Bool, cond, ltb, List, [], ◌∷◌, ◌++◌, length, map, position, is_none, Option, Some, None, refl, sym, ap, ◌∙◌, append_assoc, length-append, arith, subst}
use Rattle.std.specs.List.{position_or_len}
use Rattle.std.proofs.lemmas.List.{append-nil, length-map}
use Rattle.std.proofs.lemmas.Bool.{lt-ltb}
use Rattle.tk_flat.specs.Tsv.{lines_of}
use Rattle.tk_batch.specs.Script.{read_up_to, IsFirstNone}
use Rattle.tk_batch.specs.Woven.{HaveWorkers}
use Rattle.tk_batch.specs.declared.line.Line.{Line}

-- the lines before the rest were read, and these are they
pub record ReadSoFar {A : Type 0} (read : List ℕ → Option A) (most : ℕ) (text rest : List ℕ) (items : List A) : Type 0 where
  pub few : length items ≤ most
  pub so_far : read_up_to read most (lines_of text) ≡ map Some items ++ read_up_to read (most - length items) (lines_of rest)

pub lines_none : {A : Type 0} (read : List ℕ → Option A) (most : ℕ) (text : List ℕ) → ReadSoFar read most text text []
lines_none read most text = record { few = omega arith; so_far = (let e : most ≡ most - 0 = omega arith in ap (λ (n : ℕ). read_up_to read n (lines_of text)) e) }

map-push : {A B : Type 0} (f : A → B) (xs : List A) (x : A) → map f (xs ++ x ∷ []) ≡ map f xs ++ f x ∷ []
map-push f [] x = refl
map-push f (y ∷ ys) x = ap (λ zs. f y ∷ zs) (map-push f ys x)

-- the next line is read
pub lines_more : {A : Type 0} (read : List ℕ → Option A) (most : ℕ) (text rest line behind : List ℕ) (items next : List A) (item : A) → ReadSoFar read most text rest items → length items < most
    → lines_of rest ≡ line ∷ lines_of behind → Some item ≡ read line → next ≡ items ++ item ∷ [] → ReadSoFar read most text behind next
lines_more {A} read most text rest line behind items next item s low first is end =
    let longer : length next ≡ length items + 1 = ap (λ (ys : List A). length ys) end ∙ length-append items (item ∷ []) in
    let left : most - length items ≡ suc (most - length next) = omega (arith, longer, low) in
    let others : List (Option A) = read_up_to read (most - length next) (lines_of behind) in
    record {
      few = omega (arith, longer, low);
      so_far =
          s.so_far
          ∙ ap (λ (n : ℕ). map Some items ++ read_up_to read n (lines_of rest)) left
          ∙ ap (λ (ls : List (List ℕ)). map Some items ++ read_up_to read (suc (most - length next)) ls) first
          ∙ ap (λ (o : Option A). map Some items ++ (o ∷ others)) (sym is)
          ∙ sym (append_assoc (map Some items) (Some item ∷ []) others)
          ∙ ap (λ (os : List (Option A)). os ++ others) (sym (map-push Some items item))
          ∙ ap (λ (ys : List A). map Some ys ++ others) (sym end);
    }

-- all lines were read
pub lines_all : {A : Type 0} (read : List ℕ → Option A) (most : ℕ) (text rest : List ℕ) (items : List A) → ReadSoFar read most text rest items → length rest ≡ 0 → read_up_to read most (lines_of text) ≡ map Some items
lines_all read most text [] items s end = s.so_far ∙ append-nil (map Some items)
lines_all read most text (b ∷ bs) items s end = absurd (omega arith)

-- the first none stands behind these

position-at : {A : Type 0} (xs : List (Option A)) (n : ℕ) → position_or_len is_none xs ≡ n → n < length xs → position is_none xs ≡ Some n
position-at xs n is lt =
    ap (λ (k : ℕ). cond (ltb k (length xs)) (Some k) None) is ∙ ap (λ (t : Bool). cond t (Some n) None) (lt-ltb n (length xs) lt)

behind_some : {A : Type 0} (items : List A) (more : List (Option A)) → position_or_len is_none (map Some items ++ None ∷ more) ≡ length items
behind_some [] more = refl
behind_some (x ∷ xs) more = ap (λ (n : ℕ). 1 + n) (behind_some xs more) ∙ omega arith

first_none : {A : Type 0} (items : List A) (more : List (Option A)) → position is_none (map Some items ++ None ∷ more) ≡ Some (length items)
first_none {A} items more =
    position-at (map Some items ++ None ∷ more) (length items) (behind_some items more) (omega (arith, length-append (map (λ (x : A). Some x) items) (None ∷ more), length-map items (λ (x : A). Some x)))

at_none : {A : Type 0} (os : List (Option A)) (items : List A) (more : List (Option A)) (line : ℕ) → os ≡ map Some items ++ None ∷ more → line ≡ length items + 1 → IsFirstNone os line
at_none {A} os items more line is at =
    let e : length items ≡ line - 1 = omega (arith, at) in
    record { counted = omega (arith, at); first = ap (λ (xs : List (Option A)). position is_none xs) is ∙ first_none items more ∙ ap (λ (n : ℕ). Some n) e }

-- the next line is none
pub lines_bad : {A : Type 0} (read : List ℕ → Option A) (most : ℕ) (text rest line behind : List ℕ) (items : List A) (at : ℕ) → ReadSoFar read most text rest items → length items < most
    → lines_of rest ≡ line ∷ lines_of behind → None ≡ read line → at ≡ length items + 1 → IsFirstNone (read_up_to read most (lines_of text)) at
lines_bad {A} read most text rest line behind items at s low first bad is =
    let left : most - length items ≡ suc (most - length items - 1) = omega (arith, low) in
    let others : List (Option A) = read_up_to read (most - length items - 1) (lines_of behind) in
    at_none (read_up_to read most (lines_of text)) items others at
    (s.so_far
    ∙ ap (λ (n : ℕ). map Some items ++ read_up_to read n (lines_of rest)) left
    ∙ ap (λ (ls : List (List ℕ)). map Some items ++ read_up_to read (suc (most - length items - 1)) ls) first
    ∙ ap (λ (o : Option A). map Some items ++ (o ∷ others)) (sym bad))
    is

-- the next line is past the limit
pub lines_past : {A : Type 0} (read : List ℕ → Option A) (most : ℕ) (text rest line behind : List ℕ) (items : List A) (at : ℕ) → ReadSoFar read most text rest items → most ≤ length items
    → lines_of rest ≡ line ∷ lines_of behind → at ≡ length items + 1 → IsFirstNone (read_up_to read most (lines_of text)) at
lines_past read most text rest line behind items at s high first is =
    let left : most - length items ≡ 0 = omega (arith, high) in
    at_none (read_up_to read most (lines_of text)) items (read_up_to read 0 (lines_of behind)) at
    (s.so_far
    ∙ ap (λ (n : ℕ). map Some items ++ read_up_to read n (lines_of rest)) left
    ∙ ap (λ (ls : List (List ℕ)). map Some items ++ read_up_to read 0 ls) first)
    is

-- each line has a worker, and so has the next
pub workers_more : (n : ℕ) (lines next : List Line) (l : Line) → HaveWorkers n lines → l.worker < n → next ≡ lines ++ l ∷ [] → HaveWorkers n next
workers_more n lines next l h low end = subst (HaveWorkers n) (sym end) (behind lines h)
  where
    behind : (ls : List Line) → HaveWorkers n ls → HaveWorkers n (ls ++ l ∷ [])
    behind [] h = (low, tt)
    behind (x ∷ xs) h = (h.0, behind xs h.1)
