-- The output, printed line by line.
use Rattle.std.proofs.Common.{◌≡◌, ℕ, zero, suc, ◌+◌, ◌<◌, ◌≤◌, List, [], ◌∷◌, ◌++◌, length, set, get_or, drop, replicate, refl, sym, ap, ◌∙◌, append_assoc, arith, subst, drop-cons, length-set}
use Rattle.std.proofs.lemmas.List.{append-nil}
use Rattle.tk_status.specs.declared.Status.TheVariants as statuses
use Rattle.tk_batch.specs.declared.line.Line.{Line}
use Rattle.tk_batch.specs.declared.line.Out.{Out}
use Rattle.tk_batch.specs.Woven.{HaveWorkers, first_out, refused, rest_of, woven_outs}
use Rattle.tk_batch.specs.Output.{out_text, outs_text}

-- what is left of each list behind so many items
abbrev pub left : {A : Type 0} → List (List A) → List ℕ → List (List A)
left [] ns = []
left (x ∷ xs) [] = x ∷ xs
left (x ∷ xs) (n ∷ ns) = drop n x ∷ left xs ns

left_length : {A : Type 0} (xs : List (List A)) (ns : List ℕ) → length (left xs ns) ≡ length xs
left_length [] ns = refl
left_length (x ∷ xs) [] = refl
left_length (x ∷ xs) (n ∷ ns) = ap suc (left_length xs ns)

left_all : {A : Type 0} (xs : List (List A)) (k : ℕ) → left xs (replicate k 0) ≡ xs
left_all [] k = refl
left_all (x ∷ xs) zero = refl
left_all (x ∷ xs) (suc k) = ap (λ t. x ∷ t) (left_all xs k)

left_at : {A : Type 0} (xs : List (List A)) (ns : List ℕ) (w : ℕ) → length ns ≡ length xs → get_or (left xs ns) w [] ≡ drop (get_or ns w 0) (get_or xs w [])
left_at [] [] w e = refl
left_at [] (n ∷ ns) w e = absurd (omega arith)
left_at (x ∷ xs) [] w e = absurd (omega arith)
left_at (x ∷ xs) (n ∷ ns) zero e = refl
left_at (x ∷ xs) (n ∷ ns) (suc w) e = left_at xs ns w (omega arith)

left_set : {A : Type 0} (xs : List (List A)) (ns : List ℕ) (w k : ℕ) → length ns ≡ length xs → set (left xs ns) w (drop k (get_or xs w [])) ≡ left xs (set ns w k)
left_set [] [] w k e = refl
left_set [] (n ∷ ns) w k e = absurd (omega arith)
left_set (x ∷ xs) [] w k e = absurd (omega arith)
left_set (x ∷ xs) (n ∷ ns) zero k e = refl
left_set (x ∷ xs) (n ∷ ns) (suc w) k e = ap (λ t. drop n x ∷ t) (left_set xs ns w k (omega arith))

-- the lines before the place i were printed, and so many answers of each worker
pub record Printed (script : List Line) (answers : List (List Out)) (old out : List ℕ) (i : ℕ) (next : List ℕ) : Type 0 where
  pub many : length next ≡ length answers
  pub workers : HaveWorkers (length answers) (drop i script)
  pub text : old ++ outs_text 1 script (woven_outs script answers) ≡ out ++ outs_text (suc i) (drop i script) (woven_outs (drop i script) (left answers next))

pub printed_none : (script : List Line) (answers : List (List Out)) (old : List ℕ) (next : List ℕ) → HaveWorkers (length answers) script → next ≡ replicate (length answers) 0 → length next ≡ length answers → Printed script answers old old 0 next
printed_none script answers old next h e n = record {
  many = n;
  workers = h;
  text = ap (λ t. old ++ outs_text 1 script (woven_outs script t)) (sym (ap (left answers) e ∙ left_all answers (length answers)));
}

pub printed_all : (script : List Line) (answers : List (List Out)) (old out : List ℕ) (i : ℕ) (next : List ℕ) → Printed script answers old out i next → drop i script ≡ [] → out ≡ old ++ outs_text 1 script (woven_outs script answers)
printed_all script answers old out i next p e =
    sym (p.text ∙ (ap (λ (t : List Line). out ++ outs_text (suc i) t (woven_outs t (left answers next))) e ∙ append-nil out))

-- the next line, with what its worker has left
step : (script : List Line) (answers : List (List Out)) (old out : List ℕ) (i : ℕ) (next later : List ℕ) (l : Line) (o : Out) → Printed script answers old out i next → drop i script ≡ l ∷ drop (suc i) script
    → first_out (get_or (left answers next) l.worker []) ≡ o → set (left answers next) l.worker (rest_of (get_or (left answers next) l.worker [])) ≡ left answers later → length later ≡ length answers
    → Printed script answers old (out ++ out_text l.worker (suc i) o) (suc i) later
step script answers old out i next later l o p parts first rest many = record {
  many = many;
  workers = (subst (HaveWorkers (length answers)) parts p.workers).1;
  text = p.text ∙ (ap (λ (t : List Line). out ++ outs_text (suc i) t (woven_outs t (left answers next))) parts
      ∙ (ap (λ (t : Out). out ++ (out_text l.worker (suc i) t ++ outs_text (suc (suc i)) (drop (suc i) script) (woven_outs (drop (suc i) script) (set (left answers next) l.worker (rest_of (get_or (left answers next) l.worker [])))))) first
      ∙ (ap (λ (t : List (List Out)). out ++ (out_text l.worker (suc i) o ++ outs_text (suc (suc i)) (drop (suc i) script) (woven_outs (drop (suc i) script) t))) rest
      ∙ sym (append_assoc out (out_text l.worker (suc i) o) (outs_text (suc (suc i)) (drop (suc i) script) (woven_outs (drop (suc i) script) (left answers later)))))));
}

rest_here : (xs : List Out) (k : ℕ) (d : Out) → k < length xs → (first_out (drop k xs) ≡ get_or xs k d) × (rest_of (drop k xs) ≡ drop (suc k) xs)
rest_here xs k d h = (ap first_out (drop-cons xs k d h), ap (λ (t : List Out). rest_of t) (drop-cons xs k d h))

drop_none : (k : ℕ) → drop {A = Out} k [] ≡ []
drop_none zero = refl
drop_none (suc k) = refl

rest_past : (xs : List Out) (k : ℕ) → length xs ≤ k → drop k xs ≡ []
rest_past [] k h = drop_none k
rest_past (x ∷ xs) zero h = absurd (omega arith)
rest_past (x ∷ xs) (suc k) h = rest_past xs k (omega arith)

same_set : (ns : List ℕ) (w : ℕ) → set ns w (get_or ns w 0) ≡ ns
same_set [] w = refl
same_set (n ∷ ns) zero = refl
same_set (n ∷ ns) (suc w) = ap (λ t. n ∷ t) (same_set ns w)

-- the worker has an answer more
pub printed_more : (script : List Line) (answers : List (List Out)) (old out end : List ℕ) (i k : ℕ) (next later : List ℕ) (l : Line) (o : Out) → Printed script answers old out i next
    → i < length script → l ≡ get_or script i l → k ≡ get_or next l.worker 0 → k < length (get_or answers l.worker []) → o ≡ get_or (get_or answers l.worker []) k o → later ≡ set next l.worker (k + 1) → end ≡ out ++ out_text l.worker (i + 1) o
    → Printed script answers old end (i + 1) later
printed_more script answers old out end i k next later l o p low at place here is after e =
    let parts : drop i script ≡ l ∷ drop (suc i) script = drop-cons script i l low ∙ ap (λ t. t ∷ drop (suc i) script) (sym at) in
    let mine : get_or (left answers next) l.worker [] ≡ drop k (get_or answers l.worker []) = left_at answers next l.worker p.many ∙ ap (λ (n : ℕ). drop n (get_or answers l.worker [])) (sym place) in
    let r = rest_here (get_or answers l.worker []) k o here in
    let one : i + 1 ≡ suc i = omega arith in
    let next_one : k + 1 ≡ suc k = omega arith in
    let moved : set (left answers next) l.worker (rest_of (get_or (left answers next) l.worker [])) ≡ left answers later =
    ap (λ (t : List Out). set (left answers next) l.worker (rest_of t)) mine ∙ (ap (set (left answers next) l.worker) r.1
    ∙ (left_set answers next l.worker (suc k) p.many ∙ ap (left answers) (ap (set next l.worker) (sym next_one) ∙ sym after))) in
    subst (λ (j : ℕ). Printed script answers old end j later) (sym one)
    (subst (λ (t : List ℕ). Printed script answers old t (suc i) later) (ap (λ (j : ℕ). out ++ out_text l.worker j o) (sym one) ∙ sym e)
    (step script answers old out i next later l o p parts (ap first_out mine ∙ (r.0 ∙ sym is)) moved (ap (λ (t : List ℕ). length t) after ∙ (length-set next l.worker (k + 1) ∙ p.many))))

-- the worker has none
pub printed_want : (script : List Line) (answers : List (List Out)) (old out end : List ℕ) (i k : ℕ) (next : List ℕ) (l : Line) → Printed script answers old out i next
    → i < length script → l ≡ get_or script i l → k ≡ get_or next l.worker 0 → length (get_or answers l.worker []) ≤ k → end ≡ out ++ out_text l.worker (i + 1) (refused statuses.NoMemory)
    → Printed script answers old end (i + 1) next
printed_want script answers old out end i k next l p low at place gone e =
    let parts : drop i script ≡ l ∷ drop (suc i) script = drop-cons script i l low ∙ ap (λ t. t ∷ drop (suc i) script) (sym at) in
    let mine : get_or (left answers next) l.worker [] ≡ drop k (get_or answers l.worker []) = left_at answers next l.worker p.many ∙ ap (λ (n : ℕ). drop n (get_or answers l.worker [])) (sym place) in
    let none : get_or (left answers next) l.worker [] ≡ [] = mine ∙ rest_past (get_or answers l.worker []) k gone in
    let one : i + 1 ≡ suc i = omega arith in
    let moved : set (left answers next) l.worker (rest_of (get_or (left answers next) l.worker [])) ≡ left answers next =
    ap (λ (t : List Out). set (left answers next) l.worker (rest_of t)) none
    ∙ (ap (set (left answers next) l.worker) (sym (rest_past (get_or answers l.worker []) k gone))
    ∙ (left_set answers next l.worker k p.many ∙ ap (left answers) (ap (set next l.worker) place ∙ same_set next l.worker))) in
    subst (λ (j : ℕ). Printed script answers old end j next) (sym one)
    (subst (λ (t : List ℕ). Printed script answers old t (suc i) next) (ap (λ (j : ℕ). out ++ out_text l.worker j (refused statuses.NoMemory)) (sym one) ∙ sym e)
    (step script answers old out i next next l (refused statuses.NoMemory) p parts (ap first_out none) moved p.many))

pub same_read : {A : Type 0} (xs : List A) (i : ℕ) (x d : A) → i < length xs → x ≡ get_or xs i x → get_or xs i d ≡ x
same_read [] i x d h e = absurd (omega arith)
same_read (y ∷ ys) zero x d h e = sym e
same_read (y ∷ ys) (suc i) x d h e = same_read ys i x d (omega arith) e

pub worker_there : (script : List Line) (answers : List (List Out)) (old out : List ℕ) (i : ℕ) (next : List ℕ) (l : Line) → Printed script answers old out i next → i < length script → l ≡ get_or script i l → l.worker < length answers
worker_there script answers old out i next l p low at =
    (subst (HaveWorkers (length answers)) (drop-cons script i l low ∙ ap (λ t. t ∷ drop (suc i) script) (sym at)) p.workers).0

pub answer_more : (script : List Line) (answers : List (List Out)) (old out end : List ℕ) (i k : ℕ) (next later : List ℕ) (l : Line) (o : Out) (x given : List Out) → Printed script answers old out i next
    → i < length script → l ≡ get_or script i l → k ≡ get_or next l.worker 0 → x ≡ get_or answers l.worker x → given ≡ x → k < length given → o ≡ get_or given k o → later ≡ set next l.worker (k + 1) → end ≡ out ++ out_text l.worker (i + 1) o
    → Printed script answers old end (i + 1) later
answer_more script answers old out end i k next later l o x given p low at place there is here read after e =
    let same : given ≡ get_or answers l.worker [] = is ∙ sym (same_read answers l.worker x [] (worker_there script answers old out i next l p low at) there) in
    printed_more script answers old out end i k next later l o p low at place (subst (λ t. k < length t) same here) (read ∙ ap (λ t. get_or t k o) same) after e

pub answer_none : (script : List Line) (answers : List (List Out)) (old out end : List ℕ) (i k : ℕ) (next : List ℕ) (l : Line) (x given : List Out) → Printed script answers old out i next
    → i < length script → l ≡ get_or script i l → k ≡ get_or next l.worker 0 → x ≡ get_or answers l.worker x → given ≡ x → length given ≤ k → end ≡ out ++ out_text l.worker (i + 1) (refused statuses.NoMemory)
    → Printed script answers old end (i + 1) next
answer_none script answers old out end i k next l x given p low at place there is gone e =
    let same : given ≡ get_or answers l.worker [] = is ∙ sym (same_read answers l.worker x [] (worker_there script answers old out i next l p low at) there) in
    printed_want script answers old out end i k next l p low at place (subst (λ t. length t ≤ k) same gone) e
