-- The rows of the program show the callers of the rule.
use Rattle.std.proofs.Common.{◌≡◌, ℕ, zero, suc, ◌<◌, ◌≤◌, Bool, true, false, List, [], ◌∷◌, map, length, set, get_or, take, refl, sym, ap, ◌∙◌, subst, arith, Decides, ◌||◌, ◌==◌, ◌++◌, eq-eqb, ne_eqb, ◌≢◌, cond, not, length-set}
use Rattle.std.specs.List.{list_any}
use mathlib.Core.Option.{some, some-injective, some-ne-none}
use lib.ListN.{get_elem?}
use lib.Seq.{map-set}
use Rattle.std.proofs.lemmas.List.{take_all}
use Rattle.tk_model.specs.declared.record.Entry.{Entry}
use Rattle.tk_core.specs.declared.machine.Row.{Row}
use Rattle.tk_core.specs.declared.moves.Move.{Move}
use Rattle.tk_core.specs.declared.moves.Move.TheVariants as moves
use Rattle.tk_core.specs.declared.frame.Frame.{Frame}
use Rattle.tk_core.specs.Moves.{looked, missed, kept_half, new_half, took_out}
use Rattle.tk_core.specs.Needs.{MayLook, MayMiss, MaySplit, MayTakeOut}
use Rattle.tk_core.specs.Caller.{Caller}
use Rattle.tk_core.specs.Program.{CoreState, AnyCaller, owner_of, IsCore, IsAnswer, caller_of, state_of}
use Rattle.tk_core.specs.States.{State, with_caller}
use Rattle.tk_core.specs.Steps.{Steps}
use Rattle.tk_core.specs.Lists.{has, AllBelow, put}
use Rattle.tk_core.proofs.Facts.{by_test}
use Rattle.tk_core.proofs.Runs.{step}

module _ {A B : Type 0} (f : A → B) where
  pub length_map : (xs : List A) → length (map f xs) ≡ length xs
  length_map [] = refl
  length_map (x ∷ xs) = ap suc (length_map xs)

  pub at_map : (xs : List A) (i : ℕ) (a : A) → i < length xs → a ≡ get_or xs i a → get_elem? (map f xs) i ≡ some (f a)
  at_map [] i a h e = absurd (omega arith)
  at_map (x ∷ xs) zero a h e = ap some (ap f (sym e))
  at_map (x ∷ xs) (suc i) a h e = at_map xs i a (omega arith) e

  pub off_map : (xs : List A) (i : ℕ) (b : B) → length xs ≤ i → get_elem? (map f xs) i ≡ some b → ⊥
  off_map [] i b h e = some-ne-none b (sym e)
  off_map (x ∷ xs) zero b h e = omega arith
  off_map (x ∷ xs) (suc i) b h e = off_map xs i b (omega arith) e

  pub in_map : (xs : List A) (i : ℕ) (b : B) → get_elem? (map f xs) i ≡ some b → i < length xs
  in_map [] i b e = absurd (some-ne-none b (sym e))
  in_map (x ∷ xs) zero b e = omega arith
  in_map (x ∷ xs) (suc i) b e = let h = in_map xs i b e in omega arith

  pub one_map : (xs : List A) (i : ℕ) (a : A) (b : B) → f a ≡ b → map f (set xs i a) ≡ set (map f xs) i b
  one_map xs i a b e = map-set f xs i a ∙ ap (set (map f xs) i) e

pub any_default : {A : Type 0} (xs : List A) (i : ℕ) (a b : A) → i < length xs → get_or xs i a ≡ get_or xs i b
any_default [] i a b h = absurd (omega arith)
any_default (x ∷ xs) zero a b h = refl
any_default (x ∷ xs) (suc i) a b h = any_default xs i a b (omega arith)

set_snoc : {A : Type 0} (xs : List A) (i : ℕ) (a b : A) → i < length xs → set (xs ++ a ∷ []) i b ≡ set xs i b ++ a ∷ []
set_snoc [] i a b h = absurd (omega arith)
set_snoc (x ∷ xs) zero a b h = refl
set_snoc (x ∷ xs) (suc i) a b h = ap (λ ys. x ∷ ys) (set_snoc xs i a b (omega arith))

map_snoc : {A B : Type 0} (f : A → B) (xs : List A) (a : A) → map f (xs ++ a ∷ []) ≡ map f xs ++ f a ∷ []
map_snoc f [] a = refl
map_snoc f (x ∷ xs) a = ap (λ ys. f x ∷ ys) (map_snoc f xs a)

-- a row is the same once another stands behind the last
pub same_row : {A : Type 0} (xs : List A) (i : ℕ) (a r q : A) → i < length xs → r ≡ get_or xs i r → q ≡ get_or (xs ++ a ∷ []) i q → q ≡ r
same_row [] i a r q h e f = absurd (omega arith)
same_row (x ∷ xs) zero a r q h e f = f ∙ sym e
same_row (x ∷ xs) (suc i) a r q h e f = same_row xs i a r q (omega arith) e f

abbrev IsNil : List ℕ → Type 0
IsNil xs = xs ≡ []

pub empty_list : (xs : List ℕ) (n : ℕ) → n ≡ length xs → Decides (n == 0) (xs ≡ [])
empty_list [] n l = by_test n 0 (λ b. Decides b (IsNil [])) (λ _. (λ _. refl, λ _. refl)) (λ ne. absurd (ne l))
empty_list (x ∷ xs) n l = by_test n 0 (λ b. Decides b (IsNil (x ∷ xs))) (λ z. absurd (omega (arith, l, z))) (λ _. (λ e. absurd (cc e), λ e. absurd (cc e)))

pub not_true : (b : Bool) → not b ≡ true → b ≡ false
not_true true e = absurd (cc e)
not_true false e = refl

pub set_hit : {A : Type 0} (xs : List A) (i : ℕ) (a d : A) → i < length xs → get_or (set xs i a) i d ≡ a
set_hit [] i a d h = absurd (omega arith)
set_hit (x ∷ xs) zero a d h = refl
set_hit (x ∷ xs) (suc i) a d h = set_hit xs i a d (omega arith)

pub set_miss : {A : Type 0} (xs : List A) (i z : ℕ) (a d : A) → z ≢ i → get_or (set xs i a) z d ≡ get_or xs z d
set_miss [] i z a d ne = refl
set_miss (x ∷ xs) zero zero a d ne = absurd (ne refl)
set_miss (x ∷ xs) zero (suc z) a d ne = refl
set_miss (x ∷ xs) (suc i) zero a d ne = refl
set_miss (x ∷ xs) (suc i) (suc z) a d ne = set_miss xs i z a d (λ e. ne (ap suc e))

pub put_set : {A : Type 0} (xs : List A) (i : ℕ) (a d : A) → i < length xs → (z : ℕ) → get_or (set xs i a) z d ≡ put (λ y. get_or xs y d) i a z
put_set xs i a d h z = by_test z i (λ b. get_or (set xs i a) z d ≡ cond b a (get_or xs z d)) (λ e. subst (λ y. get_or (set xs i a) y d ≡ a) (sym e) (set_hit xs i a d h)) (λ ne. set_miss xs i z a d ne)

pub set_again : {A : Type 0} (l : List A) (i : ℕ) (a : A) → get_elem? l i ≡ some a → set l i a ≡ l
set_again [] i a e = refl
set_again (x ∷ xs) zero a e = λ k. sym (some-injective x a e) k ∷ xs
set_again (x ∷ xs) (suc i) a e = λ k. x ∷ set_again xs i a e k

-- nothing changed, and no state follows
pub refuses : (x : Move) (c : CoreState) → ((t : State) → Steps c.frame x (state_of c) t → ⊥) → IsAnswer x c c false
refuses x c none = record { frame = refl; done = λ e. absurd (cc e); refused = λ e. (refl, none) }

pub does : (x : Move) (c d : CoreState) → d.frame ≡ c.frame → Steps c.frame x (state_of c) (state_of d) → IsAnswer x c d true
does x c d e steps = record { frame = e; done = λ t. steps; refused = λ t. absurd (cc t) }

-- a step keeps the invariant where it keeps the lengths
pub keeps : (x : Move) (c d : CoreState) → IsCore c → d.frame ≡ c.frame → length d.owners ≡ length c.owners → length d.spoilt ≡ length c.spoilt → length d.away ≡ length c.away → Steps c.frame x (state_of c) (state_of d) → IsCore d
keeps x c d is same o s a steps =
    subst IsCore (λ t. record { frame = sym same t; log = d.log; owners = d.owners; spoilt = d.spoilt; away = d.away; callers = d.callers })
    (record { sound = step c.frame (state_of c) (state_of d) is.sound x steps; owners = o ∙ is.owners; spoilt = s ∙ is.spoilt; away = a ∙ is.away })

abbrev pub AnyRow : List Entry → List Row → ℕ → (Caller → Type 0) → Type 0
AnyRow log rows i P = (v : Caller) × (get_elem? (map (caller_of log) rows) i ≡ some v) × P v

module _ (log : List Entry) (rows : List Row) (i : ℕ) where
  -- past the last row there is no caller
  pub nobody : (P : Caller → Type 0) → length rows ≤ i → AnyRow log rows i P → ⊥
  nobody P h a = off_map (caller_of log) rows i a.0 h a.1

  module _ (row : Row) (h : i < length rows) (is : row ≡ get_or rows i row) where
    pub there : get_elem? (map (caller_of log) rows) i ≡ some (caller_of log row)
    there = at_map (caller_of log) rows i row h is

    -- what is so of a caller is so of its row
    pub of_row : (P : Caller → Type 0) → AnyRow log rows i P → P (caller_of log row)
    of_row P a = subst P (some-injective a.0 (caller_of log row) (sym a.1 ∙ there)) a.2

    pub by_row : (P : Caller → Type 0) → P (caller_of log row) → AnyRow log rows i P
    by_row P p = (caller_of log row, there, p)

    pub decides : (P : Caller → Type 0) (b : Bool) → (b ≡ true → P (caller_of log row)) → (P (caller_of log row) → b ≡ true) → Decides b (AnyRow log rows i P)
    decides P b so only = (λ e. by_row P (so e), λ a. only (of_row P a))

-- what a step that is done leaves
pub record IsDone (x : Move) (c d : CoreState) : Type 0 where
  pub core : IsCore d
  pub answer : IsAnswer x c d true

pub done : (x : Move) (c d : CoreState) → IsCore c → d.frame ≡ c.frame → length d.owners ≡ length c.owners → length d.spoilt ≡ length c.spoilt → length d.away ≡ length c.away → Steps c.frame x (state_of c) (state_of d) → IsDone x c d
done x c d is same o s a steps = record { core = keeps x c d is same o s a steps; answer = does x c d same steps }

-- a row that may be changed is that of a caller of whom this is so
module _ (f : Frame) (log : List Entry) (owners : List ℕ) (spoilt away : List Bool) (rows : List Row) (i : ℕ) (row new : Row) (is : row ≡ get_or rows i row) where
  abbrev pub core : List ℕ → List Bool → List Bool → List Row → CoreState
  core os s a rs = record { frame = f; log = log; owners = os; spoilt = s; away = a; callers = map (caller_of log) rs }

  pub at_row : (P : Caller → Type 0) → AnyRow log rows i P → get_elem? (map (caller_of log) rows) i ≡ some (caller_of log row)
  at_row P a = there log rows i row (in_map (caller_of log) rows i a.0 a.1) is

  pub need : (P : Caller → Type 0) → AnyRow log rows i P → P (caller_of log row)
  need P a = of_row log rows i row (in_map (caller_of log) rows i a.0 a.1) is P a

  -- only the row changes
  one_state : (v : Caller) → caller_of log new ≡ v → state_of (core owners spoilt away (set rows i new)) ≡ with_caller i v (state_of (core owners spoilt away rows))
  one_state v e = λ t. record { law = λ m. true; first = []; log = log; owner = λ l. get_or owners l 0; spoilt = λ q. get_or spoilt q false; away = λ q. get_or away q false; stands = λ q gs n. true; callers = one_map (caller_of log) rows i new v e t }

  module _ (old : CoreState) (view : core owners spoilt away rows ≡ old) (ok : IsCore (core owners spoilt away rows)) where
    pub one_done : (x : Move) (d : CoreState) → IsDone x (core owners spoilt away rows) d → IsDone x old d
    one_done x d = subst (λ (s : CoreState). IsDone x s d) view

    pub from_view : (P : CoreState → Type 0) → P old → P (core owners spoilt away rows)
    from_view P = subst P (sym view)

    pub look_done : AnyCaller old i MayLook → caller_of log new ≡ looked log (caller_of log row) → IsDone (moves.Look i) old (core owners spoilt away (set rows i new))
    look_done b e = let a : AnyRow log rows i MayLook = from_view (λ s. AnyCaller s i MayLook) b in
        one_done (moves.Look i) (core owners spoilt away (set rows i new)) (done (moves.Look i) (core owners spoilt away rows) (core owners spoilt away (set rows i new)) ok refl refl refl refl
        (record { caller = caller_of log row; is_caller = at_row MayLook a; needs = need MayLook a; after = one_state (looked log (caller_of log row)) e }))

    pub miss_done : (l : ℕ) → AnyCaller old i (MayMiss old.frame (owner_of old) l) → caller_of log new ≡ missed l (caller_of log row) → IsDone (moves.Miss i l) old (core owners spoilt away (set rows i new))
    miss_done l b e = let a : AnyRow log rows i (MayMiss f (λ q. get_or owners q 0) l) = from_view (λ s. AnyCaller s i (MayMiss s.frame (owner_of s) l)) b in
        one_done (moves.Miss i l) (core owners spoilt away (set rows i new)) (done (moves.Miss i l) (core owners spoilt away rows) (core owners spoilt away (set rows i new)) ok refl refl refl refl
        (record { caller = caller_of log row; is_caller = at_row (MayMiss f (λ q. get_or owners q 0) l) a; needs = need (MayMiss f (λ q. get_or owners q 0) l) a; after = one_state (missed l (caller_of log row)) e }))

    pub split_done : (pushed : List Row) (added : Row) → pushed ≡ rows ++ added ∷ [] → AnyCaller old i (MaySplit (length old.callers)) → caller_of log new ≡ kept_half (caller_of log row) → caller_of log added ≡ new_half (caller_of log row)
        → IsDone (moves.Split i) old (core owners spoilt away (set pushed i new))
    split_done pushed added snoc b kept half =
        let v : Caller = caller_of log row in
        let P : Caller → Type 0 = MaySplit (length (map (caller_of log) rows)) in
        let a : AnyRow log rows i P = from_view (λ s. AnyCaller s i (MaySplit (length s.callers))) b in
        let h : i < length rows = in_map (caller_of log) rows i a.0 a.1 in
        let callers : map (caller_of log) (set pushed i new) ≡ set (map (caller_of log) rows) i (kept_half v) ++ new_half v ∷ [] =
        ap (λ (rs : List Row). map (caller_of log) (set rs i new)) snoc ∙ ap (map (caller_of log)) (set_snoc rows i added new h) ∙ map_snoc (caller_of log) (set rows i new) added
        ∙ (λ t. one_map (caller_of log) rows i new (kept_half v) kept t ++ half t ∷ []) in
        one_done (moves.Split i) (core owners spoilt away (set pushed i new)) (done (moves.Split i) (core owners spoilt away rows) (core owners spoilt away (set pushed i new)) ok refl refl refl refl
        (record {
          caller = v;
          is_caller = at_row P a;
          needs = need P a;
          after = λ t. record { law = λ m. true; first = []; log = log; owner = λ l. get_or owners l 0; spoilt = λ q. get_or spoilt q false; away = λ q. get_or away q false; stands = λ q gs n. true; callers = callers t };
        }))

    -- the row shows the same caller as before
    pub unchanged : AnyCaller old i (λ v. Unit {0}) → caller_of log new ≡ caller_of log row → core owners spoilt away (set rows i new) ≡ old
    unchanged b e = let P : Caller → Type 0 = λ v. Unit {0} in let a : AnyRow log rows i P = from_view (λ s. AnyCaller s i P) b in
        (λ t. core_of ((one_map (caller_of log) rows i new (caller_of log row) e ∙ set_again (map (caller_of log) rows) i (caller_of log row) (at_row P a)) t)) ∙ view
      where
        core_of : List Caller → CoreState
        core_of cs = record { frame = f; log = log; owners = owners; spoilt = spoilt; away = away; callers = cs }

    pub out_done : (q : ℕ) → AnyCaller old i (MayTakeOut old.frame q) → caller_of log new ≡ took_out q (caller_of log row) → IsDone (moves.Out i q) old (core owners spoilt (set away q true) (set rows i new))
    out_done q b e = let P : Caller → Type 0 = MayTakeOut f q in let a : AnyRow log rows i P = from_view (λ s. AnyCaller s i (MayTakeOut s.frame q)) b in
        let low : q < length away = let m = (need P a).store in let n = ok.away in omega arith in
        one_done (moves.Out i q) (core owners spoilt (set away q true) (set rows i new)) (done (moves.Out i q) (core owners spoilt away rows) (core owners spoilt (set away q true) (set rows i new)) ok refl refl refl (length-set away q true)
        (record {
          caller = caller_of log row;
          is_caller = at_row P a;
          needs = need P a;
          after = λ t. record { law = λ m. true; first = []; log = log; owner = λ l. get_or owners l 0; spoilt = λ z. get_or spoilt z false; away = λ z. put_set away q true false low z t; stands = λ z gs n. true; callers = one_map (caller_of log) rows i new (took_out q (caller_of log row)) e t };
        }))

above_tail : (l x : ℕ) (xs : List ℕ) → AllBelow l (x ∷ xs) → AllBelow l xs
above_tail l x xs h y e = h y (by_test y x (λ b. (b || has y xs) ≡ true) (λ _. refl) (λ _. e))

pub above_all : (l : ℕ) (xs : List ℕ) (n : ℕ) → AllBelow l (take n xs) → length xs ≤ n → AllBelow l xs
above_all l xs n h e = subst (AllBelow l) (take_all n xs e) h

pub above_next : (l n x : ℕ) (xs : List ℕ) → n < length xs → x ≡ get_or xs n 0 → AllBelow l (take n xs) → x < l → AllBelow l (take (suc n) xs)
above_next l n x [] h e a less = absurd (omega arith)
above_next l zero x (y ∷ ys) h e a less = λ z t. by_test z y (λ b. (b || false) ≡ true → z < l) (λ s _. let u = e in omega arith) (λ _ f. absurd (cc f)) t
above_next l (suc n) x (y ∷ ys) h e a less = λ z t.
    by_test z y (λ b. (b || has z (take (suc n) ys)) ≡ true → z < l) (λ s _. a z (subst (λ b. (b || has z (take n ys)) ≡ true) (sym (eq-eqb z y s)) refl))
    (λ _ f. above_next l n x ys (omega arith) e (above_tail l y (take n ys) a) less z f) t

pub has_at : (xs : List ℕ) (n x : ℕ) → n < length xs → x ≡ get_or xs n 0 → has x xs ≡ true
has_at [] n x h e = absurd (omega arith)
has_at (y ∷ ys) zero x h e = by_test x y (λ b. (b || has x ys) ≡ true) (λ _. refl) (λ ne. absurd (ne e))
has_at (y ∷ ys) (suc n) x h e = by_test x y (λ b. (b || has x ys) ≡ true) (λ _. refl) (λ _. has_at ys n x (omega arith) e)

pub any_has : (x : ℕ) (xs : List ℕ) → list_any (λ y. y == x) xs ≡ has x xs
any_has x [] = refl
any_has x (y ∷ ys) = by_test x y (λ b. ((y == x) || list_any (λ z. z == x) ys) ≡ (b || has x ys)) (λ e. ap (λ b. b || list_any (λ z. z == x) ys) (eq-eqb y x (sym e))) (λ ne. ap (λ b. b || list_any (λ z. z == x) ys) (ne_eqb y x (λ e. ne (sym e))) ∙ any_has x ys)
