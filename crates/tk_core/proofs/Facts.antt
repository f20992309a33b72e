-- Facts on lists and on functions that differ at one place.
use Rattle.std.proofs.Common.{◌≡◌, ◌≢◌, ◌==◌, ◌||◌, ◌&&◌, ◌⊎◌, inl, inr, ℕ, zero, suc, ◌+◌, ◌<◌, ◌≤◌, Bool, true, false, cond, ltb, List, [], ◌∷◌, ◌++◌, length, set, refl, sym, ap, ◌∙◌, subst, ⊎_elim, arith, append_assoc, eq-eqb, ne_eqb}
use mathlib.Core.List.{IsPrefix}
use mathlib.Core.Logic.{dite}
use native.Mathlib.Decide.{ℕ_discrete}
use mathlib.Core.Option.{some, some-injective, some-ne-none}
use lib.ListN.{get_elem?}
use Rattle.std.proofs.lemmas.Bool.Decides.{nat_tests}
use Rattle.tk_core.specs.Lists.{has, without, count, total, times, InPlace, once_below, put}

module _ {A : Type 0} where
  pub at_set : (l : List A) (i j : ℕ) (a b : A) → get_elem? (set l i a) j ≡ some b → ((j ≡ i) × (a ≡ b)) ⊎ ((j ≢ i) × (get_elem? l j ≡ some b))
  at_set [] i j a b e = absurd (some-ne-none b (sym e))
  at_set (x ∷ xs) zero zero a b e = inl (refl, some-injective a b e)
  at_set (x ∷ xs) zero (suc j) a b e = inr ((λ h. omega arith), e)
  at_set (x ∷ xs) (suc i) zero a b e = inr ((λ h. omega arith), e)
  at_set (x ∷ xs) (suc i) (suc j) a b e = ⊎_elim (λ t. inl (ap suc t.0, t.1)) (λ t. let n = t.0 in inr ((λ h. n (omega arith)), t.1)) (at_set xs i j a b e)

  pub set_here : (l : List A) (i : ℕ) (a : A) → i < length l → get_elem? (set l i a) i ≡ some a
  set_here [] i a h = absurd (omega arith)
  set_here (x ∷ xs) zero a h = refl
  set_here (x ∷ xs) (suc i) a h = set_here xs i a (omega arith)

  pub set_else : (l : List A) (i j : ℕ) (a : A) → j ≢ i → get_elem? (set l i a) j ≡ get_elem? l j
  set_else [] i j a n = refl
  set_else (x ∷ xs) zero zero a n = absurd (n refl)
  set_else (x ∷ xs) zero (suc j) a n = refl
  set_else (x ∷ xs) (suc i) zero a n = refl
  set_else (x ∷ xs) (suc i) (suc j) a n = set_else xs i j a (λ e. n (ap suc e))

  pub at_longer : (l m : List A) (i : ℕ) (a : A) → get_elem? l i ≡ some a → get_elem? (l ++ m) i ≡ some a
  at_longer [] m i a e = absurd (some-ne-none a (sym e))
  at_longer (x ∷ xs) m zero a e = e
  at_longer (x ∷ xs) m (suc i) a e = at_longer xs m i a e

  pub at_last : (l : List A) (a : A) (n : ℕ) → length l ≡ n → get_elem? (l ++ a ∷ []) n ≡ some a
  at_last [] a zero e = refl
  at_last [] a (suc n) e = absurd (omega arith)
  at_last (x ∷ xs) a zero e = absurd (omega arith)
  at_last (x ∷ xs) a (suc n) e = at_last xs a n (omega arith)

  pub at_snoc : (l : List A) (a b : A) (j : ℕ) → get_elem? (l ++ a ∷ []) j ≡ some b → (get_elem? l j ≡ some b) ⊎ (a ≡ b)
  at_snoc [] a b zero e = inr (some-injective a b e)
  at_snoc [] a b (suc j) e = absurd (some-ne-none b (sym e))
  at_snoc (x ∷ xs) a b zero e = inl e
  at_snoc (x ∷ xs) a b (suc j) e = at_snoc xs a b j e

  pub inside : (l : List A) (i : ℕ) (a : A) → get_elem? l i ≡ some a → i < length l
  inside [] i a e = absurd (some-ne-none a (sym e))
  inside (x ∷ xs) zero a e = omega arith
  inside (x ∷ xs) (suc i) a e = let h = inside xs i a e in omega arith

  pub put_case : (f : ℕ → A) (i : ℕ) (a : A) (x : ℕ) (F : A → Type 0) → (x ≡ i → F a) → (x ≢ i → F (f x)) → F (put f i a x)
  put_case f i a x F hit miss = dite (ℕ_discrete x i) (λ e. subst (λ b. F (cond b a (f x))) (sym (eq-eqb x i e)) (hit e)) (λ ne. subst (λ b. F (cond b a (f x))) (sym (ne_eqb x i ne)) (miss ne))

pub by_test : (x y : ℕ) (F : Bool → Type 0) → (x ≡ y → F true) → (x ≢ y → F false) → F (x == y)
by_test x y F hit miss = dite (ℕ_discrete x y) (λ e. subst F (sym (eq-eqb x y e)) (hit e)) (λ ne. subst F (sym (ne_eqb x y ne)) (miss ne))

pub has_cons : (x l : ℕ) (xs : List ℕ) → has x (l ∷ xs) ≡ true → (x ≡ l) ⊎ ((x ≢ l) × (has x xs ≡ true))
has_cons x l xs h0 = by_test x l (λ b. (b || has x xs) ≡ true → (x ≡ l) ⊎ ((x ≢ l) × (has x xs ≡ true))) (λ e _. inl e) (λ ne h. inr (ne, h)) h0

pub has_head : (l : ℕ) (xs : List ℕ) → has l (l ∷ xs) ≡ true
has_head l xs = by_test l l (λ b. (b || has l xs) ≡ true) (λ _. refl) (λ ne. absurd (ne refl))

pub has_tail : (x l : ℕ) (xs : List ℕ) → has x xs ≡ true → has x (l ∷ xs) ≡ true
has_tail x l xs h = by_test x l (λ b. (b || has x xs) ≡ true) (λ _. refl) (λ _. h)

pub has_without : (x l : ℕ) (xs : List ℕ) → has x (without l xs) ≡ true → (x ≢ l) × (has x xs ≡ true)
has_without x l [] h = absurd cc
has_without x l (y ∷ ys) h0 = by_test l y (λ b. has x (cond b (without l ys) (y ∷ without l ys)) ≡ true → (x ≢ l) × (has x (y ∷ ys) ≡ true))
    (λ e h. let t = has_without x l ys h in (t.0, has_tail x y ys t.1))
    (λ ne h. ⊎_elim (λ (e : x ≡ y). ((λ (z : x ≡ l). ne (sym z ∙ e)), subst (λ (z : ℕ). has x (z ∷ ys) ≡ true) e (has_head x ys)))
    (λ (t : (x ≢ y) × (has x (without l ys) ≡ true)). let u = has_without x l ys t.1 in (u.0, has_tail x y ys u.1)) (has_cons x y (without l ys) h)) h0

pub has_other : (x l : ℕ) (xs : List ℕ) → x ≢ l → has x xs ≡ true → has x (without l xs) ≡ true
has_other x l [] ne h = absurd cc
has_other x l (y ∷ ys) ne h = by_test l y (λ b. has x (cond b (without l ys) (y ∷ without l ys)) ≡ true)
    (λ e. ⊎_elim (λ (z : x ≡ y). absurd (ne (z ∙ sym e))) (λ (t : (x ≢ y) × (has x ys ≡ true)). has_other x l ys ne t.1) (has_cons x y ys h))
    (λ _. ⊎_elim (λ (z : x ≡ y). subst (λ (q : ℕ). has x (q ∷ without l ys) ≡ true) z (has_head x (without l ys)))
    (λ (t : (x ≢ y) × (has x ys ≡ true)). has_tail x y (without l ys) (has_other x l ys ne t.1)) (has_cons x y ys h))

module _ {A : Type 0} where
  pub total_set : (f : A → ℕ) (l : List A) (i : ℕ) (a b : A) → get_elem? l i ≡ some a → total f (set l i b) + f a ≡ total f l + f b
  total_set f [] i a b e = absurd (some-ne-none a (sym e))
  total_set f (x ∷ xs) zero a b e = let h : f x ≡ f a = ap f (some-injective x a e) in omega arith
  total_set f (x ∷ xs) (suc i) a b e = let h = total_set f xs i a b e in omega arith

  pub total_at : (f : A → ℕ) (l : List A) (i : ℕ) (a : A) → get_elem? l i ≡ some a → f a ≤ total f l
  total_at f [] i a e = absurd (some-ne-none a (sym e))
  total_at f (x ∷ xs) zero a e = let h : f x ≡ f a = ap f (some-injective x a e) in omega arith
  total_at f (x ∷ xs) (suc i) a e = let h = total_at f xs i a e in omega arith

  pub total_snoc : (f : A → ℕ) (l : List A) (a : A) → total f (l ++ a ∷ []) ≡ total f l + f a
  total_snoc f [] a = omega arith
  total_snoc f (x ∷ xs) a = let h = total_snoc f xs a in omega arith

  pub times_append : (k : ℕ) (xs ys : List (ℕ × A)) → times k (xs ++ ys) ≡ times k xs + times k ys
  times_append k [] ys = omega arith
  times_append k (p ∷ ps) ys = let h = times_append k ps ys in omega arith

  pub placed_longer : (xs ys : List A) (ps : List (ℕ × A)) → InPlace xs ps → InPlace (xs ++ ys) ps
  placed_longer xs ys [] h = tt
  placed_longer xs ys (p ∷ ps) h = (at_longer xs ys p.0 p.1 h.0, placed_longer xs ys ps h.1)

  pub placed_append : (xs : List A) (ps qs : List (ℕ × A)) → InPlace xs ps → InPlace xs qs → InPlace xs (ps ++ qs)
  placed_append xs [] qs h i = i
  placed_append xs (p ∷ ps) qs h i = (h.0, placed_append xs ps qs h.1 i)

  pub prefix_self : (xs : List A) → IsPrefix xs xs
  prefix_self [] = ([], refl)
  prefix_self (x ∷ xs) = (let r = prefix_self xs in r.0, ap (λ ys. x ∷ ys) (prefix_self xs).1)

  pub prefix_longer : (xs ys zs : List A) → IsPrefix xs ys → IsPrefix xs (ys ++ zs)
  prefix_longer xs ys zs p = (p.0 ++ zs, sym (append_assoc xs p.0 zs) ∙ ap (λ w. w ++ zs) p.1)

  pub prefix_shorter : (xs ys zs : List A) → IsPrefix xs zs → IsPrefix ys zs → length xs ≤ length ys → IsPrefix xs ys
  prefix_shorter [] ys zs p q le = (ys, refl)
  prefix_shorter (x ∷ xs) [] zs p q le = absurd (omega arith)
  prefix_shorter (x ∷ xs) (y ∷ ys) [] p q le = absurd (cc (p.1))
  prefix_shorter (x ∷ xs) (y ∷ ys) (z ∷ zs) p q le =
      let heads : x ≡ y = cc (p.1, q.1) in
      let rest = prefix_shorter xs ys zs (p.0, cc (p.1)) (q.0, cc (q.1)) (omega arith) in
      (rest.0, cc (heads, rest.1))

  -- in each seat's place its fact, where the seat me has changed
  pub seats_stay : (K : ℕ → A → Type 0) (vs : List A) (me : ℕ) (w : A) → K me w → ((j : ℕ) (d : A) → j ≢ me → get_elem? vs j ≡ some d → K j d)
      → (j : ℕ) (d : A) → get_elem? (set vs me w) j ≡ some d → K j d
  seats_stay K vs me w own others j d e = ⊎_elim (λ (t : (j ≡ me) × (w ≡ d)). subst (λ (z : ℕ × A). K z.0 z.1) (λ i. (sym t.0 i, t.1 i)) own)
      (λ (t : (j ≢ me) × (get_elem? vs j ≡ some d)). others j d t.0 t.1) (at_set vs me j w d e)

pub once_more : (k n : ℕ) → once_below k (n + 1) ≡ cond (k == n) 1 0 + once_below k n
once_more k n = dite (ℕ_discrete k n)
    (λ e. ap₂ k n (ltb k (n + 1)) (k == n) (ltb k n) (grind (arith, nat_tests)) (eq-eqb k n e) (grind (arith, nat_tests)))
    (λ ne. other (ltb k (n + 1)) (k == n) (ltb k n) (ne_eqb k n ne) (grind (arith, nat_tests)))
  where
    ap₂ : (k n : ℕ) (a b c : Bool) → a ≡ true → b ≡ true → c ≡ false → cond a 1 0 ≡ cond b 1 0 + cond c 1 0
    ap₂ k n a b c x y z = rw (x, y, z) refl

    other : (a b c : Bool) → b ≡ false → a ≡ c → cond a 1 0 ≡ cond b 1 0 + cond c 1 0
    other a b true y z = rw (y, z) refl
    other a b false y z = rw (y, z) refl

pub by_bool : {B : Type 0} (b : Bool) → (b ≡ true → B) → (b ≡ false → B) → B
by_bool true f g = f refl
by_bool false f g = g refl

-- two seats together
pub total_two : {A : Type 0} (f : A → ℕ) (l : List A) (i j : ℕ) (a b : A) → i ≢ j → get_elem? l i ≡ some a → get_elem? l j ≡ some b → f a + f b ≤ total f l
total_two f [] i j a b ne p q = absurd (some-ne-none a (sym p))
total_two f (x ∷ xs) zero zero a b ne p q = absurd (ne refl)
total_two f (x ∷ xs) zero (suc j) a b ne p q = let h : f x ≡ f a = ap f (some-injective x a p) in let t = total_at f xs j b q in omega arith
total_two f (x ∷ xs) (suc i) zero a b ne p q = let h : f x ≡ f b = ap f (some-injective x b q) in let t = total_at f xs i a p in omega arith
total_two f (x ∷ xs) (suc i) (suc j) a b ne p q = let t = total_two f xs i j a b (λ e. ne (ap suc e)) p q in omega arith

pub total_sum : {A : Type 0} (f g : A → ℕ) (l : List A) → total (λ x. f x + g x) l ≡ total f l + total g l
total_sum f g [] = refl
total_sum f g (x ∷ xs) = let h = total_sum f g xs in omega arith

total_nought : {A : Type 0} (f : A → ℕ) (l : List A) → ((j : ℕ) (b : A) → get_elem? l j ≡ some b → f b ≡ 0) → total f l ≡ 0
total_nought f [] z = refl
total_nought f (x ∷ xs) z = let h = z 0 x refl in let t = total_nought f xs (λ j b q. z (suc j) b q) in omega arith

-- where all others have nothing, the total is this one's
pub total_alone : {A : Type 0} (f : A → ℕ) (l : List A) (i : ℕ) (a : A) → get_elem? l i ≡ some a → ((j : ℕ) (b : A) → j ≢ i → get_elem? l j ≡ some b → f b ≡ 0) → total f l ≡ f a
total_alone f [] i a p z = absurd (some-ne-none a (sym p))
total_alone f (x ∷ xs) zero a p z = let h : f x ≡ f a = ap f (some-injective x a p) in let t = total_nought f xs (λ j b q. z (suc j) b (λ e. absurd (omega arith)) q) in omega arith
total_alone f (x ∷ xs) (suc i) a p z = let h = z 0 x (λ e. absurd (omega arith)) refl in let t = total_alone f xs i a p (λ j b ne q. z (suc j) b (λ e. ne (omega arith)) q) in omega arith

pub not_both : (b : Bool) → b ≡ true → b ≡ false → ⊥
not_both true h d = cc (d)
not_both false h d = cc (h)

pub has_count : (x : ℕ) (xs : List ℕ) → has x xs ≡ true → 0 < count x xs
has_count x [] h = absurd cc
has_count x (y ∷ ys) h0 = by_test x y (λ b. (b || has x ys) ≡ true → 0 < cond b 1 0 + count x ys) (λ _ _. omega arith) (λ _ h. let t = has_count x ys h in omega arith) h0

pub hasnt_count : (x : ℕ) (xs : List ℕ) → has x xs ≡ false → count x xs ≡ 0
hasnt_count x [] h = refl
hasnt_count x (y ∷ ys) h0 = by_test x y (λ b. (b || has x ys) ≡ false → cond b 1 0 + count x ys ≡ 0) (λ _ h. absurd cc) (λ _ h. let t = hasnt_count x ys h in omega arith) h0

pub count_without_same : (x : ℕ) (xs : List ℕ) → count x (without x xs) ≡ 0
count_without_same x [] = refl
count_without_same x (y ∷ ys) = let h = count_without_same x ys in
    by_test x y (λ b. count x (cond b (without x ys) (y ∷ without x ys)) ≡ 0) (λ _. h)
    (λ ne. let z : cond (x == y) 1 0 ≡ 0 = let F : Bool → ℕ = λ b. cond b 1 0 in ap F (ne_eqb x y ne) in omega arith)

pub count_without_other : (x l : ℕ) (xs : List ℕ) → x ≢ l → count x (without l xs) ≡ count x xs
count_without_other x l [] ne = refl
count_without_other x l (y ∷ ys) ne = let h = count_without_other x l ys ne in
    by_test l y (λ b. count x (cond b (without l ys) (y ∷ without l ys)) ≡ count x (y ∷ ys))
    (λ e. let z : cond (x == y) 1 0 ≡ 0 = let F : Bool → ℕ = λ b. cond b 1 0 in ap F (ne_eqb x y (λ q. ne (q ∙ sym e))) in omega arith) (λ _. omega arith)

pub hasnt_without : (l : ℕ) (xs : List ℕ) → has l (without l xs) ≡ false
hasnt_without l xs = by_bool (has l (without l xs)) (λ h. absurd ((has_without l l xs h).0 refl)) (λ h. h)

pub has_skip : (x l : ℕ) (xs : List ℕ) → x ≢ l → has x (l ∷ xs) ≡ has x xs
has_skip x l xs ne = ap (λ (b : Bool). b || has x xs) (ne_eqb x l ne)

pub has_without_other : (x l : ℕ) (xs : List ℕ) → x ≢ l → has x (without l xs) ≡ has x xs
has_without_other x l xs ne = by_bool (has x xs) (λ h. has_other x l xs ne h ∙ sym h)
    (λ h. by_bool (has x (without l xs)) (λ t. absurd (not_both (has x xs) (has_without x l xs t).1 h)) (λ t. t ∙ sym h))

pub closed : (b c a : Bool) → a ≡ false → (b && a) ≡ (c && a)
closed true true a e = refl
closed true false a e = e
closed false true a e = sym e
closed false false a e = refl

pub shut : (b a c : Bool) → b ≡ false → (b && a) ≡ (b && c)
shut true a c e = absurd cc
shut false a c e = refl

pub both : (b a : Bool) → (b && a) ≡ true → (b ≡ true) × (a ≡ true)
both true a e = (refl, e)
both false a e = absurd cc

pub either_of : (b a : Bool) → (b || a) ≡ true → (b ≡ true) ⊎ (a ≡ true)
either_of true a e = inl refl
either_of false a e = inr e

pub put_at : {A : Type 0} (f : ℕ → A) (i : ℕ) (a : A) (x : ℕ) → x ≡ i → put f i a x ≡ a
put_at f i a x e = ap (λ (b : Bool). cond b a (f x)) (eq-eqb x i e)

pub put_off : {A : Type 0} (f : ℕ → A) (i : ℕ) (a : A) (x : ℕ) → x ≢ i → put f i a x ≡ f x
put_off f i a x ne = ap (λ (b : Bool). cond b a (f x)) (ne_eqb x i ne)

pub no_bit : (b : Bool) → b ≡ false → cond {A = ℕ} b 1 0 ≡ 0
no_bit true e = absurd cc
no_bit false e = refl

pub false_unless : (b : Bool) → (b ≡ true → ⊥) → b ≡ false
false_unless true f = absurd (f refl)
false_unless false f = refl

pub count_append : (x : ℕ) (xs ys : List ℕ) → count x (xs ++ ys) ≡ count x xs + count x ys
count_append x [] ys = omega arith
count_append x (z ∷ zs) ys = let h = count_append x zs ys in omega arith

pub has_append : (x : ℕ) (xs ys : List ℕ) → has x (xs ++ ys) ≡ true → (has x xs ≡ true) ⊎ (has x ys ≡ true)
has_append x [] ys h = inr h
has_append x (z ∷ zs) ys h0 = by_test x z (λ b. (b || has x (zs ++ ys)) ≡ true → ((b || has x zs) ≡ true) ⊎ (has x ys ≡ true)) (λ _ _. inl refl) (λ _ h. has_append x zs ys h) h0

pub none_held : (l : ℕ) (xs : List ℕ) → xs ≡ [] → has l xs ≡ true → ⊥
none_held l xs e h = not_both (has l xs) h (ap (has l) e)

pub nothing_below : (k : ℕ) → 0 ≡ once_below k 0
nothing_below k = let e : ltb k 0 ≡ false = grind (arith, nat_tests) in sym (no_bit (ltb k 0) e)
