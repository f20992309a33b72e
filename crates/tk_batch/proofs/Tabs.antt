-- Fields behind TABs.
use Rattle.std.proofs.Common.{◌≡◌, ℕ, zero, suc, ◌+◌, ◌<◌, ◌≤◌, arith, subst, List, [], ◌∷◌, ◌++◌, length, drop, get_or, refl, sym, ap, ◌∙◌, append_assoc, drop-cons}
use Rattle.std.proofs.lemmas.List.{append-nil}
use Rattle.tk_flat.specs.Escapes.{escaped}
use Rattle.tk_calls.specs.declared.call.ExpectedPair.{ExpectedPair}
use Rattle.tk_calls.specs.declared.call.DesiredPair.{DesiredPair}
use Rattle.tk_calls.specs.declared.call.MultiStep.{MultiStep}
use Rattle.tk_batch.specs.Written.{joined, tabbed, AllBack, expected_fields, desired_fields, step_fields}

pub joined_tabbed : (f : List ℕ) (fs : List (List ℕ)) → joined f fs ≡ escaped f ++ tabbed fs
joined_tabbed f [] = sym (append-nil (escaped f))
joined_tabbed f (g ∷ gs) = ap (λ t. escaped f ++ (9 ∷ t)) (joined_tabbed g gs)

pub tabbed_append : (xs ys : List (List ℕ)) → tabbed (xs ++ ys) ≡ tabbed xs ++ tabbed ys
tabbed_append [] ys = refl
tabbed_append (x ∷ xs) ys = ap (λ t. (9 ∷ escaped x) ++ t) (tabbed_append xs ys) ∙ sym (append_assoc (9 ∷ escaped x) (tabbed xs) (tabbed ys))

pub back_append : (xs ys : List (List ℕ)) → AllBack xs → AllBack ys → AllBack (xs ++ ys)
back_append [] ys a b = b
back_append (x ∷ xs) ys a b = (a.0, back_append xs ys a.1 b)

pub heads_append : (a b : List ℕ) (xs ys : List (List ℕ)) → AllBack (a ∷ b ∷ []) → AllBack xs → AllBack ys → AllBack (a ∷ b ∷ (xs ++ ys))
heads_append a b xs ys h p q = (h.0, (h.1.0, back_append xs ys p q))

pub with_expected : (e : ExpectedPair) (es : List ExpectedPair) → expected_fields (e ∷ es) ≡ expected_fields (e ∷ []) ++ expected_fields es
with_expected e es = refl

pub with_desired : (d : DesiredPair) (ds : List DesiredPair) → desired_fields (d ∷ ds) ≡ desired_fields (d ∷ []) ++ desired_fields ds
with_desired d ds = refl

pub with_step : (t : MultiStep) (ts : List MultiStep) → step_fields (t ∷ ts) ≡ step_fields (t ∷ []) ++ step_fields ts
with_step t ts = refl

abbrev pub themselves : List (List ℕ) → List (List ℕ)
themselves xs = xs

-- the fields of the items before the place i were put
pub record TabsSoFar {A : Type 0} (fields : List A → List (List ℕ)) (old out : List ℕ) (xs : List A) (i : ℕ) : Type 0 where
  pub text : out ++ tabbed (fields (drop i xs)) ≡ old ++ tabbed (fields xs)
  pub back : AllBack (fields (drop i xs)) → AllBack (fields xs)

pub tabs_none : {A : Type 0} (fields : List A → List (List ℕ)) (old : List ℕ) (xs : List A) → TabsSoFar fields old old xs 0
tabs_none fields old xs = record { text = refl; back = λ h. h }

pub tabs_more : {A : Type 0} (fields : List A → List (List ℕ)) → ((x : A) (xs : List A) → fields (x ∷ xs) ≡ fields (x ∷ []) ++ fields xs) → (old out next : List ℕ) (xs : List A) (i : ℕ) (x : A)
    → TabsSoFar fields old out xs i → i < length xs → x ≡ get_or xs i x → next ≡ out ++ tabbed (fields (x ∷ [])) → AllBack (fields (x ∷ [])) → TabsSoFar fields old next xs (i + 1)
tabs_more {A} fields law old out next xs i x s inside here end back =
    let one : suc i ≡ i + 1 = omega arith in
    let parts : drop i xs ≡ x ∷ drop (i + 1) xs = drop-cons xs i x inside ∙ (ap (λ (y : A). y ∷ drop (suc i) xs) (sym here) ∙ ap (λ (n : ℕ). x ∷ drop n xs) one) in
    let split : fields (drop i xs) ≡ fields (x ∷ []) ++ fields (drop (i + 1) xs) = ap fields parts ∙ law x (drop (i + 1) xs) in
    record {
      text =
          ap (λ (t : List ℕ). t ++ tabbed (fields (drop (i + 1) xs))) end
          ∙ append_assoc out (tabbed (fields (x ∷ []))) (tabbed (fields (drop (i + 1) xs)))
          ∙ ap (λ (t : List ℕ). out ++ t) (sym (tabbed_append (fields (x ∷ [])) (fields (drop (i + 1) xs))))
          ∙ ap (λ (t : List (List ℕ)). out ++ tabbed t) (sym split)
          ∙ s.text;
      back = λ h. s.back (subst AllBack (sym split) (back_append (fields (x ∷ [])) (fields (drop (i + 1) xs)) back h));
    }

nothing_left : {A : Type 0} (xs : List A) (i : ℕ) → length xs ≤ i → drop i xs ≡ []
nothing_left [] zero h = refl
nothing_left [] (suc i) h = refl
nothing_left (x ∷ xs) zero h = absurd (omega arith)
nothing_left (x ∷ xs) (suc i) h = nothing_left xs i (omega arith)

pub tabs_text : {A : Type 0} (fields : List A → List (List ℕ)) (old out : List ℕ) (xs : List A) (i : ℕ) → TabsSoFar fields old out xs i → fields [] ≡ [] → length xs ≤ i → out ≡ old ++ tabbed (fields xs)
tabs_text {A} fields old out xs i s none end =
    sym (append-nil out)
    ∙ ap (λ (t : List (List ℕ)). out ++ tabbed t) (sym (ap fields (nothing_left xs i end) ∙ none))
    ∙ s.text

pub tabs_back : {A : Type 0} (fields : List A → List (List ℕ)) (old out : List ℕ) (xs : List A) (i : ℕ) → TabsSoFar fields old out xs i → fields [] ≡ [] → length xs ≤ i → AllBack (fields xs)
tabs_back {A} fields old out xs i s none end = s.back (subst AllBack (sym (ap fields (nothing_left xs i end) ∙ none)) tt)
