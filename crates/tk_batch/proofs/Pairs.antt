-- Lists of fields that are read two or three at a time.
use Rattle.std.proofs.Common.{◌≡◌, ℕ, suc, ◌-◌, ◌<◌, ◌≤◌, ◌&&◌, Bool, true, false, List, [], ◌∷◌, ◌++◌, length, refl, sym, ap, ◌∙◌, append_assoc, arith, drop, take, get_or, drop-cons}
use Rattle.std.specs.Prelude.{Option, Some, None, if◌then◌else◌}
use Rattle.std.proofs.lemmas.List.{append-nil}
use Rattle.std.proofs.Math.Seq.{take-length}
use Rattle.tk_calls.specs.declared.call.Op.{Op}
use Rattle.tk_calls.specs.declared.call.MultiStep.{MultiStep}
use Rattle.tk_batch.specs.Arguments.{is_key, all_keys, with_form, pairs_in, with_step, op_in, multi_steps}

-- what stands before, and the rest where it could be read
abbrev pub after : {A : Type 0} → List A → Option (List A) → Option (List A)
after xs None = None
after xs (Some ys) = Some (xs ++ ys)

pub after_one : {A : Type 0} (xs : List A) (x : A) (r : Option (List A)) → after (xs ++ x ∷ []) r ≡ after xs (after (x ∷ []) r)
after_one xs x None = refl
after_one xs x (Some ys) = ap (λ t. Some t) (append_assoc xs (x ∷ []) ys)

pub after_none : {A : Type 0} (xs : List A) → after xs (Some []) ≡ Some xs
after_none xs = ap (λ t. Some t) (append-nil xs)

-- all from a place on, as a slice of it is told
pub all_behind : (rest : List (List ℕ)) → 2 ≤ length rest → take (length rest - 2) (drop 2 rest) ≡ drop 2 rest
all_behind [] h = absurd (omega arith)
all_behind (x ∷ []) h = absurd (omega arith)
all_behind (x ∷ y ∷ ys) h = let e : length (x ∷ y ∷ ys) - 2 ≡ length ys = omega arith in ap (λ (n : ℕ). take n ys) e ∙ take-length ys

pub all_behind_3 : (rest : List (List ℕ)) → 3 ≤ length rest → take (length rest - 3) (drop 3 rest) ≡ drop 3 rest
all_behind_3 [] h = absurd (omega arith)
all_behind_3 (x ∷ []) h = absurd (omega arith)
all_behind_3 (x ∷ y ∷ []) h = absurd (omega arith)
all_behind_3 (x ∷ y ∷ z ∷ zs) h = let e : length (x ∷ y ∷ z ∷ zs) - 3 ≡ length zs = omega arith in ap (λ (n : ℕ). take n zs) e ∙ take-length zs

pub two_front : (rest : List (List ℕ)) (k f : List ℕ) → 2 ≤ length rest → k ≡ get_or rest 0 k → f ≡ get_or rest 1 f → rest ≡ k ∷ f ∷ drop 2 rest
two_front [] k f h a b = absurd (omega arith)
two_front (x ∷ []) k f h a b = absurd (omega arith)
two_front (x ∷ y ∷ ys) k f h a b = λ i. sym a i ∷ sym b i ∷ ys

pub three_front : (rest : List (List ℕ)) (n k v : List ℕ) → 3 ≤ length rest → n ≡ get_or rest 0 n → k ≡ get_or rest 1 k → v ≡ get_or rest 2 v → rest ≡ n ∷ k ∷ v ∷ drop 3 rest
three_front [] n k v h a b c = absurd (omega arith)
three_front (x ∷ []) n k v h a b c = absurd (omega arith)
three_front (x ∷ y ∷ []) n k v h a b c = absurd (omega arith)
three_front (x ∷ y ∷ z ∷ zs) n k v h a b c = λ i. sym a i ∷ sym b i ∷ sym c i ∷ zs

module _ {F P : Type 0} (make : List ℕ → F → P) (read : List ℕ → Option F) where
  form_some : (k : List ℕ) (e : F) (r : Option (List P)) → is_key k ≡ true → with_form make k (Some e) r ≡ after (make k e ∷ []) r
  form_some k e None h = refl
  form_some k e (Some es) h = ap (λ (b : Bool). if b then Some (make k e ∷ es) else None) h

  form_long : (k : List ℕ) (e : Option F) (r : Option (List P)) → is_key k ≡ false → with_form make k e r ≡ None
  form_long k None r h = refl
  form_long k (Some e) None h = refl
  form_long k (Some e) (Some es) h = ap (λ (b : Bool). if b then Some (make k e ∷ es) else None) h

  pub pairs_more : (args rest more : List (List ℕ)) (k f : List ℕ) (pairs next : List P) (e : F) → pairs_in make read args ≡ after pairs (pairs_in make read rest) → rest ≡ k ∷ f ∷ more
      → Some e ≡ read f → is_key k ≡ true → next ≡ pairs ++ make k e ∷ [] → pairs_in make read args ≡ after next (pairs_in make read more)
  pairs_more args rest more k f pairs next e so_far is found key end =
      so_far ∙ (ap (λ t. after pairs (pairs_in make read t)) is ∙ (ap (λ t. after pairs (with_form make k t (pairs_in make read more))) (sym found)
      ∙ (ap (after pairs) (form_some k e (pairs_in make read more) key) ∙ (sym (after_one pairs (make k e) (pairs_in make read more)) ∙ ap (λ t. after t (pairs_in make read more)) (sym end)))))

  pub pairs_long : (args rest more : List (List ℕ)) (k f : List ℕ) (pairs : List P) → pairs_in make read args ≡ after pairs (pairs_in make read rest) → rest ≡ k ∷ f ∷ more
      → is_key k ≡ false → None ≡ pairs_in make read args
  pairs_long args rest more k f pairs so_far is key =
      sym (so_far ∙ (ap (λ t. after pairs (pairs_in make read t)) is ∙ ap (after pairs) (form_long k (read f) (pairs_in make read more) key)))

  pub pairs_bad : (args rest more : List (List ℕ)) (k f : List ℕ) (pairs : List P) → pairs_in make read args ≡ after pairs (pairs_in make read rest) → rest ≡ k ∷ f ∷ more
      → None ≡ read f → None ≡ pairs_in make read args
  pairs_bad args rest more k f pairs so_far is bad =
      sym (so_far ∙ (ap (λ t. after pairs (pairs_in make read t)) is ∙ ap (λ t. after pairs (with_form make k t (pairs_in make read more))) (sym bad)))

  pub pairs_end : (args rest : List (List ℕ)) (pairs : List P) → pairs_in make read args ≡ after pairs (pairs_in make read rest) → rest ≡ [] → Some pairs ≡ pairs_in make read args
  pairs_end args rest pairs so_far e = sym (so_far ∙ (ap (λ t. after pairs (pairs_in make read t)) e ∙ after_none pairs))

  short_pairs : (rest : List (List ℕ)) → length rest < 2 → (rest ≡ [] → ⊥) → pairs_in make read rest ≡ None
  short_pairs [] h n = absurd (n refl)
  short_pairs (k ∷ []) h n = refl
  short_pairs (k ∷ f ∷ fs) h n = absurd (omega arith)

  pub pairs_odd : (args rest : List (List ℕ)) (pairs : List P) → pairs_in make read args ≡ after pairs (pairs_in make read rest) → length rest < 2 → (rest ≡ [] → ⊥) → None ≡ pairs_in make read args
  pairs_odd args rest pairs so_far short some = sym (so_far ∙ ap (after pairs) (short_pairs rest short some))

-- the steps of a multi call

step_some : (k : List ℕ) (op : Op) (r : Option (List MultiStep)) → is_key k ≡ true → with_step k (Some op) r ≡ after (record { op = op; key = k } ∷ []) r
step_some k op None h = refl
step_some k op (Some ts) h = ap (λ (b : Bool). if b then Some (record { op = op; key = k } ∷ ts) else None) h

step_long : (k : List ℕ) (op : Option Op) (r : Option (List MultiStep)) → is_key k ≡ false → with_step k op r ≡ None
step_long k None r h = refl
step_long k (Some op) None h = refl
step_long k (Some op) (Some ts) h = ap (λ (b : Bool). if b then Some (record { op = op; key = k } ∷ ts) else None) h

pub steps_more : (args rest more : List (List ℕ)) (n k v : List ℕ) (steps next : List MultiStep) (op : Op) → multi_steps args ≡ after steps (multi_steps rest) → rest ≡ n ∷ k ∷ v ∷ more
    → Some op ≡ op_in n v → is_key k ≡ true → next ≡ steps ++ record { op = op; key = k } ∷ [] → multi_steps args ≡ after next (multi_steps more)
steps_more args rest more n k v steps next op so_far is found key end =
    so_far ∙ (ap (λ t. after steps (multi_steps t)) is ∙ (ap (λ t. after steps (with_step k t (multi_steps more))) (sym found)
    ∙ (ap (after steps) (step_some k op (multi_steps more) key) ∙ (sym (after_one steps (record { op = op; key = k }) (multi_steps more)) ∙ ap (λ t. after t (multi_steps more)) (sym end)))))

pub steps_long : (args rest more : List (List ℕ)) (n k v : List ℕ) (steps : List MultiStep) → multi_steps args ≡ after steps (multi_steps rest) → rest ≡ n ∷ k ∷ v ∷ more
    → is_key k ≡ false → None ≡ multi_steps args
steps_long args rest more n k v steps so_far is key =
    sym (so_far ∙ (ap (λ t. after steps (multi_steps t)) is ∙ ap (after steps) (step_long k (op_in n v) (multi_steps more) key)))

pub steps_bad : (args rest more : List (List ℕ)) (n k v : List ℕ) (steps : List MultiStep) → multi_steps args ≡ after steps (multi_steps rest) → rest ≡ n ∷ k ∷ v ∷ more
    → None ≡ op_in n v → None ≡ multi_steps args
steps_bad args rest more n k v steps so_far is bad =
    sym (so_far ∙ (ap (λ t. after steps (multi_steps t)) is ∙ ap (λ t. after steps (with_step k t (multi_steps more))) (sym bad)))

pub steps_end : (args rest : List (List ℕ)) (steps : List MultiStep) → multi_steps args ≡ after steps (multi_steps rest) → rest ≡ [] → Some steps ≡ multi_steps args
steps_end args rest steps so_far e = sym (so_far ∙ (ap (λ t. after steps (multi_steps t)) e ∙ after_none steps))

short_steps : (rest : List (List ℕ)) → length rest < 3 → (rest ≡ [] → ⊥) → multi_steps rest ≡ None
short_steps [] h n = absurd (n refl)
short_steps (k ∷ []) h n = refl
short_steps (k ∷ f ∷ []) h n = refl
short_steps (k ∷ f ∷ v ∷ fs) h n = absurd (omega arith)

pub steps_odd : (args rest : List (List ℕ)) (steps : List MultiStep) → multi_steps args ≡ after steps (multi_steps rest) → length rest < 3 → (rest ≡ [] → ⊥) → None ≡ multi_steps args
steps_odd args rest steps so_far short some = sym (so_far ∙ ap (after steps) (short_steps rest short some))

-- keys

pub keys_stop : (keys : List (List ℕ)) (k : List ℕ) (i : ℕ) → all_keys keys ≡ all_keys (drop i keys) → i < length keys → k ≡ get_or keys i k → is_key k ≡ false → false ≡ all_keys keys
keys_stop keys k i so_far low at bad =
    sym (so_far ∙ (ap all_keys (drop-cons keys i k low) ∙ (ap (λ (t : List ℕ). is_key t && all_keys (drop (suc i) keys)) (sym at) ∙ ap (λ (b : Bool). b && all_keys (drop (suc i) keys)) bad)))
