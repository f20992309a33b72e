-- The lines of a script, woven from what each worker has.
use Rattle.std.proofs.Common.{◌≡◌, ◌≢◌, ◌==◌, ℕ, zero, suc, ◌+◌, ◌<◌, ◌≤◌, Bool, true, false, cond, List, [], ◌∷◌, length, map, get_or, set, refl, sym, ap, ◌∙◌, subst, arith, eq-eqb, ne_eqb, length-set}
use Rattle.std.specs.Prelude.{sum_by}
use Rattle.std.proofs.lemmas.List.{get_or-set_other, map-set}
use Rattle.std.proofs.lemmas.Grind.{get_or-set_at}
use Rattle.std.proofs.lemmas.List.Sums.{sum_by-set, sum_by-cons}
use mathlib.Core.Logic.{dite}
use native.Mathlib.Decide.{ℕ_discrete}
use Rattle.tk_batch.specs.declared.line.Line.{Line}
use Rattle.tk_calls.specs.declared.call.Call.{Call}
use Rattle.tk_batch.specs.declared.line.Out.{Out}
use Rattle.tk_batch.specs.Told.{Done, deeds_of}
use Rattle.tk_batch.specs.Facts.{calls_of, deeds, want, first_done, woven}
use Rattle.tk_batch.specs.Woven.{HaveWorkers, first_out, rest_of, woven_outs}

by_test : (x y : ℕ) (F : Bool → Type 0) → (x ≡ y → F true) → (x ≢ y → F false) → F (x == y)
by_test x y F hit miss = dite (ℕ_discrete x y) (λ e. subst F (sym (eq-eqb x y e)) (hit e)) (λ ne. subst F (sym (ne_eqb x y ne)) (miss ne))

deeds_cons : (c : Call) (cs : List Call) (ds : List Done) → deeds (c ∷ cs) ds ≡ record { call = c; done = first_done ds } ∷ deeds cs (rest_of ds)
deeds_cons c cs [] = refl
deeds_cons c cs (d ∷ ds) = refl

pub woven_deeds : (w : ℕ) (script : List Line) (xs : List (List Done)) → HaveWorkers (length xs) script → deeds_of w script (woven script xs) ≡ deeds (calls_of w script) (get_or xs w [])
woven_deeds w [] xs h = refl
woven_deeds w (l ∷ ls) xs h =
    let x : List Done = get_or xs l.worker [] in
    let ys : List (List Done) = set xs l.worker (rest_of x) in
    let within : HaveWorkers (length ys) ls = subst (λ n. HaveWorkers n ls) (sym (length-set xs l.worker (rest_of x))) h.1 in
    let ih : deeds_of w ls (woven ls ys) ≡ deeds (calls_of w ls) (get_or ys w []) = woven_deeds w ls ys within in
    by_test l.worker w (λ b. cond b (record { call = l.call; done = first_done x } ∷ deeds_of w ls (woven ls ys)) (deeds_of w ls (woven ls ys)) ≡ deeds (cond b (l.call ∷ calls_of w ls) (calls_of w ls)) (get_or xs w []))
    (λ e.
    let here : get_or ys w [] ≡ rest_of x = get_or-set_at xs l.worker w (rest_of x) [] (sym e) h.0 in
    let same : get_or xs w [] ≡ x = ap (λ i. get_or xs i []) (sym e) in
    ap (λ t. record { call = l.call; done = first_done x } ∷ t) (ih ∙ ap (deeds (calls_of w ls)) here)
    ∙ sym (deeds_cons l.call (calls_of w ls) x) ∙ ap (deeds (l.call ∷ calls_of w ls)) (sym same))
    (λ ne. ih ∙ ap (deeds (calls_of w ls)) (get_or-set_other xs l.worker w (rest_of x) [] (λ e. ne (sym e))))

-- no worker has more than its lines
abbrev pub Fits : List Line → List (List Done) → Type 0
Fits script xs = (w : ℕ) → length (get_or xs w []) ≤ length (calls_of w script)

rest_shorter : (ds : List Done) (n : ℕ) → length ds ≤ suc n → length (rest_of ds) ≤ n
rest_shorter [] n h = omega arith
rest_shorter (d ∷ ds) n h = omega arith

fits_rest : (l : Line) (ls : List Line) (xs : List (List Done)) → l.worker < length xs → Fits (l ∷ ls) xs → Fits ls (set xs l.worker (rest_of (get_or xs l.worker [])))
fits_rest l ls xs low fits w =
    let x : List Done = get_or xs l.worker [] in
    by_test l.worker w (λ b. length (get_or xs w []) ≤ length (cond b (l.call ∷ calls_of w ls) (calls_of w ls)) → length (get_or (set xs l.worker (rest_of x)) w []) ≤ length (calls_of w ls))
    (λ e h.
    let here : get_or (set xs l.worker (rest_of x)) w [] ≡ rest_of x = get_or-set_at xs l.worker w (rest_of x) [] (sym e) low in
    let same : get_or xs w [] ≡ x = ap (λ i. get_or xs i []) (sym e) in
    subst (λ t. length t ≤ length (calls_of w ls)) (sym here) (rest_shorter x (length (calls_of w ls)) (subst (λ t. length t ≤ suc (length (calls_of w ls))) same h)))
    (λ ne h. subst (λ t. length t ≤ length (calls_of w ls)) (sym (get_or-set_other xs l.worker w (rest_of x) [] (λ e. ne (sym e)))) h)
    (fits w)

no_item : (ds : List Done) → length ds ≤ 0 → ds ≡ []
no_item [] h = refl
no_item (d ∷ ds) h = absurd (omega arith)

-- what each item weighs, added up
module _ (f : List Done → ℕ) (g : Done → ℕ) (none : f [] ≡ 0) (more : (d : Done) (ds : List Done) → f (d ∷ ds) ≡ g d + f ds) (light : g want ≡ 0) where
  weighs_none : (xs : List (List Done)) → ((w : ℕ) → length (get_or xs w []) ≤ 0) → sum_by f xs ≡ 0
  weighs_none [] h = refl
  weighs_none (x ∷ xs) h =
      let t = weighs_none xs (λ w. h (suc w)) in
      let z : f x ≡ 0 = ap f (no_item x (h 0)) ∙ none in
      let e = sum_by-cons f x xs in omega arith

  weighs_first : (ds : List Done) → f ds ≡ g (first_done ds) + f (rest_of ds)
  weighs_first [] = let a = none in let b = light in omega arith
  weighs_first (d ∷ ds) = more d ds

  pub woven_weighs : (script : List Line) (xs : List (List Done)) → HaveWorkers (length xs) script → Fits script xs → f (woven script xs) ≡ sum_by f xs
  woven_weighs [] xs h fits = none ∙ sym (weighs_none xs fits)
  woven_weighs (l ∷ ls) xs h fits =
      let x : List Done = get_or xs l.worker [] in
      let ys : List (List Done) = set xs l.worker (rest_of x) in
      let within : HaveWorkers (length ys) ls = subst (λ n. HaveWorkers n ls) (sym (length-set xs l.worker (rest_of x))) h.1 in
      let ih : f (woven ls ys) ≡ sum_by f ys = woven_weighs ls ys within (fits_rest l ls xs h.0 fits) in
      let a : sum_by f ys + f x ≡ sum_by f xs + f (rest_of x) = sum_by-set f xs l.worker (rest_of x) [] h.0 in
      let b : f x ≡ g (first_done x) + f (rest_of x) = weighs_first x in
      let c : f (first_done x ∷ woven ls ys) ≡ g (first_done x) + f (woven ls ys) = more (first_done x) (woven ls ys) in omega arith

abbrev pub out_of : Done → Out
out_of d = d.out

abbrev pub outs_of : List Done → List Out
outs_of ds = map out_of ds

get_mapped : (xs : List (List Done)) (w : ℕ) → get_or (map outs_of xs) w [] ≡ outs_of (get_or xs w [])
get_mapped [] w = refl
get_mapped (x ∷ xs) zero = refl
get_mapped (x ∷ xs) (suc w) = get_mapped xs w

first_mapped : (ds : List Done) → first_out (outs_of ds) ≡ out_of (first_done ds)
first_mapped [] = refl
first_mapped (d ∷ ds) = refl

rest_mapped : (ds : List Done) → rest_of (outs_of ds) ≡ outs_of (rest_of ds)
rest_mapped [] = refl
rest_mapped (d ∷ ds) = refl

pub woven_printed : (script : List Line) (xs : List (List Done)) → outs_of (woven script xs) ≡ woven_outs script (map outs_of xs)
woven_printed [] xs = refl
woven_printed (l ∷ ls) xs =
    let x : List Done = get_or xs l.worker [] in
    let ih : outs_of (woven ls (set xs l.worker (rest_of x))) ≡ woven_outs ls (map outs_of (set xs l.worker (rest_of x))) = woven_printed ls (set xs l.worker (rest_of x)) in
    let here : get_or (map outs_of xs) l.worker [] ≡ outs_of x = get_mapped xs l.worker in
    let first : first_out (get_or (map outs_of xs) l.worker []) ≡ out_of (first_done x) = ap first_out here ∙ first_mapped x in
    let rest : rest_of (get_or (map outs_of xs) l.worker []) ≡ outs_of (rest_of x) = ap (λ (os : List Out). rest_of os) here ∙ rest_mapped x in
    let changed : map outs_of (set xs l.worker (rest_of x)) ≡ set (map outs_of xs) l.worker (rest_of (get_or (map outs_of xs) l.worker [])) =
    map-set outs_of xs l.worker (rest_of x) ∙ ap (λ (os : List Out). set (map outs_of xs) l.worker os) (sym rest) in
    λ i. sym first i ∷ (ih ∙ ap (woven_outs ls) changed) i

pub woven_length : (script : List Line) (xs : List (List Done)) → length (woven script xs) ≡ length script
woven_length [] xs = refl
woven_length (l ∷ ls) xs = ap suc (woven_length ls (set xs l.worker (rest_of (get_or xs l.worker []))))

-- a worker past the last has no line
pub no_calls : (w n : ℕ) (script : List Line) → HaveWorkers n script → n ≤ w → calls_of w script ≡ []
no_calls w n [] h le = refl
no_calls w n (l ∷ ls) h le =
    by_test l.worker w (λ b. cond b (l.call ∷ calls_of w ls) (calls_of w ls) ≡ []) (λ e. absurd (let low = h.0 in omega arith)) (λ ne. no_calls w n ls h.1 le)
