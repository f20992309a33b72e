-- What the workers know gives what is told.
use Rattle.std.proofs.Common.{◌≡◌, ℕ, zero, suc, ◌+◌, ◌<◌, ◌≤◌, Bool, true, false, cond, ltb, List, [], ◌∷◌, length, map, get_or, refl, sym, ap, ◌∙◌, subst, arith}
use Rattle.std.specs.Prelude.{sum_by}
use Rattle.std.proofs.lemmas.List.Sums.{sum_by-cons}
use Rattle.std.proofs.lemmas.List.{append-nil}
use Rattle.std.proofs.lemmas.Bool.Decides.{nat_tests}
use mathlib.Core.List.{IsPrefix}
use Rattle.tk_model.specs.declared.record.Pair.{Pair}
use Rattle.tk_model.specs.declared.record.Entry.{Entry}
use Rattle.tk_core.specs.Lists.{has, count, times, once_below}
use Rattle.tk_batch.specs.declared.line.Line.{Line}
use Rattle.tk_calls.specs.declared.call.Position.{Position}
use Rattle.tk_calls.specs.declared.call.Position.TheVariants.{Nowhere}
use Rattle.tk_batch.specs.Told.{Setting, Done, Told, Follows, StaysOut, deeds_of, numbered, broken, has_number}
use Rattle.tk_batch.specs.Facts.{calls_of, deeds, woven, Left, AllWorked, Joined}
use Rattle.tk_batch.specs.Woven.{HaveWorkers, woven_outs}
use Rattle.tk_batch.proofs.Grow.{follows_stays}
use Rattle.tk_batch.proofs.Weaves.{woven_deeds, woven_weighs, woven_printed, woven_length, no_calls, outs_of, Fits}

module _ (s : Setting) (m : List Pair) (log : List Entry) (rose spoilt : ℕ → Bool) (script : List Line) where
  dones : (w : ℕ) (xs : List Left) → AllWorked s m log rose spoilt script w xs → List (List Done)
  dones w [] h = []
  dones w (x ∷ xs) h = h.0.done ∷ dones (suc w) xs h.4

  dones_length : (w : ℕ) (xs : List Left) (h : AllWorked s m log rose spoilt script w xs) → length (dones w xs h) ≡ length xs
  unfolding dones
  dones_length w [] h = refl
  dones_length w (x ∷ xs) h = ap suc (dones_length (suc w) xs h.4)

  dones_printed : (w : ℕ) (xs : List Left) (h : AllWorked s m log rose spoilt script w xs) → map outs_of (dones w xs h) ≡ map (λ x. x.outs) xs
  unfolding dones
  dones_printed w [] h = refl
  dones_printed w (x ∷ xs) h = λ i. h.0.printed i ∷ dones_printed (suc w) xs h.4 i

  dones_numbers : (n w : ℕ) (xs : List Left) (h : AllWorked s m log rose spoilt script w xs) → sum_by (numbered n) (dones w xs h) ≡ sum_by (λ x. times n x.mine) xs
  unfolding dones
  dones_numbers n w [] h = refl
  dones_numbers n w (x ∷ xs) h =
      let t = dones_numbers n (suc w) xs h.4 in
      let a = sum_by-cons (numbered n) h.0.done (dones (suc w) xs h.4) in
      let b = sum_by-cons (λ (y : Left). times n y.mine) x xs in
      let c = h.0.mine n in omega arith

  dones_broken : (j w : ℕ) (xs : List Left) (h : AllWorked s m log rose spoilt script w xs) → sum_by (broken j) (dones w xs h) ≡ sum_by (λ x. count j x.broke) xs
  unfolding dones
  dones_broken j w [] h = refl
  dones_broken j w (x ∷ xs) h =
      let t = dones_broken j (suc w) xs h.4 in
      let a = sum_by-cons (broken j) h.0.done (dones (suc w) xs h.4) in
      let b = sum_by-cons (λ (y : Left). count j y.broke) x xs in
      let c = h.0.broke j in omega arith

  dones_fit : (w i : ℕ) (xs : List Left) (h : AllWorked s m log rose spoilt script w xs) → length (get_or (dones w xs h) i []) ≤ length (calls_of (w + i) script)
  unfolding dones
  dones_fit w i [] h = omega arith
  dones_fit w zero (x ∷ xs) h = let e : w + 0 ≡ w = omega arith in subst (λ v. length h.0.done ≤ length (calls_of v script)) (sym e) h.0.few
  dones_fit w (suc i) (x ∷ xs) h = let e : suc w + i ≡ w + suc i = omega arith in
      subst (λ v. length (get_or (dones (suc w) xs h.4) i []) ≤ length (calls_of v script)) e (dones_fit (suc w) i xs h.4)

  dones_follow : (w i : ℕ) (xs : List Left) (h : AllWorked s m log rose spoilt script w xs) → i < length xs
      → ((q : Position) × Follows s m log rose spoilt Nowhere 0 (deeds (calls_of (w + i) script) (get_or (dones w xs h) i [])) q) × StaysOut (deeds (calls_of (w + i) script) (get_or (dones w xs h) i []))
  unfolding dones
  dones_follow w i [] h low = absurd (omega arith)
  dones_follow w zero (x ∷ xs) h low =
      let e : w + 0 ≡ w = omega arith in
      subst (λ v. ((q : Position) × Follows s m log rose spoilt Nowhere 0 (deeds (calls_of v script) h.0.done) q) × StaysOut (deeds (calls_of v script) h.0.done)) (sym e)
      ((h.0.end, follows_stays s m x.seen log x.rose (λ j. has j x.met) rose spoilt h.1 h.2 h.3 (deeds (calls_of w script) h.0.done) Nowhere 0 h.0.end h.0.follows), h.0.out_of_memory)
  dones_follow w (suc i) (x ∷ xs) h low =
      let e : suc w + i ≡ w + suc i = omega arith in
      subst (λ v. ((q : Position) × Follows s m log rose spoilt Nowhere 0 (deeds (calls_of v script) (get_or (dones (suc w) xs h.4) i [])) q) × StaysOut (deeds (calls_of v script) (get_or (dones (suc w) xs h.4) i []))) e
      (dones_follow (suc w) i xs h.4 (omega arith))

by_bool : {B : Type 0} (b : Bool) → (b ≡ true → B) → (b ≡ false → B) → B
by_bool true f g = f refl
by_bool false f g = g refl

at_most_one : (b : Bool) (n : ℕ) → n ≡ cond b 1 0 → n ≤ 1
at_most_one true n e = omega arith
at_most_one false n e = omega arith

above_none : (b : Bool) (n : ℕ) → n ≡ cond b 1 0 → b ≡ true → ltb 0 n ≡ true
above_none true n e h = let low : 0 < n = omega arith in grind (arith, nat_tests)
above_none false n e h = absurd cc

pub facts_tell : (s : Setting) (m : List Pair) (log : List Entry) (rose : ℕ → Bool) (script : List Line) (xs : List Left)
    → Joined s m log rose script xs → Told s m rose script (woven_outs script (map (λ x. x.outs) xs))
facts_tell s m log rose script xs h =
    let ds : List (List Done) = dones s m log rose h.spoilt script 0 xs h.worked in
    let len : length ds ≡ length xs = dones_length s m log rose h.spoilt script 0 xs h.worked in
    let within : HaveWorkers (length ds) script = subst (λ n. HaveWorkers n script) (sym len) h.workers in
    let fits : Fits script ds = λ w.
    let zero_and : 0 + w ≡ w = omega arith in
    subst (λ v. length (get_or ds w []) ≤ length (calls_of v script)) zero_and (dones_fit s m log rose h.spoilt script 0 w xs h.worked) in
    let all : List Done = woven script ds in
    let numbers : (n : ℕ) → numbered n all ≡ once_below n (length log) = λ n.
    woven_weighs (numbered n) (λ (d : Done). has_number n d.out.number) refl (λ d es. refl) refl script ds within fits
    ∙ (dones_numbers s m log rose h.spoilt script n 0 xs h.worked ∙ h.mine n) in
    let breaks : (j : ℕ) → broken j all ≡ cond (h.spoilt j) 1 0 = λ j.
    woven_weighs (broken j) (λ (d : Done). count j d.broke) refl (λ d es. refl) refl script ds within fits
    ∙ (dones_broken s m log rose h.spoilt script j 0 xs h.worked ∙ h.broke j) in
    let known : ℕ → Bool = λ j. ltb 0 (broken j all) in
    let same : (w : ℕ) → deeds_of w script all ≡ deeds (calls_of w script) (get_or ds w []) = λ w. woven_deeds w script ds within in
    let whole : IsPrefix log log = ([], append-nil log) in
    let told : (w : ℕ) → ((q : Position) × Follows s m log rose known Nowhere 0 (deeds (calls_of w script) (get_or ds w [])) q) × StaysOut (deeds (calls_of w script) (get_or ds w [])) = λ w.
    by_bool (ltb w (length xs))
    (λ e.
    let low : w < length xs = grind (arith, nat_tests) in
    let zero_and : 0 + w ≡ w = omega arith in
    let f : ((q : Position) × Follows s m log rose h.spoilt Nowhere 0 (deeds (calls_of w script) (get_or ds w [])) q) × StaysOut (deeds (calls_of w script) (get_or ds w [])) =
    subst (λ v. ((q : Position) × Follows s m log rose h.spoilt Nowhere 0 (deeds (calls_of v script) (get_or ds w [])) q) × StaysOut (deeds (calls_of v script) (get_or ds w []))) zero_and (dones_follow s m log rose h.spoilt script 0 w xs h.worked low) in
    ((f.0.0, follows_stays s m log log rose h.spoilt rose known whole (λ j r. r) (λ j r. above_none (h.spoilt j) (broken j all) (breaks j) r) (deeds (calls_of w script) (get_or ds w [])) Nowhere 0 f.0.0 f.0.1), f.1))
    (λ e.
    let high : length xs ≤ w = grind (arith, nat_tests) in
    let none : calls_of w script ≡ [] = no_calls w (length xs) script h.workers high in
    subst (λ cs. ((q : Position) × Follows s m log rose known Nowhere 0 (deeds cs (get_or ds w [])) q) × StaysOut (deeds cs (get_or ds w []))) (sym none) ((Nowhere, (refl, omega arith)), tt)) in record {
      log = log;
      done = all;
      lawful = h.lawful;
      printed = woven_printed script ds ∙ ap (woven_outs script) (dones_printed s m log rose h.spoilt script 0 xs h.worked);
      each = woven_length script ds;
      once = numbers;
      apart = λ j. at_most_one (h.spoilt j) (broken j all) (breaks j);
      follows = λ w. subst (λ t. (q : Position) × Follows s m log rose known Nowhere 0 t q) (sym (same w)) (told w).0;
      out_of_memory = λ w. subst StaysOut (sym (same w)) (told w).1;
    }
