-- How the plain machine goes through the touches of an entry.
use Rattle.std.proofs.Common.{◌≡◌, ℕ, suc, ◌+◌, ◌<◌, ◌≤◌, Bool, true, false, ◌&&◌, List, [], ◌∷◌, length, drop, get_or, Some, None, refl, sym, ap, subst, ◌∙◌, if◌then◌else◌}
use Rattle.std.proofs.Math.ListN.{drop_of_length-le}
use Rattle.std.proofs.lemmas.List.{drop_more}
use Rattle.std.specs.List.{list_all}
use Rattle.tk_model.specs.Orders.{same_bytes}
use Rattle.tk_model.specs.Records.{find, Rising}
use Rattle.tk_model.specs.Entries.{touched, all_touched, same_value, all_were, are_all, fits}
use Rattle.tk_model.specs.declared.record.Order.{Order}
use Rattle.tk_model.specs.declared.record.Pair.{Pair}
use Rattle.tk_model.specs.declared.record.Touch.{Touch}

abbrev pub all_fit_each : List Touch → List Pair → Bool
all_fit_each ts m = are_all ts m && list_all fits ts

abbrev pub all_fit_were : Order → List Touch → List Pair → Bool
all_fit_were o ts m = all_were o ts m && list_all fits ts

-- the touches before this place are done
pub record InTurn (o : Order) (ts : List Touch) (m : List Pair) (i : ℕ) (after : List Pair) : Type 0 where
  pub tell : all_fit_were o (drop i ts) after ≡ all_fit_were o ts m
  pub go_on : all_touched o (drop i ts) after ≡ all_touched o ts m

both_so : (a b c d : Bool) → a ≡ true → d ≡ true → ((a && b) && (d && c)) ≡ (b && c)
both_so a b c d e f = rw (e, f) refl

first_not : (a b c : Bool) → a ≡ false → ((a && b) && c) ≡ false
first_not a b c e = rw e refl

second_not : (a b c : Bool) → b ≡ false → (a && (b && c)) ≡ false
second_not true b c e = rw e refl
second_not false b c e = refl

touch_at : (ts : List Touch) (i : ℕ) (t : Touch) → i < length ts → t ≡ get_or ts i t → drop i ts ≡ t ∷ drop (i + 1) ts
touch_at ts i t inside is = drop_more ts i t inside ∙ ap (λ u. u ∷ drop (i + 1) ts) (sym is)

pub acted : (o : Order) (ts : List Touch) (m : List Pair) (i : ℕ) (t : Touch) (after next : List Pair) → i < length ts → t ≡ get_or ts i t
    → next ≡ touched o t.key t.action after → all_touched o (drop i ts) after ≡ all_touched o ts m → all_touched o (drop (i + 1) ts) next ≡ all_touched o ts m
acted o ts m i t after next inside is e so_far =
    ap (all_touched o (drop (i + 1) ts)) e ∙ sym (ap (λ us. all_touched o us after) (touch_at ts i t inside is)) ∙ so_far

pub in_turn_more : (o : Order) (ts : List Touch) (m : List Pair) (i : ℕ) (t : Touch) (after next : List Pair) → i < length ts → t ≡ get_or ts i t
    → same_value t.was (find t.key after) ≡ true → fits t ≡ true → next ≡ touched o t.key t.action after → InTurn o ts m i after → InTurn o ts m (i + 1) next
in_turn_more o ts m i t after next inside is was fit e so_far = record {
  tell =
      ap (all_fit_were o (drop (i + 1) ts)) e
      ∙ sym (both_so (same_value t.was (find t.key after)) (all_were o (drop (i + 1) ts) (touched o t.key t.action after)) (list_all fits (drop (i + 1) ts)) (fits t) was fit)
      ∙ sym (ap (λ us. all_fit_were o us after) (touch_at ts i t inside is))
      ∙ so_far.tell;
  go_on = acted o ts m i t after next inside is e so_far.go_on;
}

pub not_was : (o : Order) (ts : List Touch) (m : List Pair) (i : ℕ) (t : Touch) (after : List Pair) → i < length ts → t ≡ get_or ts i t
    → same_value t.was (find t.key after) ≡ false → InTurn o ts m i after → all_fit_were o ts m ≡ false
not_was o ts m i t after inside is was so_far =
    sym so_far.tell
    ∙ ap (λ us. all_fit_were o us after) (touch_at ts i t inside is)
    ∙ first_not (same_value t.was (find t.key after)) (all_were o (drop (i + 1) ts) (touched o t.key t.action after)) (fits t && list_all fits (drop (i + 1) ts)) was

pub not_fit : (o : Order) (ts : List Touch) (m : List Pair) (i : ℕ) (t : Touch) (after : List Pair) → i < length ts → t ≡ get_or ts i t
    → fits t ≡ false → InTurn o ts m i after → all_fit_were o ts m ≡ false
not_fit o ts m i t after inside is fit so_far =
    sym so_far.tell
    ∙ ap (λ us. all_fit_were o us after) (touch_at ts i t inside is)
    ∙ second_not (same_value t.was (find t.key after) && all_were o (drop (i + 1) ts) (touched o t.key t.action after)) (fits t) (list_all fits (drop (i + 1) ts)) fit

pub in_turn_end : (o : Order) (ts : List Touch) (m : List Pair) (i : ℕ) (after : List Pair) → length ts ≤ i → InTurn o ts m i after
    → Some after ≡ (if all_fit_were o ts m then Some (all_touched o ts m) else None)
in_turn_end o ts m i after past so_far =
    let none : drop i ts ≡ [] = drop_of_length-le ts past in
    let all : true ≡ all_fit_were o ts m = sym (ap (λ us. all_fit_were o us after) none) ∙ so_far.tell in
    let same : after ≡ all_touched o ts m = sym (ap (λ us. all_touched o us after) none) ∙ so_far.go_on in
    rw (← all) (ap Some same)

step_all : (a b c : Bool) → c ≡ false → (a && b && c) ≡ false
step_all true true c e = e
step_all true false c e = refl
step_all false b c e = refl

are_not_all : (ts : List Touch) (m : List Pair) → (length ts ≡ length m → ⊥) → are_all ts m ≡ false
are_not_all [] [] other = absurd (other refl)
are_not_all [] (p ∷ ps) other = refl
are_not_all (t ∷ ts) [] other = refl
are_not_all (t ∷ ts) (p ∷ ps) other =
    step_all (same_bytes t.key p.key) (same_value t.was (Some p.value)) (are_all ts ps) (are_not_all ts ps (λ e. other (ap suc e)))

pub other_length : (ts : List Touch) (m : List Pair) → (length ts ≡ length m → ⊥) → false ≡ all_fit_each ts m
other_length ts m other = sym (ap (λ b. b && list_all fits ts) (are_not_all ts m other))

-- records that were answered rise where those in turn do
pub some_rising : (o : Order) (b : Bool) (m n : List Pair) → Some n ≡ (if b then Some m else None) → Rising o m → Rising o n
some_rising o true m n e rising = let same : m ≡ n = cc in subst (Rising o) same rising
some_rising o false m n e rising = absurd (cc)
