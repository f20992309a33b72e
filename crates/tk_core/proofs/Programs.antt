-- The first state of the program meets the rule.
use Rattle.std.proofs.Common.{◌≡◌, ℕ, zero, suc, ◌+◌, ◌-◌, Bool, true, false, List, [], ◌∷◌, ◌++◌, length, take, replicate, get_or, map, ap, ◌∙◌, refl, sym, subst, arith}
use Rattle.tk_core.specs.declared.frame.Frame.{Frame}
use Rattle.tk_model.specs.declared.record.Entry.{Entry}
use Rattle.tk_core.specs.declared.machine.Row.{Row}
use Rattle.tk_core.specs.Caller.{Caller}
use Rattle.tk_core.specs.Covers.{IsFrame}
use Rattle.tk_core.specs.Rule.{Sound}
use Rattle.tk_core.specs.States.{IsSound}
use Rattle.tk_core.specs.Steps.{first_caller}
use Rattle.tk_core.specs.Program.{caller_of, IsCore, state_of, first_state}
use Rattle.tk_core.proofs.Runs.{starts}

pub all_same : {A : Type 0} (n i : ℕ) (a : A) → get_or (replicate n a) i a ≡ a
all_same zero i a = refl
all_same (suc n) zero a = refl
all_same (suc n) (suc i) a = all_same n i a

long : {A : Type 0} (n : ℕ) (a : A) → length (replicate n a) ≡ n
long zero a = refl
long (suc n) a = ap suc (long n a)

first_meets : (f : Frame) → IsFrame f → IsSound f (state_of (first_state f))
first_meets f frame =
    let whole = starts f (λ m. true) [] (λ i gs n. true) frame (record { rising = tt; lawful = refl; empty = λ i low. refl }) in
    subst (λ (owner : ℕ → ℕ). Sound f (λ m. true ≡ true) [] [] owner (λ i. get_or (replicate f.stores false) i false) (λ i. get_or (replicate f.stores false) i false) (λ i gs n. true ≡ true) (first_caller ∷ []))
    (λ t l. sym (all_same (f.stripes + f.stores) l 0) t)
    (subst (λ (flags : ℕ → Bool). Sound f (λ m. true ≡ true) [] [] (λ l. 0) flags flags (λ i gs n. true ≡ true) (first_caller ∷ [])) (λ t i. sym (all_same f.stores i false) t) whole)

pub first_sound : (f : Frame) → IsFrame f → IsCore (first_state f)
first_sound f frame = record { sound = first_meets f frame; owners = long (f.stripes + f.stores) 0; spoilt = long f.stores false; away = long f.stores false }

pub built : (f : Frame) → IsFrame f → (log : List Entry) (owners : List ℕ) (spoilt away : List Bool) (rows : List Row) (first : Row) → log ≡ [] → owners ≡ replicate (f.stripes + f.stores) 0 → spoilt ≡ replicate f.stores false → away ≡ replicate f.stores false
    → rows ≡ first ∷ [] → caller_of [] first ≡ first_caller → IsCore (record { frame = f; log = log; owners = owners; spoilt = spoilt; away = away; callers = map (caller_of log) rows })
built f frame log owners spoilt away rows first l o s a r c =
    subst IsCore (λ t. record { frame = f; log = sym l t; owners = sym o t; spoilt = sym s t; away = sym a t; callers = sym (callers) t }) (first_sound f frame)
  where
    callers : map (caller_of log) rows ≡ first_caller ∷ []
    callers = ap (λ (es : List Entry). map (caller_of es) rows) l ∙ ap (λ (rs : List Row). map (caller_of []) rs) r ∙ ap (λ (v : Caller). v ∷ []) c

take_nil : {A : Type 0} (n : ℕ) → take {A = A} n [] ≡ []
take_nil zero = refl
take_nil (suc n) = refl

pub filled : {A : Type 0} (xs old : List A) (n len : ℕ) (a : A) → xs ≡ take n old ++ replicate (n - len) a → old ≡ [] → len ≡ 0 → xs ≡ replicate n a
filled xs old n len a e empty nil_len = let room : n - len ≡ n = omega arith in
    e ∙ ap (λ os. take n os ++ replicate (n - len) a) empty ∙ ap (λ os. os ++ replicate (n - len) a) (take_nil n) ∙ ap (λ k. replicate k a) room
