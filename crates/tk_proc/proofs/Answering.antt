-- What runs of processors answer.
use Rattle.std.proofs.Common.{◌≡◌, ℕ, Bool, true, false, List, [], ◌∷◌, map, Option, Some, None, refl, sym, ap, subst, ◌∙◌, if◌then◌else◌}
use Rattle.tk_status.specs.declared.Status.TheVariants.{Success, NotFound, TooLong}
use Rattle.tk_model.specs.Records.{find, named, first_within, last_within, or_else, reaches, Rising}
use Rattle.tk_model.specs.Entries.{stored, written_keys}
use Rattle.tk_model.specs.declared.record.Order.{Order}
use Rattle.tk_model.specs.declared.record.Way.{Way}
use Rattle.tk_model.specs.declared.record.Way.TheVariants.{Up, Down}
use Rattle.tk_model.specs.declared.record.Bound.{Bound}
use Rattle.tk_model.specs.declared.record.Pair.{Pair}
use Rattle.tk_model.specs.declared.record.Touch.{Touch}
use Rattle.tk_model.specs.declared.record.Action.{Action}
use Rattle.tk_model.specs.Entries.{changes_of}
use Rattle.tk_proc.specs.Runs.{counted, is_long, first_long, kept, touches_by, status_by, keys_of, status_unless_long, run_touches, keys_entry, each_entry, run_status, run_state, each_status, found_status, found_state, next_status, next_state}
use Rattle.tk_proc.proofs.LegalRuns.{AllFound, all_found}

-- the first that is too long, of one
pub one_long : (b : Bool) (n : ℕ) → status_by (if b then Some n else None) ≡ (if b then TooLong n else Success)
one_long true n = refl
one_long false n = refl

none_written : (ks : List (List ℕ)) (m : List Pair) → written_keys (map (kept m) ks) ≡ []
none_written [] m = refl
none_written (k ∷ ks) m = none_written ks m

-- where a value is too long each touch keeps
long_keeps : (long : Option ℕ) (n : ℕ) (ks : List (List ℕ)) (m : List Pair) (ts : List Touch) → status_by long ≡ TooLong n → written_keys (touches_by long ks m ts) ≡ []
long_keeps None n ks m ts e = absurd (cc)
long_keeps (Some l) n ks m ts e = none_written ks m

-- ---- the record that a bound names is found

pick_found : (m : List Pair) (b : Bool) (p q : Pair) (rest : Option Pair) → find p.key m ≡ Some p.value → (rest ≡ Some q → find q.key m ≡ Some q.value) → (if b then Some p else rest) ≡ Some q → find q.key m ≡ Some q.value
pick_found m true p q rest here deeper e = let same : p ≡ q = cc in subst (λ (r : Pair). find r.key m ≡ Some r.value) same here
pick_found m false p q rest here deeper e = deeper e

first_found : (o : Order) (b : Bound) (m ps : List Pair) (q : Pair) → AllFound m ps → first_within o b ps ≡ Some q → find q.key m ≡ Some q.value
first_found o b m [] q found e = absurd (cc)
first_found o b m (p ∷ ps) q found e = pick_found m (reaches o Up b p.key) p q (first_within o b ps) found.0 (first_found o b m ps q found.1) e

or_found : (m : List Pair) (r : Option Pair) (b : Bool) (p q : Pair) → find p.key m ≡ Some p.value → (r ≡ Some q → find q.key m ≡ Some q.value) → or_else r (if b then Some p else None) ≡ Some q → find q.key m ≡ Some q.value
or_found m None b p q here deeper e = pick_found m b p q None here (λ none. absurd (cc)) e
or_found m (Some r) b p q here deeper e = deeper e

last_found : (o : Order) (b : Bound) (m ps : List Pair) (q : Pair) → AllFound m ps → last_within o b ps ≡ Some q → find q.key m ≡ Some q.value
last_found o b m [] q found e = absurd (cc)
last_found o b m (p ∷ ps) q found e = or_found m (last_within o b ps) (reaches o Down b p.key) p q found.0 (last_found o b m ps q found.1) e

named_found : (o : Order) (way : Way) (b : Bound) (m : List Pair) (q : Pair) → Rising o m → named o way b m ≡ Some q → find q.key m ≡ Some q.value
named_found o Up b m q rising e = first_found o b m m q (all_found o m rising) e
named_found o Down b m q rising e = last_found o b m m q (all_found o m rising) e

module _ {S : Type 0} (acts : S → List ℕ → Option (List ℕ) → Action) (turns : S → List ℕ → Option (List ℕ) → S) where
  pub one_status : (o : Order) (w : Bool) (s : S) (k : List ℕ) (m : List Pair) → run_status acts turns o w s (k ∷ []) m ≡ status_unless_long (counted w (acts s k (find k m)))
  one_status o w s k m = one_long (is_long (counted w (acts s k (find k m)))) (stored (counted w (acts s k (find k m))))

  pub keys_long : (o : Order) (w : Bool) (s : S) (ks : List (List ℕ)) (m : List Pair) (n : ℕ) → run_status acts turns o w s ks m ≡ TooLong n → changes_of o m (keys_entry acts turns o w s ks m) ≡ []
  keys_long o w s ks m n e = let ts : List Touch = run_touches acts turns o w s ks m in rw (long_keeps (first_long ts) n ks m ts e) refl

  pub each_long : (o : Order) (w : Bool) (s : S) (m : List Pair) (n : ℕ) → each_status acts turns o w s m ≡ TooLong n → changes_of o m (each_entry acts turns o w s m) ≡ []
  each_long o w s m n e = let ts : List Touch = run_touches acts turns o w (turns s [] None) (keys_of m) m in rw (long_keeps (first_long ts) n (keys_of m) m ts e) refl

  pub next_status_is : (o : Order) (w : Bool) (s : S) (way : Way) (b : Bound) (m : List Pair) (p : Pair) → Rising o m → named o way b m ≡ Some p
      → next_status acts turns o w s way b m ≡ run_status acts turns o w s (p.key ∷ []) m
  next_status_is o w s way b m p rising is =
      ap (λ (r : Option Pair). found_status acts turns w s r) is
      ∙ ap (λ (was : Option (List ℕ)). status_unless_long (counted w (acts s p.key was))) (sym (named_found o way b m p rising is)) ∙ sym (one_status o w s p.key m)

  pub next_state_is : (o : Order) (w : Bool) (s : S) (way : Way) (b : Bound) (m : List Pair) (p : Pair) → Rising o m → named o way b m ≡ Some p
      → next_state acts turns o s way b m ≡ run_state acts turns o w s (p.key ∷ []) m
  next_state_is o w s way b m p rising is =
      ap (λ (r : Option Pair). found_state acts turns s r) is ∙ ap (λ (was : Option (List ℕ)). turns s p.key was) (sym (named_found o way b m p rising is))

  pub none_status : (o : Order) (w : Bool) (s : S) (way : Way) (b : Bound) (m : List Pair) → named o way b m ≡ None → next_status acts turns o w s way b m ≡ NotFound
  none_status o w s way b m is = ap (λ (r : Option Pair). found_status acts turns w s r) is

  pub none_state : (o : Order) (s : S) (way : Way) (b : Bound) (m : List Pair) → named o way b m ≡ None → next_state acts turns o s way b m ≡ s
  none_state o s way b m is = ap (λ (r : Option Pair). found_state acts turns s r) is
