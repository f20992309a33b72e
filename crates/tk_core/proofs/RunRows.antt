-- A list of moves is done one after the other.
use Rattle.std.proofs.Common.{◌≡◌, ℕ, zero, suc, ◌-◌, ◌<◌, Bool, true, false, List, [], ◌∷◌, length, get_or, take, drop, refl, sym, ap, ◌∙◌, subst, arith}
use Rattle.tk_core.specs.declared.frame.Frame.{Frame}
use Rattle.tk_core.specs.declared.moves.Move.{Move}
use Rattle.tk_core.specs.declared.moves.Move.TheVariants as moves
use Rattle.tk_model.specs.OrderedRecords.{OrderedRecords}
use Rattle.tk_core.specs.Commits.{records_of}
use Rattle.tk_core.specs.Covers.{store_lock}
use mathlib.Core.Logic.{dite}
use native.Mathlib.Decide.{dec_le}
use Rattle.tk_core.specs.Program.{CoreState, IsCore, IsAnswer, state_of}
use Rattle.tk_core.specs.Rings.{HasNoRing}
use Rattle.tk_core.specs.Rule.{map_after}
use Rattle.tk_core.specs.States.{State, IsSound, after_take_stripe, after_take_store, after_miss, after_give_stripe, after_give_store, after_look, after_out, after_back, after_split, after_join}
use Rattle.tk_core.specs.Steps.{Takes, Gives, Steps, Runs, RunsFar}
use Rattle.tk_core.proofs.Rings as rings
use Rattle.tk_core.proofs.Runs.{run}

-- one more move
pub runs_more : (f : Frame) (xs : List Move) (n : ℕ) (x : Move) (s t u : State) → n < length xs → x ≡ get_or xs n x → Runs f (take n xs) s t → Steps f x t u → Runs f (take (suc n) xs) s u
runs_more f [] n x s t u low is r step = absurd (omega arith)
runs_more f (y ∷ ys) zero x s t u low is r step = (u, subst (λ (z : Move). Steps f z s u) is (subst (λ (z : State). Steps f x z u) r step), refl)
runs_more f (y ∷ ys) (suc n) x s t u low is r step = (r.0, r.1, runs_more f ys n x r.0 t u (omega arith) is r.2 step)

-- what moves lead to meets the rule, and has no ring
pub record IsReached (d : CoreState) : Type 0 where
  pub sound : IsSound d.frame (state_of d)
  pub no_ring : HasNoRing d.callers

pub reached : (c d : CoreState) (xs : List Move) → IsCore c → d.frame ≡ c.frame → Runs c.frame xs (state_of c) (state_of d) → IsReached d
reached c d xs is same r =
    let sound : IsSound d.frame (state_of d) = subst (λ (f : Frame). IsSound f (state_of d)) (sym same) (run c.frame xs (state_of c) (state_of d) is.sound r) in
    record { sound = sound; no_ring = rings.no_ring _ _ _ _ _ _ _ _ _ sound }

pub same_reached : (c d : CoreState) → d ≡ c → IsReached c → IsReached d
same_reached c d e r = subst IsReached (sym e) r

next_is : (xs : List Move) (n : ℕ) (x y : Move) (rest : List Move) → n < length xs → x ≡ get_or xs n x → drop n xs ≡ y ∷ rest → y ≡ x
next_is [] n x y rest low is e = absurd (omega arith)
next_is (z ∷ zs) zero x y rest low is e = let h : z ≡ y = cc in cc
next_is (z ∷ zs) (suc n) x y rest low is e = next_is zs n x y rest (omega arith) is e

-- a list stops at a move that is refused
pub stopped : (xs : List Move) (n : ℕ) (x : Move) (old c d : CoreState) (b : Bool) → n < length xs → x ≡ get_or xs n x → c.frame ≡ old.frame → Runs old.frame (take n xs) (state_of old) (state_of c) → IsAnswer x c d b → b ≡ false
    → RunsFar old.frame xs (state_of old) (state_of d) n
stopped xs n x old c d b low is frame runs answer off =
    let same : d ≡ c = (answer.refused off).0 in record {
      within = omega arith;
      done = subst (λ (s : CoreState). Runs old.frame (take n xs) (state_of old) (state_of s)) (sym same) runs;
      stops = λ y rest e u steps. (answer.refused off).1 u (subst (λ (f : Frame). Steps f x (state_of c) u) (sym frame)
          (subst (λ (z : Move). Steps old.frame z (state_of c) u) (next_is xs n x y rest low is e) (subst (λ (s : CoreState). Steps old.frame y (state_of s) u) same steps)));
    }

-- ---- only a commit changes the history

abbrev pub IsOther : Move → Type 0
IsOther (moves.Commit id e) = ⊥
IsOther (moves.Take id l) = Unit {0}
IsOther (moves.Miss id l) = Unit {0}
IsOther (moves.Give id l) = Unit {0}
IsOther (moves.Look id) = Unit {0}
IsOther (moves.Out id i) = Unit {0}
IsOther (moves.Back id i is_broken) = Unit {0}
IsOther (moves.Split id) = Unit {0}
IsOther (moves.Join id other) = Unit {0}

module _ (f : Frame) (s t : State) where
  same_log : (u : State) → t ≡ u → t.log ≡ u.log
  same_log u e = ap (λ (z : State). z.log) e

  taken : (id l : ℕ) → Takes f s t id l → t.log ≡ s.log
  taken id l x = dite (dec_le f.stripes l)
      (λ high. let i : ℕ = l - f.stripes in let e : l ≡ store_lock f i = omega arith in same_log (after_take_store f id x.caller i s) (x.store i e))
      (λ low. let less : l < f.stripes = omega arith in same_log (after_take_stripe id x.caller l s) (x.stripe less))

  given : (id l : ℕ) → Gives f s t id l → t.log ≡ s.log
  given id l x = dite (dec_le f.stripes l)
      (λ high. let i : ℕ = l - f.stripes in let e : l ≡ store_lock f i = omega arith in same_log (after_give_store f id x.caller i s) (x.store i e).1)
      (λ low. let less : l < f.stripes = omega arith in same_log (after_give_stripe id x.caller l s) (x.stripe less).1)

  log_stays : (x : Move) → IsOther x → Steps f x s t → t.log ≡ s.log
  log_stays (moves.Commit id e) o x = absurd o
  log_stays (moves.Take id l) o x = taken id l x
  log_stays (moves.Give id l) o x = given id l x
  log_stays (moves.Miss id l) o x = same_log (after_miss id x.caller l s) x.after
  log_stays (moves.Look id) o x = same_log (after_look id x.caller s) x.after
  log_stays (moves.Out id i) o x = same_log (after_out id x.caller i s) x.after
  log_stays (moves.Back id i is_broken) o x = same_log (after_back id x.caller i is_broken x.now s) x.after
  log_stays (moves.Split id) o x = same_log (after_split id x.caller s) x.after
  log_stays (moves.Join id other) o x = same_log (after_join id other x.caller x.gone s) x.after

-- so the records stay those after the history in every other move
pub records_stay : (x : Move) → IsOther x → (c d : CoreState) (r : OrderedRecords) (b : Bool) → r ≡ records_of c → IsAnswer x c d b → b ≡ true → r ≡ records_of d
records_stay x other c d r b is answer done =
    let log : d.log ≡ c.log = log_stays c.frame (state_of c) (state_of d) x other (answer.done done) in
    is ∙ (λ t. record { order = (sym answer.frame t).order; pairs = map_after (sym answer.frame t) [] (sym log t) })
