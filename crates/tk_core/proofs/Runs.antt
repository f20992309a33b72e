-- The start meets the rule, and so does each state that moves lead to.
use Rattle.std.proofs.Common.{◌≡◌, ℕ, zero, suc, ◌-◌, ◌<◌, Bool, true, false, List, [], ◌∷◌, refl, sym, ap, ◌∙◌, subst, arith}
use mathlib.Core.Logic.{dite}
use native.Mathlib.Decide.{dec_le}
use mathlib.Core.Option.{some, some-injective, some-ne-none}
use lib.ListN.{get_elem?}
use Rattle.tk_model.specs.declared.record.Pair.{Pair}
use Rattle.tk_model.specs.declared.record.Group.{Group}
use Rattle.tk_core.specs.declared.frame.Frame.{Frame}
use Rattle.tk_core.specs.declared.moves.Move.{Move}
use Rattle.tk_core.specs.declared.moves.Move.TheVariants as moves
use Rattle.tk_core.specs.Caller.{Caller}
use Rattle.tk_core.specs.Lists.{put}
use Rattle.tk_core.specs.Covers.{IsFrame, store_lock}
use Rattle.tk_core.specs.Needs.{MayTake, MayPutBack}
use Rattle.tk_core.specs.Rule.{Knows, groups_of, hard_groups}
use Rattle.tk_core.specs.States.{State, IsSound, IsCaller, after_take_stripe, after_take_store, after_give_stripe, after_give_store, after_back}
use Rattle.tk_core.specs.Steps.{Takes, Gives, Steps, Runs, first_caller, start, MayStart}
use Rattle.tk_core.proofs.Facts.{nothing_below, put_at, put_off, prefix_self}
use Rattle.tk_core.proofs.Locks.{takes_stripe, takes_store, misses, gives_stripe, gives_store, looks}
use Rattle.tk_core.proofs.Stores.{takes_out, puts_back}
use Rattle.tk_core.proofs.Commits.{commits}
use Rattle.tk_core.proofs.Halves.{splits, joins}

pub backs : (f : Frame) (s : State) (id : ℕ) (v : Caller) (i : ℕ) (is_broken : Bool) (now : List Group → ℕ → Bool) → IsSound f s → IsCaller s id v
    → MayPutBack f s.first s.log (λ gs n. now gs n ≡ true) i is_broken v → IsSound f (after_back id v i is_broken now s)
backs f s id v i is_broken now sound at may =
    puts_back _ _ _ _ _ _ _ _ _ sound id v at (λ q gs n. put s.stands i now q gs n ≡ true) i is_broken
    record {
      live = may.live;
      store = may.store;
      out = may.out;
      stays = may.stays;
      stands = λ e. ap (λ (F : List Group → ℕ → Bool). F (groups_of f s.first s.log i) (hard_groups f s.first s.log i)) (put_at s.stands i now i refl) ∙ may.stands e;
    }
    (λ q ne gs n h. ap (λ (F : List Group → ℕ → Bool). F gs n) (put_off s.stands i now q ne) ∙ h)

module _ (f : Frame) (s t : State) (sound : IsSound f s) where
  to : (u : State) → t ≡ u → IsSound f u → IsSound f t
  to u e h = subst (IsSound f) (sym e) h

  take : (id l : ℕ) → Takes f s t id l → IsSound f t
  take id l x = dite (dec_le f.stripes l)
      (λ high. let i : ℕ = l - f.stripes in let e : l ≡ store_lock f i = omega arith in
      to (after_take_store f id x.caller i s) (x.store i e) (takes_store _ _ _ _ _ _ _ _ _ sound id x.caller x.is_caller i (subst (λ (z : ℕ). MayTake f s.owner z x.caller) e x.needs)))
      (λ low. let less : l < f.stripes = omega arith in to (after_take_stripe id x.caller l s) (x.stripe less) (takes_stripe _ _ _ _ _ _ _ _ _ sound id x.caller x.is_caller l less x.needs))

  give : (id l : ℕ) → Gives f s t id l → IsSound f t
  give id l x = dite (dec_le f.stripes l)
      (λ high. let i : ℕ = l - f.stripes in let e : l ≡ store_lock f i = omega arith in let g = x.store i e in
      to (after_give_store f id x.caller i s) g.1 (gives_store _ _ _ _ _ _ _ _ _ sound id x.caller x.is_caller i g.0))
      (λ low. let less : l < f.stripes = omega arith in let g = x.stripe less in to (after_give_stripe id x.caller l s) g.1 (gives_stripe _ _ _ _ _ _ _ _ _ sound id x.caller x.is_caller l g.0))

  pub step : (x : Move) → Steps f x s t → IsSound f t
  step (moves.Take id l) x = take id l x
  step (moves.Miss id l) x = to _ x.after (misses _ _ _ _ _ _ _ _ _ sound id x.caller x.is_caller l x.needs)
  step (moves.Commit id e) x = to _ x.after (commits _ _ _ _ _ _ _ _ _ sound id x.caller x.is_caller e x.needs)
  step (moves.Give id l) x = give id l x
  step (moves.Look id) x = to _ x.after (looks _ _ _ _ _ _ _ _ _ sound id x.caller x.is_caller x.needs)
  step (moves.Out id i) x = to _ x.after (takes_out _ _ _ _ _ _ _ _ _ sound id x.caller x.is_caller i x.needs)
  step (moves.Back id i is_broken) x = to _ x.after (backs f s id x.caller i is_broken x.now sound x.is_caller x.needs)
  step (moves.Split id) x = to _ x.after (splits _ _ _ _ _ _ _ _ _ sound id x.caller x.is_caller (x.needs.live, x.needs.held))
  step (moves.Join id other) x = to _ x.after (joins _ _ _ _ _ _ _ _ _ sound id x.caller x.is_caller other x.gone x.is_gone x.needs)

pub run : (f : Frame) (xs : List Move) (s t : State) → IsSound f s → Runs f xs s t → IsSound f t
run f [] s t sound e = subst (IsSound f) (sym e) sound
run f (x ∷ xs) s t sound r = run f xs r.0 t (step f s r.0 sound x r.1) r.2

first_knows : (f : Frame) (law : List Pair → Type 0) (m : List Pair) (stands : ℕ → List Group → ℕ → Type 0) (j : ℕ) → Knows f law m [] (λ _. 0) (λ _. false) (λ _. false) stands j first_caller
first_knows f law m stands j = record {
  spent = λ e. absurd cc;
  owns = λ l h. absurd cc;
  seen = prefix_self [];
  base = prefix_self [];
  placed = tt;
  weighs = λ l h. absurd cc;
  heavy = λ i h. absurd (omega arith);
  still = record { records = λ _ _. refl; groups = λ _ _ _. refl; hard = λ _ _ _. refl };
  out = λ i. refl;
  wants = λ l e. absurd (cc (e));
  met = λ i h. absurd cc;
  found = λ i h b. absurd cc;
  breaking = λ i h. absurd cc;
}

alone : (K : ℕ → Caller → Type 0) → ((j : ℕ) → K j first_caller) → (j : ℕ) (v : Caller) → get_elem? (first_caller ∷ []) j ≡ some v → K j v
alone K k zero v e = subst (K 0) (some-injective first_caller v e) (k 0)
alone K k (suc j) v e = absurd (some-ne-none v (sym e))

pub starts : (f : Frame) (law : List Pair → Bool) (m : List Pair) (stands : ℕ → List Group → ℕ → Bool) → IsFrame f → MayStart f law m stands → IsSound f (start law m stands)
starts f law m stands frame may = record {
  frame = frame;
  history = record { rising = may.rising; calls = refl; along = may.lawful };
  holder = λ l j e. absurd (omega arith);
  once = nothing_below;
  made = refl;
  weights = omega arith;
  knows = alone (Knows f (λ n. law n ≡ true) m [] (λ _. 0) (λ _. false) (λ _. false) (λ i gs n. stands i gs n ≡ true)) (first_knows f (λ n. law n ≡ true) m (λ i gs n. stands i gs n ≡ true));
  home = λ i e. refl;
  stores = λ i low good here. may.empty i low;
  tally = λ i. refl;
}
