-- Along a ring of waiting callers the wanted locks would rise without end.
use Rattle.std.proofs.Common.{◌≡◌, ℕ, ◌<◌, Bool, List, [], ◌∷◌, Some, sym, ap, ◌∙◌, arith}
use mathlib.Core.Option.{some, some-injective}
use lib.ListN.{get_elem?}
use Rattle.tk_model.specs.declared.record.Pair.{Pair}
use Rattle.tk_model.specs.declared.record.Group.{Group}
use Rattle.tk_model.specs.declared.record.Entry.{Entry}
use Rattle.tk_core.specs.declared.frame.Frame.{Frame}
use Rattle.tk_core.specs.Lists.{has}
use Rattle.tk_core.specs.Caller.{Caller}
use Rattle.tk_core.specs.Rule.{Sound}
use Rattle.tk_core.specs.Rings.{WaitsFor, Chain, HasNoRing}

module _ (f : Frame) (law : List Pair → Type 0) (m : List Pair) (log : List Entry) (owner : ℕ → ℕ) (spoilt away : ℕ → Bool) (stands : ℕ → List Group → ℕ → Type 0) (callers : List Caller)
    (sound : Sound f law m log owner spoilt away stands callers) where
  -- who holds a lock that another wants, wants a greater one
  step : (i j : ℕ) (w : WaitsFor callers i j) (l : ℕ) (v : Caller) → get_elem? callers j ≡ some v → v.want ≡ Some l → w.lock < l
  step i j w l v at wants =
      let same : w.holder ≡ v = some-injective _ _ (sym w.is_holder ∙ at) in
      (sound.knows j v at).wants l wants w.lock (ap (λ (u : Caller). has w.lock u.held) (sym same) ∙ w.holds)

  abbrev first : (i : ℕ) (xs : List ℕ) (j : ℕ) → Chain callers i xs j → (l : ℕ) × (v : Caller) × (get_elem? callers i ≡ some v) × (v.want ≡ Some l)
  first i [] j c = (c.lock, c.waiter, c.is_waiter, c.wants)
  first i (x ∷ xs) j c = (c.0.lock, c.0.waiter, c.0.is_waiter, c.0.wants)

  climbs : (i : ℕ) (xs : List ℕ) (j : ℕ) (c : Chain callers i xs j) (l : ℕ) (v : Caller) → get_elem? callers j ≡ some v → v.want ≡ Some l → (first i xs j c).0 < l
  climbs i [] j c l v at wants = step i j c l v at wants
  climbs i (x ∷ xs) j c l v at wants =
      let next = first x xs j c.1 in
      let one : c.0.lock < next.0 = step i x c.0 next.0 next.1 next.2 next.3 in
      let rest : next.0 < l = climbs x xs j c.1 l v at wants in omega arith

  pub no_ring : HasNoRing callers
  no_ring [] r = r
  no_ring (i ∷ xs) c = let w = first i xs i c in let up : w.0 < w.0 = climbs i xs i c w.0 w.1 w.2 w.3 in absurd (omega arith)
