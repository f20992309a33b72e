-- Callers that wait for one another.
use Rattle.std.specs.Prelude.{◌≡◌, ℕ, true, List, [], ◌∷◌, Some}
use mathlib.Core.Option.{some}
use lib.ListN.{get_elem?}
use Rattle.tk_core.specs.Lists.{has}
use Rattle.tk_core.specs.Caller.{Caller}

-- caller i wants a lock that caller j holds
pub record WaitsFor (callers : List Caller) (i j : ℕ) : Type 0 where
  pub lock : ℕ
  pub waiter : Caller
  pub is_waiter : get_elem? callers i ≡ some waiter
  pub wants : waiter.want ≡ Some lock
  pub holder : Caller
  pub is_holder : get_elem? callers j ≡ some holder
  pub holds : has lock holder.held ≡ true

-- i waits for the first of these callers, each of them for the next, and the last for j
abbrev pub Chain : List Caller → ℕ → List ℕ → ℕ → Type 0
Chain callers i [] j = WaitsFor callers i j
Chain callers i (x ∷ xs) j = WaitsFor callers i x × Chain callers x xs j

-- each of these callers waits for the next, and the last for the first
abbrev pub Ring : List Caller → List ℕ → Type 0
Ring callers [] = ⊥
Ring callers (i ∷ xs) = Chain callers i xs i

abbrev pub HasNoRing : List Caller → Type 0
HasNoRing callers = (ids : List ℕ) → Ring callers ids → ⊥
