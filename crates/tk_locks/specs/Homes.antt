-- Lists of stores, and of slots with stores in them.
use Rattle.std.specs.Prelude.{List, [], ◌∷◌, Option, Some, None}
use Rattle.tk_locks.specs.declared.home.Home.{Home}

module _ {T : Type 0} where
  -- each store in its slot, unbroken
  abbrev pub homes_of : List T → List (Option (Home T))
  homes_of [] = []
  homes_of (x ∷ xs) = Some (record { store = x; broken = None }) ∷ homes_of xs

  -- what lies in the slots, in order
  abbrev pub at_home : List (Option (Home T)) → List (Home T)
  at_home [] = []
  at_home (None ∷ hs) = at_home hs
  at_home (Some h ∷ hs) = h ∷ at_home hs

  -- the stores alone
  abbrev pub bare : List (Option (Home T)) → List T
  bare [] = []
  bare (None ∷ hs) = bare hs
  bare (Some h ∷ hs) = h.store ∷ bare hs
