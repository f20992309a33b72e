-- What a list of places holds under a name.
use Rattle.std.specs.Prelude.{◌≡◌, ◌≢◌, ℕ, zero, suc, List, [], ◌∷◌, Option, None, Some, string_bytes, if◌then◌else◌}
use Rattle.std.specs.Str.{bytes_eq}
use Rattle.tk_disk.specs.declared.places.Place.{Place}

-- what the first place of the name holds
abbrev pub held_at : {T : Type 0} → List (Place T) → List ℕ → Option T
held_at [] name = None
held_at (p ∷ ps) name = if bytes_eq (string_bytes p.name) name then Some p.held else held_at ps name

-- the first place of the name is at i
abbrev pub IsNamed : {T : Type 0} → List (Place T) → ℕ → List ℕ → Type 0
IsNamed [] i name = ⊥
IsNamed (p ∷ ps) zero name = string_bytes p.name ≡ name
IsNamed (p ∷ ps) (suc i) name = (string_bytes p.name ≢ name) × IsNamed ps i name

-- no place has the name
abbrev pub IsAbsent : {T : Type 0} → List (Place T) → List ℕ → Type 0
IsAbsent [] name = Unit {0}
IsAbsent (p ∷ ps) name = (string_bytes p.name ≢ name) × IsAbsent ps name
