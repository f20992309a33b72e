-- What a disk was written since the last hard synchronisation.
use Rattle.std.specs.Prelude.{◌≡◌, ◌⊎◌, ℕ, min, List, [], ◌∷◌, ◌++◌, length}

-- a write: its place and its bytes
pub record Write : Type 0 where
  pub at : ℕ
  pub bytes : List ℕ

-- what a read gave at the last hard synchronisation, the least length since, and each write that was begun since
pub record Past : Type 0 where
  pub fixed : List ℕ
  pub least : ℕ
  pub writes : List Write

abbrev pub with_write : ℕ → List ℕ → Past → Past
with_write at bytes p = record { fixed = p.fixed; least = p.least; writes = p.writes ++ record { at = at; bytes = bytes } ∷ [] }

abbrev pub with_cut : ℕ → Past → Past
with_cut n p = record { fixed = p.fixed; least = min n p.least; writes = p.writes }

abbrev pub settled_on : List ℕ → Past
settled_on f = record { fixed = f; least = length f; writes = [] }

-- a write, a cut, that failed may have begun
abbrev pub Writes : ℕ → List ℕ → (old new : Past) → Type 0
Writes at bytes old new = (new ≡ old) ⊎ (new ≡ with_write at bytes old)

abbrev pub Cuts : ℕ → (old new : Past) → Type 0
Cuts n old new = (new ≡ old) ⊎ (new ≡ with_cut n old)
