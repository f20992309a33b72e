-- What the calls of sources and sinks do.
use Rattle.std.specs.Prelude.{ℕ, List, take, Option, Result}
use Rattle.std.specs.Io.KnownBytes.{Appends}
use Rattle.tk_model.specs.Counts.{HasExactCause}
use Rattle.tk_io.specs.declared.stream.IoError.{IoError}
use Rattle.tk_io.specs.declared.stream.IoError.TheVariants.{Fault}

-- each error but a fault leaves the count
abbrev pub HasCause : {T : Type 0} → ℕ → ℕ → Result T IoError → Type 0
HasCause before now result = HasExactCause Fault before now result

-- known bytes grow by some front of bs
abbrev pub AppendsFront : Option (List ℕ) → Option (List ℕ) → List ℕ → Type 0
AppendsFront old new bs = (n : ℕ) × Appends old new (take n bs)
