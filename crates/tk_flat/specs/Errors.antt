-- What the readers answer.
use Rattle.std.specs.Prelude.{◌≡◌, ◌⊎◌, ⊤, ℕ, Result, Err}
use Rattle.tk_flat.specs.declared.error.TextError.{TextError}
use Rattle.tk_flat.specs.declared.error.TextError.TheVariants.{At, NoMemory}

-- an error names such a place; want of memory names none
abbrev pub Names : (ℕ → Type 0) → TextError → Type 0
Names P (At place) = P place
Names P NoMemory = ⊤

-- the answer, or want of memory in its place
abbrev pub Answers : {A : Type 0} → Result A TextError → Result A TextError → Type 0
Answers wanted result = (result ≡ wanted) ⊎ (result ≡ Err NoMemory)
