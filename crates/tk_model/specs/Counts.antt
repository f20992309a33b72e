-- Counts of faults, and what an answer says of them.
use Rattle.std.specs.Prelude.{◌≡◌, ◌≢◌, ℕ, ◌+◌, ◌-◌, ◌^◌, ◌≤◌, min, Result, IfErr, OnOk, OnErr, IsErrOf}

-- a count that never falls and stands at its greatest number
abbrev pub capped : ℕ → ℕ
capped n = min n (2 ^ 64 - 1)

-- the count rose, or stands at its greatest number
abbrev pub Rose : ℕ → ℕ → Type 0
Rose before now = capped (before + 1) ≤ now

-- the count never falls; this error comes only where it rose, and success leaves it
pub record HasCause {T E : Type 0} (error : E) (before now : ℕ) (result : Result T E) : Type 0 where
  pub later : before ≤ now
  pub fault : IsErrOf result error → Rose before now
  pub kept : OnOk result (now ≡ before)

-- the same, and each other error leaves the count too
pub record HasExactCause {T E : Type 0} (error : E) (before now : ℕ) (result : Result T E) : Type 0 where
  pub later : before ≤ now
  pub fault : IsErrOf result error → Rose before now
  pub other : IfErr result (λ e. e ≢ error → now ≡ before)
  pub kept : OnOk result (now ≡ before)

-- the same, and there is no other error
pub record HasOnlyCause {T E : Type 0} (error : E) (before now : ℕ) (result : Result T E) : Type 0 where
  pub later : before ≤ now
  pub failed : OnErr result (Rose before now)
  pub only : IfErr result (λ e. e ≡ error)
  pub kept : OnOk result (now ≡ before)
