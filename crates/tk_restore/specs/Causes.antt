-- The causes of a call that reads one disk and writes another.
use Rattle.std.specs.Prelude.{◌≡◌, ◌⊎◌, ℕ, ◌≤◌, Result, OnOk, IsErrOf}
use Rattle.tk_disk.specs.Disk.{Rose}
use Rattle.tk_model.specs.declared.error.OpenError.{OpenError}
use Rattle.tk_model.specs.declared.error.OpenError.TheVariants.{Fault}

-- neither count of faults falls, and a fault comes only where one of them rose
pub record HasEitherCause {T : Type 0} (first first_now second second_now : ℕ) (result : Result T OpenError) : Type 0 where
  pub later : (first ≤ first_now) × (second ≤ second_now)
  pub kept : OnOk result ((first_now ≡ first) × (second_now ≡ second))
  pub fault : IsErrOf result Fault → Rose first first_now ⊎ Rose second second_now
