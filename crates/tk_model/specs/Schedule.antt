-- Which calls are to fail, and what was counted.
use Rattle.std.specs.Prelude.{ℕ, List}

pub record Schedule : Type 0 where
  -- the numbers of the calls that are to fail, counted from 0
  pub failing : List ℕ
  -- how many calls there were, which is the number of the next
  pub calls : ℕ
  -- how many failed
  pub faults : ℕ
