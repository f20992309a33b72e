-- What a command finds and leaves.
use Rattle.std.specs.Prelude.{ℕ, List, Option}

pub record World : Type 0 where
  -- what the file at a name holds, where there is one
  pub files : List ℕ → Option (List ℕ)
  -- what the source has left, and what the sink holds, where they tell it
  pub left : Option (List ℕ)
  pub held : Option (List ℕ)
