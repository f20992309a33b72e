-- The plain model of an updating file: its blocks, and where they begin.
use Rattle.std.specs.Prelude.{ℕ, List}
use Rattle.tk_block.specs.Layout.{Placed}

pub record BlocksFrom : Type 0 where
  pub base : ℕ
  pub blocks : List Placed
