-- How far the reading of an image has come.
use Rattle.std.specs.Prelude.{◌≡◌, ℕ, ◌+◌, ◌≤◌, List, ◌++◌, length}
use Rattle.tk_block.specs.Layout.{Placed}
use Rattle.tk_block.specs.declared.head.StaticHead.{StaticHead}
use Rattle.tk_update.specs.Restored.{seen_from, valid_blocks, blocks_in}

pub record ReadTo (h : StaticHead) (f : List ℕ) (place : ℕ) (blocks : List Placed) : Type 0 where
  pub most : ℕ
  pub enough : length f ≤ place + most
  pub rest : blocks ++ valid_blocks (seen_from most place f) ≡ blocks_in h f
