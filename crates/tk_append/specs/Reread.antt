-- What a reading of an image knows.
use Rattle.std.specs.Prelude.{◌≡◌, ◌⊎◌, ℕ, ◌+◌, ◌≤◌, List, [], ◌∷◌, ◌++◌, length, drop, Some, None, option_map, if◌then◌else◌}
use Rattle.tk_model.specs.declared.record.Change.{Change}
use Rattle.tk_block.specs.Sizes.{body_offset}
use Rattle.tk_block.specs.Text.{head_at}
use Rattle.tk_block.specs.Blocks.{IsSmall, body_at, body_said}
use Rattle.tk_block.specs.Layout.{Placed}
use Rattle.tk_block.specs.declared.head.StaticHead.{StaticHead}
use Rattle.tk_append.specs.Opening.{Walk, change_in}
use Rattle.tk_append.specs.Walked.{least_behind, as_open}
use Rattle.tk_append.specs.Restored.{read_on, read_blocks, complete_groups}
use Rattle.tk_append.specs.declared.restore.Reading.{Reading}
use Rattle.tk_append.specs.declared.restore.Standing.{Standing}

-- at the front of the bytes there is no head or no body
abbrev pub NoneThere : (place : ℕ) (bytes : List ℕ) → Type 0
NoneThere place bytes = (head_at bytes place ≡ None) ⊎ (body_at (drop body_offset bytes) place ≡ None)

-- this extent and this body stand there
pub record IsThere (place : ℕ) (bytes : List ℕ) (s : Standing) : Type 0 where
  pub head : head_at bytes place ≡ Some s.extent
  pub body : body_at (drop body_offset bytes) place ≡ Some (body_said s.block)
  pub small : IsSmall s.block.key.now s.block.value.now

-- the changes of the group that blocks begin, behind those of one that is begun
abbrev pub left_over : (begun : List Change) → List Placed → List Change
left_over begun [] = begun
left_over begun (x ∷ xs) = if x.body.last then left_over [] xs else left_over (begun ++ change_in x.body ∷ []) xs

-- the reading knows what this walk over blocks says
pub record Knows (reading : Reading) (w : Walk) : Type 0 where
  pub groups : reading.groups ≡ complete_groups [] w.blocks
  pub begun : reading.begun ≡ left_over [] w.blocks
  pub least : w.least ≡ least_behind reading.before
  pub open_group : reading.open_group ≡ option_map as_open w.open_group

-- how far the reading of a file has come
pub record ReadUpto (h : StaticHead) (f : List ℕ) (place : ℕ) (reading : Reading) : Type 0 where
  pub w : Walk
  pub most : ℕ
  pub knows : Knows reading w
  pub enough : length f ≤ place + most
  pub rest : (read_on most w place (drop place f)).blocks ≡ read_blocks h f
