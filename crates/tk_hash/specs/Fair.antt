-- What calls of a disk leave of a fair past.
use Rattle.std.specs.Prelude.{◌≡◌, ◌⊎◌, ℕ, ◌≤◌, List, ◌++◌}
use Rattle.tk_disk.specs.Past.{Past}
use Rattle.tk_model.specs.declared.record.Group.{Group}
use Rattle.tk_block.specs.declared.head.StaticHead.{StaticHead}
use Rattle.tk_append.specs.FairPast.{IsFairPast}

-- from one disk to the next: where the past is fair for these groups, it goes on to be fair for these and some more
pub record KeepsFair {D : Type 0} (past : D → Past) (moment : D → ℕ) (left_with : D → ℕ → Past × List ℕ → Type 0) (h : StaticHead) (groups more : List Group) (old new : D) : Type 0 where
  pub later : moment old ≤ moment new
  pub now : IsFairPast h groups (past old) → IsFairPast h (groups ++ more) (past new)
  pub since : IsFairPast h groups (past old) → (t : ℕ) (x : Past × List ℕ) → t ≤ moment old → left_with new t x → left_with old t x ⊎ IsFairPast h (groups ++ more) x.0
