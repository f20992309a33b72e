use Rattle.std.proofs.Common.{◌≡◌, ◌-◌, ℕ, List, length}
use Rattle.tk_block.proofs.Renumbering.{AllHalfway}
use Rattle.tk_block.proofs.group.renumber.Given as goal

pub record Renumbering (old now : List ℕ) (place number at : ℕ) : Type 0 where
  pub halfway : AllHalfway old now place number at
  pub as_long : length now ≡ length old

abbrev pub invariant-loop-at : goal.invariant-loop-at
invariant-loop-at l = Renumbering l.fn.text l.text l.place l.number l.at

abbrev pub decreases-loop-at : goal.decreases-loop-at
decreases-loop-at l = length l.text - l.at
