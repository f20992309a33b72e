use Rattle.std.proofs.Common.{◌≡◌, ℕ, ◌++◌, List, drop}
use Rattle.std.specs.Io.{StartsWith}
use Rattle.tk_model.specs.declared.record.Change.{Change}
use Rattle.tk_block.specs.Blocks.{AllSmall, group_bodies}
use Rattle.tk_block.specs.Layout.{laid, end_of}
use Rattle.tk_block.specs.Renumber.{unchecked_texts}
use Rattle.tk_block.proofs.group.write_unnumbered.Given as goal

-- what is written, and behind it the text of the changes that are left, is the whole
pub record Written (number : ℕ) (changes : List Change) (place : ℕ) (links first out : List ℕ) (at done : ℕ) : Type 0 where
  pub text : out ++ unchecked_texts (laid at (group_bodies number (drop done changes))) (drop done links) ≡ first ++ unchecked_texts (laid place (group_bodies number changes)) links
  pub end : end_of at (group_bodies number (drop done changes)) ≡ end_of place (group_bodies number changes)
  pub small : AllSmall (drop done changes)
  pub kept : StartsWith out first

abbrev pub invariant-loop-i : goal.invariant-loop-i
invariant-loop-i l = Written 0 l.changes l.place l.links l.fn.out l.out l.at l.i
