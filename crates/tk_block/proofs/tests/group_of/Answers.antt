use Rattle.std.proofs.Common.{◌∙◌, ◌++◌, ℕ, List, ap}
use Rattle.tk_block.specs.Blocks.{group_bodies}
use Rattle.tk_block.specs.Layout.{laid}
use Rattle.tk_block.specs.Renumber.{unchecked_texts}
use Rattle.tk_block.proofs.tests.group_of.Goals as goal

pub renumber-requires : goal.renumber-requires
renumber-requires c = record {
  number = 0;
  changes = c.in_ok-changes.changes;
  links = c.push.new.self;
  small = c.in_ok-changes.ensures.small;
  fits = c.in_ok-changes.ensures.end;
  spelled =
      c.in_ok-write_unnumbered.ensures.ok
      ∙ ap (λ (l : List ℕ). l ++ unchecked_texts (laid 8256 (group_bodies 0 c.in_ok-changes.changes)) c.push.new.self) c.new-text.ensures;
}
