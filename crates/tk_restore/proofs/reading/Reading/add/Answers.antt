use Rattle.std.proofs.Common.{◌∙◌, refl}
use Rattle.tk_restore.proofs.Knowing.{knows_ended, knows_first, knows_on}
use Rattle.tk_restore.proofs.reading.Reading.add.Goals as goal

pub returns-then-block : goal.returns-then-block
returns-then-block c w extent knows =
    knows_ended c.args.self.now _ w _ _ knows c.if-block.true refl (c.in_ok-complete.ensures.live ∙ c.in_ok-add_change.ensures.all) c.in_ok-complete.ensures.begun refl refl

pub returns-then-is_none : goal.returns-then-is_none
returns-then-is_none c w extent knows =
    let more = c.in_ok-add_change.ensures.more c.if-block.false in
    knows_first c.args.self.now _ w _ _ knows c.if-block.false refl more.1 more.0 refl c.if-is_none.ensures refl

pub returns-else-is_none : goal.returns-else-is_none
returns-else-is_none c w extent knows =
    let more = c.in_ok-add_change.ensures.more c.if-block.false in
    knows_on c.args.self.now _ w _ _ knows c.if-block.false refl more.1 more.0 refl c.if-is_none.ensures refl
