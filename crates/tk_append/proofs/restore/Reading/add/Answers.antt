use Rattle.std.proofs.Common.{refl, ◌∙◌}
use Rattle.tk_append.proofs.Rereading.{knows_ended, knows_first, knows_on}
use Rattle.tk_append.proofs.restore.Reading.add.Goals as goal

pub returns-in_ok-push-2 : goal.returns-in_ok-push-2
returns-in_ok-push-2 c w extent knows =
    knows_ended c.args.self.now _ w _ _ _ knows c.if-block.true c.in_ok-change_of.ensures (c.replace-changes.ensures.value ∙ c.in_ok-push.ensures.ok) c.in_ok-push-2.ensures.ok (c.replace-changes.ensures.after ∙ c.new.ensures) refl refl

pub returns-then-is_none : goal.returns-then-is_none
returns-then-is_none c w extent knows =
    knows_first c.args.self.now _ w _ _ knows c.if-block.false c.in_ok-change_of.ensures c.in_ok-push.ensures.ok refl refl c.if-is_none.ensures refl

pub returns-else-is_none : goal.returns-else-is_none
returns-else-is_none c w extent knows =
    knows_on c.args.self.now _ w _ _ knows c.if-block.false c.in_ok-change_of.ensures c.in_ok-push.ensures.ok refl refl c.if-is_none.ensures refl
