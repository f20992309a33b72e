use Rattle.tk_block.specs.Blocks.{body_said}
use Rattle.std.proofs.Common.{sym, subst, ◌∙◌}
use Rattle.tk_model.specs.Records.{after_one}
use Rattle.tk_model.specs.declared.record.Order.TheVariants.{Hash}
use Rattle.tk_append.specs.Keys.{HasKeys}
use Rattle.tk_append.specs.Opening.{records_in, change_in}
use Rattle.tk_append.proofs.WalkerSteps.{walked_on}
use Rattle.tk_append.proofs.walker.Walker.pass.Goals as goal

pub returns : goal.returns
returns c = record {
  walked = λ w next at of_kind further.
      walked_on c.args.p c.args.place next c.args.self.now c.turn_heads.new.self c.turn_group.new.self w (body_said c.args.found.now.block)
      at (subst (λ k. HasKeys k (after_one Hash (change_in (body_said c.args.found.now.block)) (records_in w.blocks))) (sym (c.turn_group.ensures.keys ∙ c.turn_heads.ensures.keys)) (c.in_ok-change_keys.ensures (records_in w.blocks) at.keys))
      (c.turn_heads.ensures.heads w.blocks at.heads of_kind next further) c.turn_heads.ensures.before c.turn_heads.ensures.open_group
      c.turn_group.ensures.heads c.turn_group.ensures.cleared c.turn_group.ensures.before c.turn_group.ensures.open_group;
}
