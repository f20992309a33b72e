use Rattle.std.proofs.Common.{refl, ◌∙◌, arith}
use Rattle.tk_block.proofs.Renumbering.{begins, block_next, goes_on, block_within, ends, text_fits}
use Rattle.tk_block.proofs.group.renumber.Goals as goal

pub loop-at-init : goal.loop-at-init
loop-at-init c = record { halfway = begins c.args.text.now c.args.place c.args.number; as_long = refl }

pub overflow_add-place : goal.overflow_add-place
overflow_add-place c = omega (arith, text_fits c.args.text.now c.args.place c.requires)

pub renumber_block-at-requires : goal.renumber_block-at-requires
renumber_block-at-requires c = block_next _ c.loop-at.text c.args.place c.args.number c.loop-at.at _ _ _ (c.loop-at.invariant.halfway _ _ _ c.requires.small c.requires.spelled) (omega arith)

pub overflow_add-at : goal.overflow_add-at
overflow_add-at c =
    let block = block_next _ c.loop-at.text c.args.place c.args.number c.loop-at.at _ _ _ (c.loop-at.invariant.halfway _ _ _ c.requires.small c.requires.spelled) (omega arith) in
    omega (arith, (block_within _ _ _ _ _ _ block c.renumber_block-at.ensures.block).1, text_fits c.args.text.now c.args.place c.requires)

pub loop-at-smaller : goal.loop-at-smaller
loop-at-smaller c =
    let block = block_next _ c.loop-at.text c.args.place c.args.number c.loop-at.at _ _ _ (c.loop-at.invariant.halfway _ _ _ c.requires.small c.requires.spelled) (omega arith) in
    omega (arith, (block_within _ _ _ _ _ _ block c.renumber_block-at.ensures.block).0)

pub loop-at-preserved : goal.loop-at-preserved
loop-at-preserved c = record {
  halfway = goes_on _ c.loop-at.text c.renumber_block-at.new.text c.args.place c.args.number c.loop-at.at c.renumber_block-at.result c.loop-at.invariant.halfway c.renumber_block-at.ensures.block (omega arith);
  as_long = c.renumber_block-at.ensures.length ∙ c.loop-at.invariant.as_long;
}

pub returns : goal.returns
returns c = ends _ c.loop-at.text c.args.place c.args.number c.loop-at.at c.loop-at.invariant.halfway (omega arith)
