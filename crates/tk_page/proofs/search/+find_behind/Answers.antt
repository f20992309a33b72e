use Rattle.std.proofs.Common.{◌∙◌, sym, ap, arith}
use Rattle.std.specs.Ordering.{is_gt}
use Rattle.tk_page.proofs.Searching.{front_shorter, behind_shorter, child_front_rises, child_behind_rises, child_front, child_more}
use Rattle.tk_page.proofs.search.+find_behind.Goals as goal

pub find_behind-requires : goal.find_behind-requires
find_behind-requires t c = (omega (arith, front_shorter _ _ _ _ c.in-Some.ensures.found, c.decreases), child_front_rises c.args.order.now c.args.key.now c.args.first _ _ _ _ c.in-Some.ensures.found c.requires)

pub find_behind-requires-else-is_gt : goal.find_behind-requires-else-is_gt
find_behind-requires-else-is_gt t c = (omega (arith, behind_shorter _ _ _ _ c.in-Some.ensures.found, c.decreases), child_behind_rises c.args.order.now c.args.key.now c.args.first _ _ _ _ c.in-Some.ensures.found c.requires)

pub returns-then-is_gt : goal.returns-then-is_gt
returns-then-is_gt t c = c.find_behind.ensures ∙ child_front c.args.order.now c.args.key.now c.args.first _ _ _ _ c.in-Some.ensures.found c.requires (ap is_gt (sym c.compare.ensures.value) ∙ sym c.is_gt.ensures ∙ c.if-is_gt.true)

pub returns-else-is_gt : goal.returns-else-is_gt
returns-else-is_gt t c = c.find_behind-else-is_gt.ensures ∙ child_more c.args.order.now c.args.key.now c.args.first _ _ _ _ c.in-Some.ensures.found c.requires (ap is_gt (sym c.compare.ensures.value) ∙ sym c.is_gt.ensures ∙ c.if-is_gt.false)
