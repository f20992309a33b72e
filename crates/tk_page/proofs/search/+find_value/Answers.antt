use Rattle.std.proofs.Common.{◌∙◌, sym, arith}
use Rattle.tk_page.proofs.Searching.{front_shorter, behind_shorter, value_front_rises, value_behind_rises, value_front, value_middle, value_behind}
use Rattle.tk_page.proofs.search.+find_value.Goals as goal

pub find_value-requires : goal.find_value-requires
find_value-requires t c = (omega (arith, front_shorter _ _ _ _ c.in-Some.ensures.found, c.decreases), value_front_rises c.args.order.now c.args.key.now _ _ _ _ c.in-Some.ensures.found c.requires)

pub find_value-requires-in-Greater : goal.find_value-requires-in-Greater
find_value-requires-in-Greater t c = (omega (arith, behind_shorter _ _ _ _ c.in-Some.ensures.found, c.decreases), value_behind_rises c.args.order.now c.args.key.now _ _ _ _ c.in-Some.ensures.found c.requires)

pub returns-in-Less : goal.returns-in-Less
returns-in-Less t c = c.find_value.ensures ∙ value_front c.args.order.now c.args.key.now _ _ _ _ c.in-Some.ensures.found c.requires (sym c.in-Less.ensures.value)

pub returns-in-Equal : goal.returns-in-Equal
returns-in-Equal t c = value_middle c.args.order.now c.args.key.now _ _ _ _ c.in-Some.ensures.found c.requires (sym c.in-Equal.ensures.value)

pub returns-in-Greater : goal.returns-in-Greater
returns-in-Greater t c = c.find_value-in-Greater.ensures ∙ value_behind c.args.order.now c.args.key.now _ _ _ _ c.in-Some.ensures.found c.requires (sym c.in-Greater.ensures.value)
