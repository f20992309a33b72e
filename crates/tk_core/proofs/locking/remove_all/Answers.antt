use Rattle.std.proofs.Common.{rules, not, ◌==◌, ◌∙◌}
use Rattle.std.proofs.lemmas.Fn.{filter_same}
use Rattle.tk_core.proofs.LockRows.{filter_without}
use Rattle.tk_core.proofs.locking.remove_all.Goals as goal

pub returns : goal.returns
returns c = filter_same _ (λ y. not (y == c.args.number)) _ (λ x b f' k. search rules) _ _ c.retain.ensures.filtered ∙ filter_without c.args.number c.args.list.now.items
