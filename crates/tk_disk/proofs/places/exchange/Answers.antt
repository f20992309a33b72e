use Rattle.std.proofs.Common.{◌∙◌, sym, ap, Some}
use Rattle.tk_disk.proofs.Named.{named-held, set-held, set-others, same_name}
use Rattle.tk_disk.proofs.places.exchange.Goals as goal

pub returns-clause-old : goal.returns-clause-old
returns-clause-old g c = λ name h. named-held c.args.places.now c.args.i name c.index-places-i.result h ∙ ap Some (sym c.replace.ensures.value)

pub returns-clause-new : goal.returns-clause-new
returns-clause-new g c = λ name h. set-held c.args.places.now c.args.i name _ h (same_name c.args.places.now c.args.i name _ h) ∙ ap Some c.replace.ensures.after

pub returns-clause-others : goal.returns-clause-others
returns-clause-others g c = λ name h. set-others c.args.places.now c.args.i name _ h (same_name c.args.places.now c.args.i name _ h)
