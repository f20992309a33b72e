use Rattle.tk_disk.proofs.Named.{append-held, append-others}
use Rattle.tk_disk.proofs.places.append.Goals as goal

pub returns-clause-here : goal.returns-clause-here
returns-clause-here g c = rw c.in_ok-push.ensures.items (append-held c.args.places.now.items _ c.args.name.now c.requires c.in_ok-name.ensures.ok)

pub returns-clause-others : goal.returns-clause-others
returns-clause-others g c = rw c.in_ok-push.ensures.items (append-others c.args.places.now.items _ c.args.name.now c.in_ok-name.ensures.ok)
