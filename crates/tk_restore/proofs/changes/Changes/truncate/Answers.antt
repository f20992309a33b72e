use Rattle.std.proofs.Common.{◌∙◌, List, sym, ap, subst, take}
use Rattle.tk_restore.specs.Changes.{changes_in, AllEntries}
use Rattle.tk_restore.proofs.Entries.{all_taken, changes_taken}
use Rattle.tk_restore.proofs.changes.Changes.truncate.Goals as goal

pub invariant_of-self : goal.invariant_of-self
invariant_of-self c = subst (AllEntries c.self.inside.bytes.items) (sym c.truncate.ensures.items) (all_taken c.self.inside.bytes.items c.args.count c.self.inside.entries.items c.self.invariant)

pub returns : goal.returns
returns c =
    ap (changes_in c.self.inside.bytes.items) c.truncate.ensures.items
    ∙ changes_taken c.self.inside.bytes.items c.args.count c.self.inside.entries.items
    ∙ ap (take c.args.count) c.self.view_is
