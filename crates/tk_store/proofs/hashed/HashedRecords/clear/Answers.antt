use Rattle.std.proofs.Common.{◌∙◌, ap, length}
use Rattle.tk_store.specs.Hashed.{joined}
use Rattle.tk_store.proofs.Joined.{joined_none, empty_kept}
use Rattle.tk_store.proofs.hashed.HashedRecords.clear.Goals as goal

pub invariant_of-self : goal.invariant_of-self
invariant_of-self c =
    empty_kept c.self.inside.parting (length c.self.inside.buckets.items) c.clear_all.new.buckets.items c.self.invariant.power c.self.invariant.depth c.self.invariant.number c.clear_all.ensures

pub returns : goal.returns
returns c = ap joined c.clear_all.ensures ∙ joined_none (length c.self.inside.buckets.items)
