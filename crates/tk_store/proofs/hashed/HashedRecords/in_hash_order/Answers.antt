use Rattle.std.proofs.Common.{subst}
use Rattle.tk_model.specs.Records.{Rising}
use Rattle.tk_model.specs.declared.record.Order.TheVariants.{Hash}
use Rattle.tk_store.proofs.Joined.{joined_rising}
use Rattle.tk_store.proofs.hashed.HashedRecords.in_hash_order.Goals as goal

pub returns : goal.returns
returns c = subst (Rising Hash) c.self.view_is (joined_rising c.self.inside.parting 0 c.self.inside.buckets.items c.self.invariant.placed)
