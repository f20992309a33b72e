use Rattle.std.proofs.Common.{subst}
use Rattle.tk_store.specs.Store.{IsWhole}
use Rattle.tk_shard.specs.AnyStore.{AnyStands}
use Rattle.tk_shard.proofs.Looking.{hash_looks, tiny_looks}
use Rattle.tk_shard.proofs.any_store.AnyStoreSeqStore.get_into.Goals as goal

pub get_into-requires : goal.get_into-requires
get_into-requires g c = record { whole = subst (IsWhole (AnyStands g.D.Disk.image g.D.Disk.may_leave g.D.Disk.past)) c.in-Hash.is c.requires.whole }

pub get_into-requires-in-Tiny : goal.get_into-requires-in-Tiny
get_into-requires-in-Tiny g c = record { whole = subst (IsWhole (AnyStands g.D.Disk.image g.D.Disk.may_leave g.D.Disk.past)) c.in-Tiny.is c.requires.whole }

pub returns-in-Hash-clause-looks : goal.returns-in-Hash-clause-looks
returns-in-Hash-clause-looks g c = hash_looks g.D.Disk.image g.D.Disk.may_leave g.D.Disk.past g.D.Disk.moment g.D.Disk.left_since g.D.Disk.left_with g.D.Disk.taken_count c.args.self.now _ _ c.in-Hash.is c.get_into.ensures.looks

pub returns-in-Tiny-clause-looks : goal.returns-in-Tiny-clause-looks
returns-in-Tiny-clause-looks g c = tiny_looks g.D.Disk.image g.D.Disk.may_leave g.D.Disk.past g.D.Disk.moment g.D.Disk.left_since g.D.Disk.left_with g.D.Disk.taken_count c.args.self.now _ _ c.in-Tiny.is c.get_into-in-Tiny.ensures.looks
