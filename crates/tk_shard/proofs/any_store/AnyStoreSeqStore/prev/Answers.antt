use Rattle.std.proofs.Common.{subst}
use Rattle.tk_store.specs.Store.{IsWhole}
use Rattle.tk_shard.specs.AnyStore.{AnyStands}
use Rattle.tk_shard.proofs.Looking.{hash_looks, tiny_looks}
use Rattle.tk_shard.proofs.any_store.AnyStoreSeqStore.prev.Goals as goal

pub prev-requires : goal.prev-requires
prev-requires g c = record { whole = subst (IsWhole (AnyStands g.D.Disk.image g.D.Disk.may_leave g.D.Disk.past)) c.in-Hash.is c.requires.whole }

pub prev-requires-in-Tiny : goal.prev-requires-in-Tiny
prev-requires-in-Tiny g c = record { whole = subst (IsWhole (AnyStands g.D.Disk.image g.D.Disk.may_leave g.D.Disk.past)) c.in-Tiny.is c.requires.whole }

pub returns-in-Hash-clause-looks : goal.returns-in-Hash-clause-looks
returns-in-Hash-clause-looks g c = hash_looks g.D.Disk.image g.D.Disk.may_leave g.D.Disk.past g.D.Disk.moment g.D.Disk.left_since g.D.Disk.left_with g.D.Disk.taken_count c.args.self.now _ _ c.in-Hash.is c.prev.ensures.looks

pub returns-in-Tiny-clause-looks : goal.returns-in-Tiny-clause-looks
returns-in-Tiny-clause-looks g c = tiny_looks g.D.Disk.image g.D.Disk.may_leave g.D.Disk.past g.D.Disk.moment g.D.Disk.left_since g.D.Disk.left_with g.D.Disk.taken_count c.args.self.now _ _ c.in-Tiny.is c.prev-in-Tiny.ensures.looks
