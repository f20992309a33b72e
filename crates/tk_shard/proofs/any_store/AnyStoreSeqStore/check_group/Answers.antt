use Rattle.std.proofs.Common.{subst}
use Rattle.tk_store.specs.Store.{IsWhole}
use Rattle.tk_shard.specs.AnyStore.{AnyStands}
use Rattle.tk_shard.proofs.Looking.{hash_looks, tiny_looks}
use Rattle.tk_shard.proofs.any_store.AnyStoreSeqStore.check_group.Goals as goal

pub check_group-requires-clause-whole : goal.check_group-requires-clause-whole
check_group-requires-clause-whole g c = subst (IsWhole (AnyStands g.D.Disk.image g.D.Disk.may_leave g.D.Disk.past)) c.in-Hash.is c.requires.whole

pub check_group-requires-in-Tiny-clause-whole : goal.check_group-requires-in-Tiny-clause-whole
check_group-requires-in-Tiny-clause-whole g c = subst (IsWhole (AnyStands g.D.Disk.image g.D.Disk.may_leave g.D.Disk.past)) c.in-Tiny.is c.requires.whole

pub returns-in-Hash-clause-looks : goal.returns-in-Hash-clause-looks
returns-in-Hash-clause-looks g c = hash_looks g.D.Disk.image g.D.Disk.may_leave g.D.Disk.past g.D.Disk.moment g.D.Disk.left_since g.D.Disk.left_with g.D.Disk.taken_count c.args.self.now _ _ c.in-Hash.is c.check_group.ensures.looks

pub returns-in-Tiny-clause-looks : goal.returns-in-Tiny-clause-looks
returns-in-Tiny-clause-looks g c = tiny_looks g.D.Disk.image g.D.Disk.may_leave g.D.Disk.past g.D.Disk.moment g.D.Disk.left_since g.D.Disk.left_with g.D.Disk.taken_count c.args.self.now _ _ c.in-Tiny.is c.check_group-in-Tiny.ensures.looks
