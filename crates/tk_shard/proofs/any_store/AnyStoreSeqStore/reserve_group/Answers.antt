use Rattle.std.proofs.Common.{subst}
use Rattle.tk_store.specs.Store.{IsWhole}
use Rattle.tk_shard.specs.AnyStore.{AnyStands}
use Rattle.tk_shard.proofs.any_store.AnyStoreSeqStore.reserve_group.Goals as goal

pub reserve_group-requires-clause-whole : goal.reserve_group-requires-clause-whole
reserve_group-requires-clause-whole g c = subst (IsWhole (AnyStands g.D.Disk.image g.D.Disk.may_leave g.D.Disk.past)) c.in-Hash.is c.requires.whole

pub reserve_group-requires-in-Tiny-clause-whole : goal.reserve_group-requires-in-Tiny-clause-whole
reserve_group-requires-in-Tiny-clause-whole g c = subst (IsWhole (AnyStands g.D.Disk.image g.D.Disk.may_leave g.D.Disk.past)) c.in-Tiny.is c.requires.whole

pub returns-in-Hash-clause-stands : goal.returns-in-Hash-clause-stands
returns-in-Hash-clause-stands g c = rw c.in-Hash.is c.reserve_group.ensures.stands

pub returns-in-Hash-clause-since : goal.returns-in-Hash-clause-since
returns-in-Hash-clause-since g c = rw c.in-Hash.is c.reserve_group.ensures.since

pub returns-in-Hash-clause-safe : goal.returns-in-Hash-clause-safe
returns-in-Hash-clause-safe g c = rw c.in-Hash.is c.reserve_group.ensures.safe

pub returns-in-Tiny-clause-stands : goal.returns-in-Tiny-clause-stands
returns-in-Tiny-clause-stands g c = rw c.in-Tiny.is c.reserve_group-in-Tiny.ensures.stands

pub returns-in-Tiny-clause-since : goal.returns-in-Tiny-clause-since
returns-in-Tiny-clause-since g c = rw c.in-Tiny.is c.reserve_group-in-Tiny.ensures.since
