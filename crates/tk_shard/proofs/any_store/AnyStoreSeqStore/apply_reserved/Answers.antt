use Rattle.std.proofs.Common.{subst, List}
use Rattle.tk_model.specs.declared.record.Change.{Change}
use Rattle.tk_store.specs.Store.{IsWhole}
use Rattle.tk_shard.specs.AnyStore.{AnyStands, AnyReserved}
use Rattle.tk_shard.specs.declared.any_store.AnyStore.{AnyStore}
use Rattle.tk_shard.proofs.any_store.AnyStoreSeqStore.apply_reserved.Goals as goal

pub apply_reserved-requires-clause-whole : goal.apply_reserved-requires-clause-whole
apply_reserved-requires-clause-whole g c = subst (IsWhole (AnyStands g.D.Disk.image g.D.Disk.may_leave g.D.Disk.past)) c.in-Hash.is c.requires.whole

pub apply_reserved-requires-clause-reserved : goal.apply_reserved-requires-clause-reserved
apply_reserved-requires-clause-reserved g c = subst (λ (s : AnyStore _). (cs : List Change) × AnyReserved g.D.Disk.image s cs) c.in-Hash.is c.requires.reserved

pub apply_reserved-requires-in-Tiny-clause-whole : goal.apply_reserved-requires-in-Tiny-clause-whole
apply_reserved-requires-in-Tiny-clause-whole g c = subst (IsWhole (AnyStands g.D.Disk.image g.D.Disk.may_leave g.D.Disk.past)) c.in-Tiny.is c.requires.whole

pub apply_reserved-requires-in-Tiny-clause-reserved : goal.apply_reserved-requires-in-Tiny-clause-reserved
apply_reserved-requires-in-Tiny-clause-reserved g c = subst (λ (s : AnyStore _). (cs : List Change) × AnyReserved g.D.Disk.image s cs) c.in-Tiny.is c.requires.reserved

pub returns-in-Hash-clause-stands : goal.returns-in-Hash-clause-stands
returns-in-Hash-clause-stands g c = rw c.in-Hash.is c.apply_reserved.ensures.stands

pub returns-in-Hash-clause-map : goal.returns-in-Hash-clause-map
returns-in-Hash-clause-map g c = rw c.in-Hash.is c.apply_reserved.ensures.map

pub returns-in-Hash-clause-floor : goal.returns-in-Hash-clause-floor
returns-in-Hash-clause-floor g c = rw c.in-Hash.is c.apply_reserved.ensures.floor

pub returns-in-Hash-clause-size : goal.returns-in-Hash-clause-size
returns-in-Hash-clause-size g c = rw c.in-Hash.is c.apply_reserved.ensures.size

pub returns-in-Hash-clause-since : goal.returns-in-Hash-clause-since
returns-in-Hash-clause-since g c = rw c.in-Hash.is c.apply_reserved.ensures.since

pub returns-in-Hash-clause-safe : goal.returns-in-Hash-clause-safe
returns-in-Hash-clause-safe g c = rw c.in-Hash.is c.apply_reserved.ensures.safe

pub returns-in-Hash-clause-reads : goal.returns-in-Hash-clause-reads
returns-in-Hash-clause-reads g c = rw c.in-Hash.is c.apply_reserved.ensures.reads

pub returns-in-Tiny-clause-stands : goal.returns-in-Tiny-clause-stands
returns-in-Tiny-clause-stands g c = rw c.in-Tiny.is c.apply_reserved-in-Tiny.ensures.stands

pub returns-in-Tiny-clause-map : goal.returns-in-Tiny-clause-map
returns-in-Tiny-clause-map g c = rw c.in-Tiny.is c.apply_reserved-in-Tiny.ensures.map

pub returns-in-Tiny-clause-floor : goal.returns-in-Tiny-clause-floor
returns-in-Tiny-clause-floor g c = rw c.in-Tiny.is c.apply_reserved-in-Tiny.ensures.floor

pub returns-in-Tiny-clause-since : goal.returns-in-Tiny-clause-since
returns-in-Tiny-clause-since g c = rw c.in-Tiny.is c.apply_reserved-in-Tiny.ensures.since

pub returns-in-Tiny-clause-reads : goal.returns-in-Tiny-clause-reads
returns-in-Tiny-clause-reads g c = rw c.in-Tiny.is c.apply_reserved-in-Tiny.ensures.reads
