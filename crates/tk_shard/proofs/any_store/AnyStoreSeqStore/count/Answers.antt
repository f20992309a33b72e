use Rattle.tk_shard.proofs.any_store.AnyStoreSeqStore.count.Goals as goal

pub returns-in-Hash : goal.returns-in-Hash
returns-in-Hash g c = rw c.in-Hash.is c.count.ensures

pub returns-in-Tiny : goal.returns-in-Tiny
returns-in-Tiny g c = rw c.in-Tiny.is c.count-in-Tiny.ensures
