use Rattle.tk_hash.proofs.HashKeeps.{counted}
use Rattle.tk_hash.proofs.store.HashStoreSeqStore.count.Goals as goal

pub returns : goal.returns
returns g c = counted g.D.Disk.image g.D.Disk.may_leave g.D.Disk.past c.args.self.now
