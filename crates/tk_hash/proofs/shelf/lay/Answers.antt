use Rattle.tk_hash.proofs.BucketReads.{lies_there, lies_now}
use Rattle.tk_hash.proofs.shelf.lay.Goals as goal

pub returns-then-has_bucket-clause-value : goal.returns-then-has_bucket-clause-value
returns-then-has_bucket-clause-value g c = λ groups.
    lies_there (g.D.Disk.image c.args.disk.now) c.args.file.now.head groups c.args.bucket c.args.shelf.now (c.has_bucket.ensures c.args.file.now.head groups c.if-has_bucket.true)

pub returns-clause-value : goal.returns-clause-value
returns-clause-value g c = λ groups.
    lies_now (g.D.Disk.image c.args.disk.now) c.args.file.now.head groups c.args.bucket c.args.shelf.now c.in_ok-records.records (c.in_ok-records.ensures.value groups)

pub returns-clause-shelf : goal.returns-clause-shelf
returns-clause-shelf g c = λ groups.
    lies_now (g.D.Disk.image c.args.disk.now) c.args.file.now.head groups c.args.bucket c.args.shelf.now c.in_ok-records.records (c.in_ok-records.ensures.value groups)
