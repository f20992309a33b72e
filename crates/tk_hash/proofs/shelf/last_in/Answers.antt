use Rattle.tk_model.specs.Records.{last_within}
use Rattle.tk_model.specs.declared.record.Order.TheVariants.{Hash}
use Rattle.tk_hash.proofs.BucketReads.{found_on}
use Rattle.tk_hash.proofs.shelf.last_in.Goals as goal

pub returns-clause-value : goal.returns-clause-value
returns-clause-value g c = λ groups.
    found_on (last_within Hash c.args.bound.now) (g.D.Disk.image c.args.disk.now) c.args.file.now.head groups c.args.bucket c.args.shelf.now c.lay.new.shelf c.in_ok-last_on.field-0 c.in_ok-last_on.ensures (c.in_ok-lay.ensures.value groups)
