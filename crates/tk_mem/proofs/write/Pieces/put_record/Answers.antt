use Rattle.tk_mem.proofs.Written.{record_put}
use Rattle.tk_mem.proofs.write.Pieces.put_record.Goals as goal

pub returns-clause-text : goal.returns-clause-text
returns-clause-text g c =
    record_put c.args.pair.now _ _ _ _ _ _ _ c.lengths_of.ensures c.as_slice.ensures c.as_slice-2.ensures c.in_ok-put.ensures.text c.in_ok-put-2.ensures.text c.in_ok-put-3.ensures.text
