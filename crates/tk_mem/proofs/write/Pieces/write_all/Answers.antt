use Rattle.std.proofs.Common.{◌∙◌, ap, refl, take}
use Rattle.tk_store.specs.PairsLeft.{pairs_left}
use Rattle.tk_mem.proofs.Written.{all_put}
use Rattle.tk_mem.proofs.write.Pieces.write_all.Goals as goal

pub returns-clause-written : goal.returns-clause-written
returns-clause-written g c =
    c.in_ok-sync.ensures.image
    ∙ all_put (pairs_left c.args.left) _ _ _ (g.D.Disk.image c.args.disk.now) _ _ _ _ refl (ap (λ n. take n c.args.self.now.buffer) c.requires.used) (ap (λ n. take n c.flush.new.self.buffer) c.in_ok-flush.ensures.used)
    c.in_ok-cut.ensures.cut c.in_ok-put.ensures.text c.in_ok-put_records.ensures.text c.in_ok-flush.ensures.text
