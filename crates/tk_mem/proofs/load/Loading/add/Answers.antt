use Rattle.std.proofs.Common.{◌++◌, ◌∷◌, [], refl}
use Rattle.tk_model.specs.RecordText.{pair_here}
use Rattle.tk_store.proofs.Filling.{put_next}
use Rattle.tk_mem.proofs.load.Loading.add.Goals as goal

pub returns-clause-records : goal.returns-clause-records
returns-clause-records c =
    let p = pair_here c.args.here.now in
    let m = c.args.self.now.records in
    rw (c.in_ok-put.ensures.ok, c.in_ok-key.ensures, c.in_ok-value.ensures, c.in_ok-widen.ensures) (put_next m [] (m ++ p ∷ []) p c.requires refl)
