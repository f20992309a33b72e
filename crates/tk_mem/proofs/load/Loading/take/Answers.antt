use Rattle.tk_flat.proofs.Records.{shorter}
use Rattle.tk_model.specs.RecordText.{pair_here}
use Rattle.tk_mem.proofs.Filing.{ends_more}
use Rattle.tk_mem.proofs.Readings.{taken_none, taken_more}
use Rattle.tk_mem.proofs.load.Loading.take.Goals as goal

pub loop-here-init : goal.loop-here-init
loop-here-init c = record { loaded = c.requires.loaded; taken = taken_none c.args.self.now.records c.args.bytes.now }

pub loop-here-smaller : goal.loop-here-smaller
loop-here-smaller c = shorter _ _ _ c.in-Some.ensures.found

pub loop-here-preserved : goal.loop-here-preserved
loop-here-preserved c =
    let i = c.loop-here.invariant in
    let p = pair_here c.in-Some.here in
    record {
      loaded = record { filed = rw c.in_ok-add.ensures.records c.in-Some.ensures.filed; ends = rw (c.in_ok-add.ensures.records, c.in_ok-add.ensures.last) (ends_more c.loop-here.self.records p) };
      taken = taken_more _ _ _ _ _ _ p i.taken c.in-Some.ensures.found c.in_ok-add.ensures.records;
    }
