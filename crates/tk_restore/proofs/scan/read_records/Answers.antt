use Rattle.std.proofs.Common.{◌∙◌, List, ℕ, subst}
use Rattle.std.specs.Prelude.{Option}
use Rattle.tk_append.specs.Windows.{items}
use Rattle.tk_disk.proofs.Moments.{reads_joined}
use Rattle.tk_restore.specs.Readings.{Scanned}
use Rattle.tk_restore.proofs.Steps.{scan_first, scan_end}
use Rattle.tk_restore.proofs.scan.read_records.Goals as goal

pub loop-place-init : goal.loop-place-init
loop-place-init g c = record {
  scanned = scan_first (g.D.Disk.image c.args.disk.now) c.args.head.now c.in_ok-size.size c.base_of-place.result (items c.new-window.result) c.new-reading.result c.base_of-place.ensures c.new-window.ensures c.new-reading.ensures;
  image = c.in_ok-size.ensures.image;
  count = c.in_ok-size.ensures.cause.kept;
  still = c.in_ok-size.ensures.still;
}

pub returns-in_err-place-clause-still : goal.returns-in_err-place-clause-still
returns-in_err-place-clause-still g c = reads_joined g.D.Disk.may_leave g.D.Disk.moment g.D.Disk.left_since g.D.Disk.past g.D.Disk.left_with g.met.D.Disk.counts_now g.met.D.Disk.counts_with c.args.disk.now c.loop-place.disk c.step.new.disk c.loop-place.invariant.still c.step.ensures.still

pub loop-place-preserved : goal.loop-place-preserved
loop-place-preserved g c =
    let i = c.loop-place.invariant in
    let h = c.args.head.now in
    let size = c.in_ok-size.size in
    let old = items c.loop-place.window in
    let new = items c.step.new.window in
    let scanned : Scanned (g.D.Disk.image c.args.disk.now) h size c.loop-place.place old c.loop-place.reading → Scanned (g.D.Disk.image c.args.disk.now) h size c.in_ok-place.place new c.step.new.reading =
    subst (λ (o : Option (List ℕ)). Scanned o h size c.loop-place.place old c.loop-place.reading → Scanned o h size c.in_ok-place.place new c.step.new.reading) i.image (c.in_ok-place.ensures.scanned h) in
    record {
      scanned = scanned i.scanned;
      image = c.step.ensures.image ∙ i.image;
      count = c.in_ok-place.ensures.cause.kept ∙ i.count;
      still = reads_joined g.D.Disk.may_leave g.D.Disk.moment g.D.Disk.left_since g.D.Disk.past g.D.Disk.left_with g.met.D.Disk.counts_now g.met.D.Disk.counts_with c.args.disk.now c.loop-place.disk c.step.new.disk i.still c.step.ensures.still;
    }

pub returns-clause-records : goal.returns-clause-records
returns-clause-records g c =
    scan_end (g.D.Disk.image c.args.disk.now) c.args.head.now c.in_ok-size.size c.loop-place.place (items c.loop-place.window) c.loop-place.reading c.in_ok-into_pairs.field-0 c.loop-place.invariant.scanned c.loop-place-test.false c.in_ok-size.ensures.value c.in_ok-into_pairs.ensures.records
