use Rattle.std.proofs.Common.{◌∙◌, ℕ, List, refl, subst, arith}
use Rattle.std.specs.Prelude.{Option}
use Rattle.tk_append.specs.Opening.{Walk}
use Rattle.tk_append.specs.Walked.{IsAt, Passed, Fails, Shows, WalkFails}
use Rattle.tk_append.specs.Windows.{items}
use Rattle.tk_append.proofs.Scans.{scan_first, scan_next, scan_end, scan_fault, handed}
use Rattle.tk_disk.proofs.Moments.{nothing_read, reads_joined}
use Rattle.tk_append.proofs.scan.walk_file.Goals as goal

pub loop-place-init : goal.loop-place-init
loop-place-init g c = record {
  scanned = scan_first (g.D.Disk.image c.args.disk.now) c.args.head.now c.args.shard c.args.size c.base_of-place.result (items c.new-window.result) c.in_ok-walker.walker c.in_ok-walker.ensures c.requires.long c.base_of-place.ensures c.new-window.ensures;
  image = refl;
  count = refl;
  still = nothing_read g.D.Disk.may_leave g.D.Disk.moment g.D.Disk.left_since g.D.Disk.past g.D.Disk.left_with c.args.disk.now;
}

pub returns-in_err-hold_block-clause-still : goal.returns-in_err-hold_block-clause-still
returns-in_err-hold_block-clause-still g c = reads_joined g.D.Disk.may_leave g.D.Disk.moment g.D.Disk.left_since g.D.Disk.past g.D.Disk.left_with g.met.D.Disk.counts_now g.met.D.Disk.counts_with c.args.disk.now c.loop-place.disk c.hold_block.new.disk c.loop-place.invariant.still c.hold_block.ensures.still

pub returns-in_err-extent-clause-still : goal.returns-in_err-extent-clause-still
returns-in_err-extent-clause-still g c = reads_joined g.D.Disk.may_leave g.D.Disk.moment g.D.Disk.left_since g.D.Disk.past g.D.Disk.left_with g.met.D.Disk.counts_now g.met.D.Disk.counts_with c.args.disk.now c.loop-place.disk c.hold_block.new.disk c.loop-place.invariant.still c.hold_block.ensures.still

pub returns-in_err-extent-clause-fails : goal.returns-in_err-extent-clause-fails
returns-in_err-extent-clause-fails g c =
    let i = c.loop-place.invariant in
    let image = g.D.Disk.image c.args.disk.now in
    let old = items c.loop-place.window in
    let new = items c.hold_block.new.self in
    let place = c.loop-place.place in
    let shown : Shows image place new = (subst (λ (o : Option (List ℕ)). Shows o place old → Shows o place new) i.image c.in_ok-hold_block.ensures.shows) i.scanned.shown in
    handed c.from_residual-in_err-extent.result c.in_err-extent.field-0.0 (WalkFails c.args.head.now c.args.shard) image c.args.size c.from_residual-in_err-extent.ensures.1
    (scan_fault image c.args.head.now c.args.shard c.args.size place old new c.loop-place.walker c.in_err-extent.field-0.0 i.scanned c.loop-place-test.true shown c.in_ok-hold_block.ensures.block
    (subst (λ (l : List ℕ). (w : Walk) → IsAt c.args.head.now.p place c.loop-place.walker w → Fails c.args.head.now c.args.shard w place l c.in_err-extent.field-0.0) c.as_slice.ensures c.in_err-extent.ensures.fails))

pub loop-place-preserved : goal.loop-place-preserved
loop-place-preserved g c =
    let i = c.loop-place.invariant in
    let image = g.D.Disk.image c.args.disk.now in
    let old = items c.loop-place.window in
    let new = items c.hold_block.new.self in
    let place = c.loop-place.place in
    let shown : Shows image place new = (subst (λ (o : Option (List ℕ)). Shows o place old → Shows o place new) i.image c.in_ok-hold_block.ensures.shows) i.scanned.shown in
    record {
      scanned = scan_next image c.args.head.now c.args.shard c.args.size place c.in_ok-extent.extent old new (items c.pass.new.self) c.loop-place.walker c.step.new.self i.scanned shown (omega (arith, c.in_ok-hold_block.ensures.held, c.loop-place-test.true)) c.pass.ensures
          (subst (λ (l : List ℕ). (w : Walk) → IsAt c.args.head.now.p place c.loop-place.walker w → Passed c.args.head.now c.args.shard w place l c.in_ok-extent.extent c.step.new.self) c.as_slice.ensures c.in_ok-extent.ensures.passed);
      image = c.hold_block.ensures.image ∙ i.image;
      count = c.in_ok-hold_block.ensures.cause.kept ∙ i.count;
      still = reads_joined g.D.Disk.may_leave g.D.Disk.moment g.D.Disk.left_since g.D.Disk.past g.D.Disk.left_with g.met.D.Disk.counts_now g.met.D.Disk.counts_with c.args.disk.now c.loop-place.disk c.hold_block.new.disk i.still c.hold_block.ensures.still;
    }

pub returns-clause-walked : goal.returns-clause-walked
returns-clause-walked g c =
    scan_end (g.D.Disk.image c.args.disk.now) c.args.head.now c.args.shard c.args.size c.loop-place.place (items c.loop-place.window) c.loop-place.walker c.loop-place.invariant.scanned c.loop-place-test.false
