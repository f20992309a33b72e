use Rattle.std.proofs.Common.{◌∙◌, refl, arith}
use Rattle.tk_hash.proofs.BucketReads.{none_left, left_next, all_left}
use Rattle.tk_disk.proofs.Moments.{nothing_read, reads_joined}
use Rattle.tk_hash.proofs.shelf.read_blocks.Goals as goal

pub loop-i-init : goal.loop-i-init
loop-i-init g c = record {
  value = λ h blocks. none_left h (g.D.Disk.image c.args.disk.now) blocks c.args.places.now c.args.records.now c.requires;
  image = refl;
  still = nothing_read g.D.Disk.may_leave g.D.Disk.moment g.D.Disk.left_since g.D.Disk.past g.D.Disk.left_with c.args.disk.now;
  taken = omega arith;
  count = refl;
}

pub loop-i-preserved : goal.loop-i-preserved
loop-i-preserved g c = record {
  value = λ h blocks.
      left_next h (g.D.Disk.image c.args.disk.now) (g.D.Disk.image c.loop-i.disk) blocks c.args.places.now c.loop-i.i _ c.in_ok-change.change c.loop-i.records c.apply.new.self c.loop-i.invariant.image (c.in_ok-change.ensures.says h)
      refl (omega arith) (omega arith) c.in_ok-apply.ensures.ok (c.loop-i.invariant.value h blocks);
  image = c.change_at.ensures.image ∙ c.loop-i.invariant.image;
  still = reads_joined g.D.Disk.may_leave g.D.Disk.moment g.D.Disk.left_since g.D.Disk.past g.D.Disk.left_with g.met.D.Disk.counts_now g.met.D.Disk.counts_with c.args.disk.now c.loop-i.disk c.change_at.new.disk c.loop-i.invariant.still c.change_at.ensures.still;
  taken = omega arith;
  count = c.in_ok-change.ensures.cause.kept ∙ c.loop-i.invariant.count;
}

pub returns-clause-value : goal.returns-clause-value
returns-clause-value g c = λ h blocks. all_left h (g.D.Disk.image c.args.disk.now) blocks c.args.places.now c.loop-i.i c.loop-i.records (omega arith) (c.loop-i.invariant.value h blocks)
