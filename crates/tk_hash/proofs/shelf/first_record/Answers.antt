use Rattle.std.proofs.Common.{◌≡◌, ℕ, ◌+◌, ◌∙◌, List, refl, sym, subst, arith}
use Rattle.std.specs.Prelude.{Option}
use Rattle.tk_model.specs.Records.{first_within}
use Rattle.tk_model.specs.declared.record.Order.TheVariants.{Hash}
use Rattle.tk_hash.specs.Chain.{in_bucket}
use Rattle.tk_hash.proofs.Searches.{Told, shelf_next, shelf_same, begins_up, here_up, later_up, none_up}
use Rattle.tk_disk.proofs.Moments.{nothing_read, reads_joined}
use Rattle.tk_hash.proofs.shelf.first_record.Goals as goal

pub loop-bucket-init : goal.loop-bucket-init
loop-bucket-init g c = record {
  up = λ groups. begins_up c.args.file.now.head groups c.args.bound.now (g.D.Disk.image c.args.disk.now) c.args.shelf.now c.first_bucket-bucket.result c.first_bucket-bucket.ensures.value;
  shelf = λ groups. shelf_same (g.D.Disk.image c.args.disk.now) c.args.file.now.head groups c.args.shelf.now;
  most = c.first_bucket-bucket.ensures.below;
  image = refl;
  still = nothing_read g.D.Disk.may_leave g.D.Disk.moment g.D.Disk.left_since g.D.Disk.past g.D.Disk.left_with c.args.disk.now;
  taken = omega arith;
  count = refl;
}

pub loop-bucket-preserved : goal.loop-bucket-preserved
loop-bucket-preserved g c = record {
  up = λ groups.
      later_up c.args.file.now.head groups c.args.bound.now (g.D.Disk.image c.args.disk.now) c.args.shelf.now c.loop-bucket.shelf c.loop-bucket.bucket c.next_filled-bucket.result c.args.file.now.heads.now c.in_ok-found.found
      (sym c.is_some.ensures ∙ c.if-is_some.false) c.next_filled-bucket.ensures.least (omega (arith, c.requires.file.heads_are.whole, c.next_filled-bucket.ensures.most)) c.requires.file.heads_are
      (c.loop-bucket.invariant.shelf groups) (c.loop-bucket.invariant.up groups)
      (subst (λ (o : Option (List ℕ)). Told o c.args.file.now.head groups c.loop-bucket.shelf (λ m. c.in_ok-found.found ≡ first_within Hash c.args.bound.now (in_bucket c.args.file.now.head.p c.loop-bucket.bucket m))) c.loop-bucket.invariant.image (c.in_ok-found.ensures.value groups))
      c.next_filled-bucket.ensures.empty;
  shelf = λ groups.
      shelf_next (g.D.Disk.image c.args.disk.now) (g.D.Disk.image c.loop-bucket.disk) c.args.file.now.head groups c.args.shelf.now c.loop-bucket.shelf c.first_in.new.shelf c.loop-bucket.invariant.image (c.loop-bucket.invariant.shelf groups) (c.first_in.ensures.shelf groups);
  most = omega (arith, c.requires.file.heads_are.whole, c.next_filled-bucket.ensures.most);
  image = c.first_in.ensures.image ∙ c.loop-bucket.invariant.image;
  still = reads_joined g.D.Disk.may_leave g.D.Disk.moment g.D.Disk.left_since g.D.Disk.past g.D.Disk.left_with g.met.D.Disk.counts_now g.met.D.Disk.counts_with c.args.disk.now c.loop-bucket.disk c.first_in.new.disk c.loop-bucket.invariant.still c.first_in.ensures.still;
  taken = omega (arith, c.loop-bucket.invariant.taken, c.first_in.ensures.taken);
  count = c.in_ok-found.ensures.cause.kept ∙ c.loop-bucket.invariant.count;
}

pub returns-in_err-found-clause-shelf : goal.returns-in_err-found-clause-shelf
returns-in_err-found-clause-shelf g c = λ groups.
    shelf_next (g.D.Disk.image c.args.disk.now) (g.D.Disk.image c.loop-bucket.disk) c.args.file.now.head groups c.args.shelf.now c.loop-bucket.shelf c.first_in.new.shelf c.loop-bucket.invariant.image (c.loop-bucket.invariant.shelf groups) (c.first_in.ensures.shelf groups)

pub returns-then-is_some-clause-shelf : goal.returns-then-is_some-clause-shelf
returns-then-is_some-clause-shelf g c = λ groups.
    shelf_next (g.D.Disk.image c.args.disk.now) (g.D.Disk.image c.loop-bucket.disk) c.args.file.now.head groups c.args.shelf.now c.loop-bucket.shelf c.first_in.new.shelf c.loop-bucket.invariant.image (c.loop-bucket.invariant.shelf groups) (c.first_in.ensures.shelf groups)

pub returns-then-is_some-clause-value : goal.returns-then-is_some-clause-value
returns-then-is_some-clause-value g c = λ groups.
    here_up c.args.file.now.head groups c.args.bound.now (g.D.Disk.image c.args.disk.now) c.args.shelf.now c.loop-bucket.shelf c.loop-bucket.bucket c.in_ok-found.found (sym c.is_some.ensures ∙ c.if-is_some.true)
    (c.loop-bucket.invariant.shelf groups) (c.loop-bucket.invariant.up groups)
    (subst (λ (o : Option (List ℕ)). Told o c.args.file.now.head groups c.loop-bucket.shelf (λ m. c.in_ok-found.found ≡ first_within Hash c.args.bound.now (in_bucket c.args.file.now.head.p c.loop-bucket.bucket m))) c.loop-bucket.invariant.image (c.in_ok-found.ensures.value groups))

pub returns-clause-value : goal.returns-clause-value
returns-clause-value g c = λ groups.
    none_up c.args.file.now.head groups c.args.bound.now (g.D.Disk.image c.args.disk.now) c.args.shelf.now c.loop-bucket.bucket c.requires.p (omega (arith, c.number_of_buckets-end.ensures)) (c.loop-bucket.invariant.up groups)
