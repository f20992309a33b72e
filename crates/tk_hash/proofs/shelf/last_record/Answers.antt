use Rattle.std.proofs.Common.{◌≡◌, ℕ, ◌-◌, ◌∙◌, List, refl, sym, subst, arith}
use Rattle.std.specs.Prelude.{Option}
use Rattle.tk_model.specs.Records.{last_within}
use Rattle.tk_model.specs.declared.record.Order.TheVariants.{Hash}
use Rattle.tk_hash.specs.Chain.{in_bucket}
use Rattle.tk_hash.proofs.Searches.{Told, shelf_next, shelf_same, begins_down, here_down, later_down, none_down}
use Rattle.tk_disk.proofs.Moments.{nothing_read, reads_joined}
use Rattle.tk_hash.proofs.shelf.last_record.Goals as goal

pub loop-end-init : goal.loop-end-init
loop-end-init g c = record {
  down = λ groups. begins_down c.args.file.now.head groups c.args.bound.now (g.D.Disk.image c.args.disk.now) c.args.shelf.now c.end_bucket-end.result c.requires.p c.end_bucket-end.ensures.value;
  shelf = λ groups. shelf_same (g.D.Disk.image c.args.disk.now) c.args.file.now.head groups c.args.shelf.now;
  most = c.end_bucket-end.ensures.below;
  image = refl;
  still = nothing_read g.D.Disk.may_leave g.D.Disk.moment g.D.Disk.left_since g.D.Disk.past g.D.Disk.left_with c.args.disk.now;
  taken = omega arith;
  count = refl;
}

pub loop-end-preserved : goal.loop-end-preserved
loop-end-preserved g c = record {
  down = λ groups.
      later_down c.args.file.now.head groups c.args.bound.now (g.D.Disk.image c.args.disk.now) c.args.shelf.now c.loop-end.shelf (c.loop-end.end - 1) c.loop-end.end c.filled_below-end.result c.args.file.now.heads.now c.in_ok-found.found (omega arith)
      (sym c.is_some.ensures ∙ c.if-is_some.false) (omega arith) c.filled_below-end.ensures.most c.requires.file.heads_are
      (c.loop-end.invariant.shelf groups) (c.loop-end.invariant.down groups)
      (subst (λ (o : Option (List ℕ)). Told o c.args.file.now.head groups c.loop-end.shelf (λ m. c.in_ok-found.found ≡ last_within Hash c.args.bound.now (in_bucket c.args.file.now.head.p (c.loop-end.end - 1) m))) c.loop-end.invariant.image (c.in_ok-found.ensures.value groups))
      c.filled_below-end.ensures.empty;
  shelf = λ groups.
      shelf_next (g.D.Disk.image c.args.disk.now) (g.D.Disk.image c.loop-end.disk) c.args.file.now.head groups c.args.shelf.now c.loop-end.shelf c.last_in.new.shelf c.loop-end.invariant.image (c.loop-end.invariant.shelf groups) (c.last_in.ensures.shelf groups);
  most = omega (arith, c.loop-end.invariant.most, c.filled_below-end.ensures.most);
  image = c.last_in.ensures.image ∙ c.loop-end.invariant.image;
  still = reads_joined g.D.Disk.may_leave g.D.Disk.moment g.D.Disk.left_since g.D.Disk.past g.D.Disk.left_with g.met.D.Disk.counts_now g.met.D.Disk.counts_with c.args.disk.now c.loop-end.disk c.last_in.new.disk c.loop-end.invariant.still c.last_in.ensures.still;
  taken = omega (arith, c.loop-end.invariant.taken, c.last_in.ensures.taken);
  count = c.in_ok-found.ensures.cause.kept ∙ c.loop-end.invariant.count;
}

pub returns-in_err-found-clause-shelf : goal.returns-in_err-found-clause-shelf
returns-in_err-found-clause-shelf g c = λ groups.
    shelf_next (g.D.Disk.image c.args.disk.now) (g.D.Disk.image c.loop-end.disk) c.args.file.now.head groups c.args.shelf.now c.loop-end.shelf c.last_in.new.shelf c.loop-end.invariant.image (c.loop-end.invariant.shelf groups) (c.last_in.ensures.shelf groups)

pub returns-then-is_some-clause-shelf : goal.returns-then-is_some-clause-shelf
returns-then-is_some-clause-shelf g c = λ groups.
    shelf_next (g.D.Disk.image c.args.disk.now) (g.D.Disk.image c.loop-end.disk) c.args.file.now.head groups c.args.shelf.now c.loop-end.shelf c.last_in.new.shelf c.loop-end.invariant.image (c.loop-end.invariant.shelf groups) (c.last_in.ensures.shelf groups)

pub returns-then-is_some-clause-value : goal.returns-then-is_some-clause-value
returns-then-is_some-clause-value g c = λ groups.
    here_down c.args.file.now.head groups c.args.bound.now (g.D.Disk.image c.args.disk.now) c.args.shelf.now c.loop-end.shelf (c.loop-end.end - 1) c.loop-end.end c.in_ok-found.found (omega arith) (sym c.is_some.ensures ∙ c.if-is_some.true)
    (c.loop-end.invariant.shelf groups) (c.loop-end.invariant.down groups)
    (subst (λ (o : Option (List ℕ)). Told o c.args.file.now.head groups c.loop-end.shelf (λ m. c.in_ok-found.found ≡ last_within Hash c.args.bound.now (in_bucket c.args.file.now.head.p (c.loop-end.end - 1) m))) c.loop-end.invariant.image (c.in_ok-found.ensures.value groups))

pub returns-clause-value : goal.returns-clause-value
returns-clause-value g c = λ groups.
    none_down c.args.file.now.head groups c.args.bound.now (g.D.Disk.image c.args.disk.now) c.args.shelf.now c.loop-end.end (omega arith) (c.loop-end.invariant.down groups)
