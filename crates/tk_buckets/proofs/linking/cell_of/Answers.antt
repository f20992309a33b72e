use Rattle.std.proofs.Common.{◌≡◌, ◌⊎◌, inl, inr, ℕ, ◌+◌, ◌/◌, ◌≤◌, List, length, sym, ◌∙◌, subst, arith}
use Rattle.std.specs.Prelude.{Option, IfSome}
use Rattle.tk_block.specs.Number.{u64_in}
use Rattle.tk_buckets.proofs.Searches.{ToldToward, goes_on, ends, cost_first, cost_more, cost_left}
use Rattle.tk_disk.proofs.Moments.{reads_joined}
use Rattle.tk_buckets.proofs.linking.cell_of.Goals as goal
use Rattle.tk_buckets.proofs.linking.cell_of.Goals.{then-loop-next-test+else-steps-len, else-loop-next-test}

pub loop-next-preserved : goal.loop-next-preserved
loop-next-preserved g c =
    let image = g.D.Disk.image c.number_at.new.disk in
    record {
      toward = λ h places.
          goes_on h image c.args.place c.args.cell places c.args.len c.loop-next.at c.loop-next.next c.loop-next.steps c.saturating_add-at.result c.in_ok-next-2.next
          (subst (λ (o : Option (List ℕ)). IfSome o (λ f. length f ≡ c.args.len)) (sym c.number_at.ensures.image) c.requires.len) c.ranges.len.fits c.saturating_add-at.ensures c.loop-next-test.true
          (subst (λ (o : Option (List ℕ)). IfSome o (λ f. c.saturating_add-at.result + 8 ≤ length f → c.in_ok-next-2.next ≡ u64_in f c.saturating_add-at.result)) c.loop-next.invariant.image c.in_ok-next-2.ensures.value)
          (c.loop-next.invariant.toward h places);
      image = c.number_at-in-loop-next.ensures.image ∙ c.loop-next.invariant.image;
      more = omega (arith, c.loop-next.invariant.more, c.number_at-in-loop-next.ensures.more);
      most = omega (arith, c.loop-next.invariant.most, c.number_at-in-loop-next.ensures.taken);
      few = omega arith;
      count = c.in_ok-next-2.ensures.cause.kept ∙ c.loop-next.invariant.count;
      still = reads_joined g.D.Disk.may_leave g.D.Disk.moment g.D.Disk.left_since g.D.Disk.past g.D.Disk.left_with g.met.D.Disk.counts_now g.met.D.Disk.counts_with c.number_at.new.disk c.loop-next.disk c.number_at-in-loop-next.new.disk c.loop-next.invariant.still c.number_at-in-loop-next.ensures.still;
    }

pub returns-clause-found : goal.returns-clause-found
returns-clause-found g c = λ h places.
    let over : (c.loop-next.next ≡ c.args.place) ⊎ (c.args.len / 48 ≤ c.loop-next.steps) = elim c.loop-next-test.branch [
      | then-loop-next-test+else-steps-len w ↦ inr (omega (arith, w.if-steps-len.false))
      | else-loop-next-test w ↦ inl (w.loop-next-test.false)
    ] in
    ends h (g.D.Disk.image c.args.disk.now) c.args.place c.args.cell places c.args.len c.loop-next.at c.loop-next.next c.loop-next.steps c.found_cell.result c.requires.len c.requires.size over c.found_cell.ensures.value
    (subst (λ (o : Option (List ℕ)). ToldToward h o c.args.place c.args.cell places c.loop-next.at c.loop-next.next c.loop-next.steps) c.number_at.ensures.image (c.loop-next.invariant.toward h places))

pub returns-in_err-next-clause-cost : goal.returns-in_err-next-clause-cost
returns-in_err-next-clause-cost g c = λ h places.
    cost_first h (g.D.Disk.image c.args.disk.now) c.args.place c.args.cell places (g.D.Disk.taken_count c.args.disk.now) (g.D.Disk.taken_count c.number_at.new.disk) c.number_at.ensures.taken

pub returns-in_err-next-2-clause-cost : goal.returns-in_err-next-2-clause-cost
returns-in_err-next-2-clause-cost g c = λ h places.
    cost_more h (g.D.Disk.image c.args.disk.now) c.args.place c.args.cell places (g.D.Disk.taken_count c.args.disk.now) (g.D.Disk.taken_count c.number_at-in-loop-next.new.disk) c.loop-next.at c.loop-next.next c.loop-next.steps c.loop-next-test.true
    (omega (arith, c.number_at.ensures.taken, c.loop-next.invariant.most, c.number_at-in-loop-next.ensures.taken))
    (subst (λ (o : Option (List ℕ)). ToldToward h o c.args.place c.args.cell places c.loop-next.at c.loop-next.next c.loop-next.steps) c.number_at.ensures.image (c.loop-next.invariant.toward h places))

pub returns-clause-cost : goal.returns-clause-cost
returns-clause-cost g c = λ h places.
    cost_left h (g.D.Disk.image c.args.disk.now) c.args.place c.args.cell places (g.D.Disk.taken_count c.args.disk.now) (g.D.Disk.taken_count c.loop-next.disk) c.loop-next.at c.loop-next.next c.loop-next.steps
    (omega (arith, c.number_at.ensures.taken, c.loop-next.invariant.most))
    (subst (λ (o : Option (List ℕ)). ToldToward h o c.args.place c.args.cell places c.loop-next.at c.loop-next.next c.loop-next.steps) c.number_at.ensures.image (c.loop-next.invariant.toward h places))
