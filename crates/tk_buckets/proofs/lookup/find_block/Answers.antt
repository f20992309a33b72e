use Rattle.std.proofs.Common.{inl, inr, ℕ, ◌+◌, ◌≤◌, length, sym, ◌∙◌, subst, arith, rules}
use Rattle.std.specs.Prelude.{Some, IfSome}
use Rattle.tk_disk.proofs.Moments.{reads_joined}
use Rattle.tk_buckets.specs.declared.lookup.FoundBlock.{FoundBlock}
use Rattle.tk_buckets.specs.Chain.{IsLinked}
use Rattle.tk_buckets.specs.Lookup.{body_in_block, read_of_block, Finds}
use Rattle.tk_buckets.proofs.Seen.{OfWhole}
use Rattle.tk_buckets.proofs.Lookups.{cost_so_far, goes_on, here, ends, cost_left}
use Rattle.tk_buckets.proofs.lookup.find_block.Goals as goal

pub returns-in_err-has_key_at-clause-cost : goal.returns-in_err-has_key_at-clause-cost
returns-in_err-has_key_at-clause-cost g c = λ h places.
    cost_so_far h (g.D.Disk.image c.loop-place.disk) c.args.key.now (length c.args.buffer.now) c.args.first places (g.D.Disk.taken_count c.args.disk.now) (g.D.Disk.taken_count c.loop-place.disk) (g.D.Disk.taken_count c.has_key_at.new.disk) c.loop-place.place c.loop-place.steps c.args.len c.ranges.len.fits c.loop-place-test.true
    (subst (λ (n : ℕ). OfWhole (g.D.Disk.image c.loop-place.disk) c.loop-place.place (λ f. g.D.Disk.taken_count c.has_key_at.new.disk ≤ g.D.Disk.taken_count c.loop-place.disk + read_of_block c.args.key.now n (body_in_block f c.loop-place.place))) c.loop-place.invariant.long c.has_key_at.ensures.cost)
    (g.D.Disk.image c.args.disk.now) c.loop-place.invariant.image c.requires.len (c.loop-place.invariant.walks h places)

pub returns-then-branch-clause-cost : goal.returns-then-branch-clause-cost
returns-then-branch-clause-cost g c = λ h places.
    cost_so_far h (g.D.Disk.image c.loop-place.disk) c.args.key.now (length c.args.buffer.now) c.args.first places (g.D.Disk.taken_count c.args.disk.now) (g.D.Disk.taken_count c.loop-place.disk) (g.D.Disk.taken_count c.has_key_at.new.disk) c.loop-place.place c.loop-place.steps c.args.len c.ranges.len.fits c.loop-place-test.true
    (subst (λ (n : ℕ). OfWhole (g.D.Disk.image c.loop-place.disk) c.loop-place.place (λ f. g.D.Disk.taken_count c.has_key_at.new.disk ≤ g.D.Disk.taken_count c.loop-place.disk + read_of_block c.args.key.now n (body_in_block f c.loop-place.place))) c.loop-place.invariant.long c.has_key_at.ensures.cost)
    (g.D.Disk.image c.args.disk.now) c.loop-place.invariant.image c.requires.len (c.loop-place.invariant.walks h places)

pub returns-then-branch-clause-found : goal.returns-then-branch-clause-found
returns-then-branch-clause-found g c = λ h places.
    subst (λ (x : FoundBlock). IfSome (g.D.Disk.image c.args.disk.now) (λ f. IsLinked h f c.args.first places → Finds f c.args.key.now places c.has_key_at.new.buffer (Some x))) (sym c.shown_block.ensures)
    (here h (g.D.Disk.image c.loop-place.disk) c.args.key.now (length c.args.buffer.now) c.args.first places (g.D.Disk.taken_count c.args.disk.now) (g.D.Disk.taken_count c.loop-place.disk) (g.D.Disk.taken_count c.has_key_at.new.disk) c.loop-place.place c.loop-place.steps c.args.len c.ranges.len.fits c.loop-place-test.true
    (subst (λ (n : ℕ). OfWhole (g.D.Disk.image c.loop-place.disk) c.loop-place.place (λ f. g.D.Disk.taken_count c.has_key_at.new.disk ≤ g.D.Disk.taken_count c.loop-place.disk + read_of_block c.args.key.now n (body_in_block f c.loop-place.place))) c.loop-place.invariant.long c.has_key_at.ensures.cost)
    c.has_key_at.new.buffer c.in_ok-has_key_at.field-0 c.in_ok-has_key_at.ensures.sees (g.D.Disk.image c.args.disk.now) c.loop-place.invariant.image c.requires.len c.if-branch.true (c.loop-place.invariant.walks h places))

pub loop-place-preserved : goal.loop-place-preserved
loop-place-preserved g c = record {
  walks = λ h places.
      goes_on h (g.D.Disk.image c.loop-place.disk) c.args.key.now (length c.args.buffer.now) c.args.first places (g.D.Disk.taken_count c.args.disk.now) (g.D.Disk.taken_count c.loop-place.disk) (g.D.Disk.taken_count c.has_key_at.new.disk) c.loop-place.place c.loop-place.steps c.args.len c.ranges.len.fits c.loop-place-test.true
      (subst (λ (n : ℕ). OfWhole (g.D.Disk.image c.loop-place.disk) c.loop-place.place (λ f. g.D.Disk.taken_count c.has_key_at.new.disk ≤ g.D.Disk.taken_count c.loop-place.disk + read_of_block c.args.key.now n (body_in_block f c.loop-place.place))) c.loop-place.invariant.long c.has_key_at.ensures.cost)
      c.has_key_at.new.buffer c.in_ok-has_key_at.field-0 c.in_ok-has_key_at.ensures.sees (g.D.Disk.image c.args.disk.now) c.u64_at-place.result c.loop-place.invariant.image c.requires.len c.if-branch.false c.u64_at-place.ensures (c.loop-place.invariant.walks h places);
  image = search rules;
  still = reads_joined g.D.Disk.may_leave g.D.Disk.moment g.D.Disk.left_since g.D.Disk.past g.D.Disk.left_with g.met.D.Disk.counts_now g.met.D.Disk.counts_with c.args.disk.now c.loop-place.disk c.has_key_at.new.disk c.loop-place.invariant.still c.has_key_at.ensures.still;
  more = omega (arith, c.has_key_at.ensures.more, c.loop-place.invariant.more);
  most = omega (arith, c.has_key_at.ensures.most, c.loop-place.invariant.most, c.loop-place.invariant.long);
  few = omega arith;
  count = c.in_ok-has_key_at.ensures.cause.kept ∙ c.loop-place.invariant.count;
  long = c.has_key_at.auto.buffer ∙ c.loop-place.invariant.long;
}

pub returns-else-steps-len-clause-found : goal.returns-else-steps-len-clause-found
returns-else-steps-len-clause-found g c = λ h places. ends h (g.D.Disk.image c.args.disk.now) c.args.key.now (length c.args.buffer.now) c.args.first places (g.D.Disk.taken_count c.args.disk.now) (g.D.Disk.taken_count c.loop-place.disk) c.loop-place.place c.loop-place.steps c.args.len c.requires.len (inr (omega (arith, c.if-steps-len.false))) (c.loop-place.invariant.walks h places)

pub returns-else-steps-len-clause-cost : goal.returns-else-steps-len-clause-cost
returns-else-steps-len-clause-cost g c = λ h places. cost_left h (g.D.Disk.image c.args.disk.now) c.args.key.now (length c.args.buffer.now) c.args.first places (g.D.Disk.taken_count c.args.disk.now) (g.D.Disk.taken_count c.loop-place.disk) c.loop-place.place c.loop-place.steps (c.loop-place.invariant.walks h places)

pub returns-after-loop-place-clause-found : goal.returns-after-loop-place-clause-found
returns-after-loop-place-clause-found g c = λ h places. ends h (g.D.Disk.image c.args.disk.now) c.args.key.now (length c.args.buffer.now) c.args.first places (g.D.Disk.taken_count c.args.disk.now) (g.D.Disk.taken_count c.loop-place.disk) c.loop-place.place c.loop-place.steps c.args.len c.requires.len (inl c.loop-place-test.false) (c.loop-place.invariant.walks h places)

pub returns-after-loop-place-clause-cost : goal.returns-after-loop-place-clause-cost
returns-after-loop-place-clause-cost g c = λ h places. cost_left h (g.D.Disk.image c.args.disk.now) c.args.key.now (length c.args.buffer.now) c.args.first places (g.D.Disk.taken_count c.args.disk.now) (g.D.Disk.taken_count c.loop-place.disk) c.loop-place.place c.loop-place.steps (c.loop-place.invariant.walks h places)
