use Rattle.std.proofs.Common.{◌≡◌, ◌⊎◌, inl, inr, ℕ, ◌+◌, ◌/◌, ◌≤◌, List, [], ◌∷◌, length, sym, ◌∙◌, ap, subst, arith, length-append}
use Rattle.std.specs.Prelude.{Option, IfSome}
use Rattle.tk_block.specs.Number.{u64_in}
use Rattle.tk_block.specs.Text.{base_of}
use Rattle.tk_block.specs.Layout.{laid}
use Rattle.tk_buckets.specs.Chain.{bucket_blocks, places_in}
use Rattle.tk_buckets.proofs.Written.{told_written}
use Rattle.tk_buckets.proofs.Follows.{ToldLeft, goes_on, ends, taken_so_far, taken_one_more}
use Rattle.tk_disk.proofs.Moments.{reads_joined}
use Rattle.tk_buckets.proofs.places.chain.Goals as goal
use Rattle.tk_buckets.proofs.places.chain.Goals.{then-loop-next-test+else-len, else-loop-next-test}

pub returns-in_err-push-clause-taken : goal.returns-in_err-push-clause-taken
returns-in_err-push-clause-taken g c = λ h places.
    taken_so_far h (g.D.Disk.image c.args.disk.now) c.args.first places c.loop-next.places (g.D.Disk.taken_count c.args.disk.now) (g.D.Disk.taken_count c.loop-next.disk) c.loop-next.next c.loop-next.invariant.taken (c.loop-next.invariant.left h places)

pub returns-in_err-next-clause-taken : goal.returns-in_err-next-clause-taken
returns-in_err-next-clause-taken g c = λ h places.
    taken_one_more h (g.D.Disk.image c.args.disk.now) c.args.first places c.loop-next.places (g.D.Disk.taken_count c.args.disk.now) (g.D.Disk.taken_count c.number_at.new.disk) c.loop-next.next c.loop-next-test.true (omega (arith, c.number_at.ensures.taken, c.loop-next.invariant.taken)) (c.loop-next.invariant.left h places)

pub loop-next-preserved : goal.loop-next-preserved
loop-next-preserved g c =
    let image = g.D.Disk.image c.args.disk.now in
    let grown : length c.push.new.self ≡ length c.loop-next.places + 1 = ap length c.in_ok-push.ensures.ok ∙ length-append c.loop-next.places (c.loop-next.next ∷ []) in
    record {
      left = λ h places.
          subst (λ (l : List ℕ). ToldLeft h image c.args.first places l c.in_ok-next.next) (sym c.in_ok-push.ensures.ok)
          (goes_on h image c.args.first places c.loop-next.places c.args.len c.saturating_add.result c.loop-next.next c.in_ok-next.next c.requires.len c.ranges.len.fits c.saturating_add.ensures c.loop-next-test.true
          (subst (λ (o : Option (List ℕ)). IfSome o (λ f. c.saturating_add.result + 8 ≤ length f → c.in_ok-next.next ≡ u64_in f c.saturating_add.result)) c.loop-next.invariant.image c.in_ok-next.ensures.value)
          (c.loop-next.invariant.left h places));
      image = c.number_at.ensures.image ∙ c.loop-next.invariant.image;
      taken = omega (arith, c.number_at.ensures.taken, c.loop-next.invariant.taken, grown);
      few = omega (arith, grown);
      count = c.in_ok-next.ensures.cause.kept ∙ c.loop-next.invariant.count;
      more = omega arith;
      still = reads_joined g.D.Disk.may_leave g.D.Disk.moment g.D.Disk.left_since g.D.Disk.past g.D.Disk.left_with g.met.D.Disk.counts_now g.met.D.Disk.counts_with c.args.disk.now c.loop-next.disk c.number_at.new.disk c.loop-next.invariant.still c.number_at.ensures.still;
    }

pub returns-clause-all : goal.returns-clause-all
returns-clause-all g c = λ h places.
    let over : (c.loop-next.next ≡ 0) ⊎ (c.args.len / 48 ≤ length c.loop-next.places) = elim c.loop-next-test.branch [
      | then-loop-next-test+else-len w ↦ inr (omega (arith, w.len.ensures, w.if-len.false))
      | else-loop-next-test w ↦ inl (omega (arith, w.loop-next-test.false))
    ] in
    ends h (g.D.Disk.image c.args.disk.now) c.args.first places c.loop-next.places c.args.len c.loop-next.next c.requires.len over (c.loop-next.invariant.left h places)

pub returns-clause-newest_first : goal.returns-clause-newest_first
returns-clause-newest_first g c = λ h bucket bodies.
    let places = places_in (bucket_blocks h.p bucket [] (laid (base_of h.p) bodies)) in
    told_written h (g.D.Disk.image c.args.disk.now) bucket c.args.first bodies (c.loop-next.places ≡ places) (returns-clause-all g c h places)

pub returns-clause-taken : goal.returns-clause-taken
returns-clause-taken g c = λ h places.
    taken_so_far h (g.D.Disk.image c.args.disk.now) c.args.first places c.loop-next.places (g.D.Disk.taken_count c.args.disk.now) (g.D.Disk.taken_count c.loop-next.disk) c.loop-next.next c.loop-next.invariant.taken (c.loop-next.invariant.left h places)
