use Rattle.std.proofs.Common.{rules, ◌+◌, ◌*◌, ℕ, List, sym, ◌∙◌, subst, arith}
use Rattle.std.specs.Prelude.{Option}
use Rattle.std.specs.List.{length_refill}
use Rattle.tk_append.specs.Walked.{Shows}
use Rattle.tk_append.proofs.HeadSteps.{heads_more}
use Rattle.tk_disk.proofs.Moments.{reads_joined}
use Rattle.tk_append.proofs.heads.head_fault.Goals as goal

pub loop-first-preserved : goal.loop-first-preserved
loop-first-preserved g c =
    let i = c.loop-first.invariant in
    let new = c.read_piece.new.into in
    let image = g.D.Disk.image c.args.disk.now in
    let shown : Shows image (64 + 8 * c.loop-first.first) new = subst (λ (o : Option (List ℕ)). Shows o (64 + 8 * c.loop-first.first) new) i.image c.in_ok-read_piece.ensures.shows in
    record {
      so = heads_more image c.args.heads.now new c.loop-first.first c.min-count.result i.so (search rules) (omega arith) shown c.head_fault_in.ensures.small c.in_default.ensures.fault;
      room = sym (length_refill c.loop-first.buffer.len c.loop-first.buffer.items _ c.loop-first.buffer.ok.0) ∙ c.loop-first.buffer.ok.0 ∙ i.room;
      image = c.read_piece.ensures.image ∙ i.image;
      count = c.in_ok-read_piece.ensures.cause.kept ∙ i.count;
      still = reads_joined g.D.Disk.may_leave g.D.Disk.moment g.D.Disk.left_since g.D.Disk.past g.D.Disk.left_with g.met.D.Disk.counts_now g.met.D.Disk.counts_with c.args.disk.now c.loop-first.disk c.read_piece.new.disk i.still c.read_piece.ensures.still;
    }
