use Rattle.std.proofs.Common.{ℕ, List, ◌∙◌, subst, arith}
use Rattle.std.specs.Prelude.{Option}
use Rattle.tk_disk.proofs.Moments.{reads_joined}
use Rattle.tk_append.specs.Walked.{Shows}
use Rattle.tk_append.proofs.DiskChecks.{too_short, closing_cause, sizes}
use Rattle.tk_append.proofs.check.read_front.Goals as goal

pub returns-then-size-lt-HEADS_PLACE-clause-fails : goal.returns-then-size-lt-HEADS_PLACE-clause-fails
returns-then-size-lt-HEADS_PLACE-clause-fails g c = too_short (g.D.Disk.image c.args.disk.now) c.args.kinds.now c.in_ok-size.size c.in_ok-size.ensures.value c.if-size-lt-HEADS_PLACE.true

pub returns-in_err-closing-clause-fails : goal.returns-in_err-closing-clause-fails
returns-in_err-closing-clause-fails g c =
    let image = g.D.Disk.image c.args.disk.now in
    let front = c.read_piece.new.into in
    let shown : Shows image 0 front = subst (λ (o : Option (List ℕ)). Shows o 0 front) c.length_of.ensures.image c.in_ok-read_piece.ensures.shows in
    closing_cause c.from_residual-in_err-closing.result image c.args.kinds.now front c.in_ok-size.size c.in_ok-head.head c.in_err-closing.field-0.0 c.from_residual-in_err-closing.ensures.1 shown c.in_ok-size.ensures.value c.in_ok-head.ensures.found c.in_err-closing.ensures.fails

pub returns-clause-front : goal.returns-clause-front
returns-clause-front g c =
    let image = g.D.Disk.image c.args.disk.now in
    let front = c.read_piece.new.into in
    record {
      front = front;
      len = omega arith;
      shown = subst (λ (o : Option (List ℕ)). Shows o 0 front) c.length_of.ensures.image c.in_ok-read_piece.ensures.shows;
      small = c.head_in.ensures.small;
      size = sizes image c.in_ok-size.size c.in_ok-closing.closing.size c.in_ok-size.ensures.value c.in_ok-closing.ensures.size;
      head = c.in_ok-head.ensures.found;
      closing = λ f starts long. c.in_ok-closing.ensures.found f starts (long ∙ c.in_ok-closing.ensures.size);
      power = c.in_ok-head.ensures.p;
      base = c.in_ok-closing.ensures.base;
    }

pub returns-in_err-closing-clause-still : goal.returns-in_err-closing-clause-still
returns-in_err-closing-clause-still g c =
    reads_joined g.D.Disk.may_leave g.D.Disk.moment g.D.Disk.left_since g.D.Disk.past g.D.Disk.left_with g.met.D.Disk.counts_now g.met.D.Disk.counts_with _ _ _ c.length_of.ensures.still c.read_piece.ensures.still

pub returns-clause-still : goal.returns-clause-still
returns-clause-still g c =
    reads_joined g.D.Disk.may_leave g.D.Disk.moment g.D.Disk.left_since g.D.Disk.past g.D.Disk.left_with g.met.D.Disk.counts_now g.met.D.Disk.counts_with _ _ _ c.length_of.ensures.still c.read_piece.ensures.still
