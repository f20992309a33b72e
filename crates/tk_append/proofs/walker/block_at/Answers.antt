use Rattle.std.proofs.Common.{sym, arith}
use Rattle.tk_block.specs.Blocks.{body_said}
use Rattle.tk_append.proofs.WalkerSteps.{behind_link, none_short, value_small}
use Rattle.tk_append.proofs.walker.block_at.Goals as goal

pub returns-then-bytes-lt-BODY_OFFSET : goal.returns-then-bytes-lt-BODY_OFFSET
returns-then-bytes-lt-BODY_OFFSET c = none_short c.args.place c.args.bytes.now c.if-bytes-lt-BODY_OFFSET.true

pub returns : goal.returns
returns c =
    let fits = (c.in_ok-block.ensures.exact.found _ (body_said c.in_ok-block.block) (sym c.in_ok-block.ensures.value)).0 in
    record {
      head = sym c.in_ok-extent.ensures.value;
      body = behind_link c.args.place c.args.bytes.now _ (sym c.in_ok-block.ensures.value);
      long = omega (arith, c.if-bytes-lt-BODY_OFFSET.false);
      hash = c.mix.ensures;
      small = record { key_fits = fits.1; value_fits = value_small (body_said c.in_ok-block.block) fits.0 };
    }
