use Rattle.std.proofs.Common.{sym, ◌∙◌}
use Rattle.tk_block.specs.Blocks.{body_said}
use Rattle.tk_append.proofs.Rereading.{behind_link, value_small}
use Rattle.tk_restore.proofs.Knowing.{short_not, none_not, other_not}
use Rattle.tk_restore.proofs.reading.Reading.read.Goals as goal

pub returns-then-bytes-lt-BODY_OFFSET : goal.returns-then-bytes-lt-BODY_OFFSET
returns-then-bytes-lt-BODY_OFFSET c w knows = (short_not w c.args.place c.args.extent c.args.bytes.now c.if-bytes-lt-BODY_OFFSET.true, knows)

pub returns-in_default : goal.returns-in_default
returns-in_default c w knows =
    (none_not w c.args.place c.args.extent c.args.bytes.now (behind_link c.args.place c.args.bytes.now _ (sym c.in_default.ensures.value)), knows)

pub may_read-requires-clause-small : goal.may_read-requires-clause-small
may_read-requires-clause-small c =
    let fits = (c.in-Some.ensures.exact.found _ (body_said c.in-Some.block) (sym c.in-Some.ensures.value)).0 in
    record { key_fits = fits.1; value_fits = value_small (body_said c.in-Some.block) fits.0 }

pub may_read-requires-clause-body : goal.may_read-requires-clause-body
may_read-requires-clause-body c = (c.in-Some.ensures.exact.found _ (body_said c.in-Some.block) (sym c.in-Some.ensures.value)).0.0

pub returns-then-not-may_read : goal.returns-then-not-may_read
returns-then-not-may_read c w knows = (
  other_not w c.args.place c.args.extent c.args.bytes.now (body_said c.in-Some.block) (behind_link c.args.place c.args.bytes.now _ (sym c.in-Some.ensures.value))
      (sym (c.may_read.ensures.may w knows) ∙ c.if-not-may_read.true),
  knows,
)

pub add-requires-clause-small : goal.add-requires-clause-small
add-requires-clause-small c =
    let fits = (c.in-Some.ensures.exact.found _ (body_said c.in-Some.block) (sym c.in-Some.ensures.value)).0 in
    record { key_fits = fits.1; value_fits = value_small (body_said c.in-Some.block) fits.0 }

pub returns : goal.returns
returns c w knows = record {
  body = body_said c.in-Some.block;
  there = behind_link c.args.place c.args.bytes.now _ (sym c.in-Some.ensures.value);
  may = sym (c.may_read.ensures.may w knows) ∙ c.if-not-may_read.false;
  knows = c.in_ok-add.ensures w c.args.extent knows;
}
