use Rattle.std.proofs.Common.{◌<◌, length, arith}
use Rattle.std.proofs.lemmas.List.{take_rest}
use Rattle.tk_model.specs.declared.record.Pair.{Pair}
use Rattle.tk_flat.specs.Flat.{no_word}
use Rattle.tk_flat.proofs.Records.{read_none, read_more, read_until, shorter}
use Rattle.tk_flat.proofs.flat.read_records.Goals as goal

pub returns-then-not-has_word-clause-place : goal.returns-then-not-has_word-clause-place
returns-then-not-has_word-clause-place c = no_word c.args.bytes.now (c.has_word.ensures.no c.if-not-has_word.true)

pub loop-rest-init : goal.loop-rest-init
loop-rest-init c = rw (take_rest, c.new-pairs.ensures) (read_none c.args.bytes.now (c.has_word.ensures.yes c.if-not-has_word.false))

pub returns-in_default-clause-place : goal.returns-in_default-clause-place
returns-in_default-clause-place c =
    let some : 0 < length c.loop-rest.rest.now = grind arith in
    read_until c.args.bytes.now c.loop-rest.rest.now c.loop-rest.pairs c.loop-rest.invariant some c.in_default.ensures.none

pub loop-rest-smaller : goal.loop-rest-smaller
loop-rest-smaller c = shorter _ _ _ c.in-Some.ensures.found

pub loop-rest-preserved : goal.loop-rest-preserved
loop-rest-preserved c =
    let found : Pair = record { key = c.in-Some.here.key.now; value = c.in-Some.here.value.now } in
    rw (c.in_ok-push.ensures.ok, c.in_ok-key.ensures, c.in_ok-value.ensures)
    (read_more c.args.bytes.now c.loop-rest.rest.now c.in-Some.here.rest.now c.loop-rest.pairs found c.loop-rest.invariant c.in-Some.ensures.fits c.in-Some.ensures.found)
