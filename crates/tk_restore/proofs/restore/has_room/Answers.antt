use Rattle.std.proofs.Common.{◌≡◌, ◌+◌, arith, ap, length, drop, ◌∙◌}
use Rattle.tk_block.specs.Blocks.{extent_for}
use Rattle.tk_restore.proofs.Sizes.{too_long, sized, one_more, small_item, extent_bound}
use Rattle.tk_restore.proofs.restore.has_room.Goals as goal

pub returns-then-size-gt-LIMIT : goal.returns-then-size-gt-LIMIT
returns-then-size-gt-LIMIT c = too_long c.args.head.now c.args.pairs.now (drop c.loop-pair.pair-index c.args.pairs.now) c.loop-pair.size c.loop-pair.invariant.rest c.if-size-gt-LIMIT.true

pub extent_of-size-requires-clause-key : goal.extent_of-size-requires-clause-key
extent_of-size-requires-clause-key c =
    let small = small_item c.args.pairs.now c.loop-pair.pair-index c.pair-item.result c.requires.small c.loop-pair-test.true c.pair-item.is in
    omega (arith, c.len.ensures, small.key_fits)

pub extent_of-size-requires-clause-value : goal.extent_of-size-requires-clause-value
extent_of-size-requires-clause-value c =
    let small = small_item c.args.pairs.now c.loop-pair.pair-index c.pair-item.result c.requires.small c.loop-pair-test.true c.pair-item.is in
    omega (arith, c.len-in-loop-pair.ensures, small.value_fits)

pub overflow_add-size : goal.overflow_add-size
overflow_add-size c =
    let bound = extent_bound c.args.pairs.now c.loop-pair.pair-index c.len.result c.len-in-loop-pair.result c.extent_of-size.result c.pair-item.result c.requires.small c.loop-pair-test.true c.pair-item.is c.len.ensures c.len-in-loop-pair.ensures c.extent_of-size.ensures.value in
    omega (arith, bound, c.if-size-gt-LIMIT.false)

pub loop-pair-preserved : goal.loop-pair-preserved
loop-pair-preserved c =
    let bound = extent_bound c.args.pairs.now c.loop-pair.pair-index c.len.result c.len-in-loop-pair.result c.extent_of-size.result c.pair-item.result c.requires.small c.loop-pair-test.true c.pair-item.is c.len.ensures c.len-in-loop-pair.ensures c.extent_of-size.ensures.value in
    let p = c.pair-item.result in
    let long : c.extent_of-size.result ≡ extent_for (44 + length p.key + length p.value) = c.extent_of-size.ensures.value ∙ ap (λ k. extent_for (44 + k + c.len-in-loop-pair.result)) c.len.ensures ∙ ap (λ v. extent_for (44 + length p.key + v)) c.len-in-loop-pair.ensures in
    record {
      rest = one_more c.args.pairs.now c.loop-pair.pair-index c.loop-pair.size c.extent_of-size.result p c.loop-pair-test.true c.pair-item.is long ∙ c.loop-pair.invariant.rest;
      bound = omega (arith, bound, c.if-size-gt-LIMIT.false);
    }

pub returns : goal.returns
returns c = sized c.args.head.now c.args.pairs.now c.loop-pair.pair-index c.loop-pair.size c.loop-pair.invariant.rest c.loop-pair-test.false
