use Rattle.std.proofs.Common.{◌≤◌, rules, refl, get_or}
use Rattle.tk_batch.proofs.Digits.{stops}
use Rattle.tk_batch.proofs.script.number.read_number.Goals as goal

pub returns-then-next-most-clause-value : goal.returns-then-next-most-clause-value
returns-then-next-most-clause-value c =
    let low : 48 ≤ get_or c.args.text.now c.loop-byte.byte-index 0 = search rules in
    let high : get_or c.args.text.now c.loop-byte.byte-index 0 ≤ 57 = search rules in
    stops c.args.most c.loop-byte.number (get_or c.args.text.now c.loop-byte.byte-index 0) c.loop-byte.byte-index c.args.text.now c.loop-byte.invariant.reads refl c.loop-byte-test.true low high c.if-next-most.true
