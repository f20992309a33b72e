use Rattle.std.proofs.Common.{◌+◌, ap, length, arith, length-append}
use Rattle.tk_skipfile.specs.SkipText.{linked_text}
use Rattle.tk_skipfile.proofs.TextSteps.{length-linked}
use Rattle.tk_skipfile.proofs.write.put_record.Goals as goal

pub flush_piece-requires-clause-end : goal.flush_piece-requires-clause-end
flush_piece-requires-clause-end g c =
    let place = c.args.at.now + c.len.result in
    let text = linked_text c.args.levels c.args.places.now c.args.i c.args.pair.now place in
    omega (arith, ap length c.in_ok-put_linked.ensures, length-append c.args.waiting.now text, length-linked c.args.levels c.args.places.now c.args.i c.args.pair.now place, c.requires.end)

pub returns-clause-end : goal.returns-clause-end
returns-clause-end g c =
    let place = c.args.at.now + c.len.result in
    let text = linked_text c.args.levels c.args.places.now c.args.i c.args.pair.now place in
    omega (arith, ap length c.in_ok-put_linked.ensures, length-append c.args.waiting.now text, length-linked c.args.levels c.args.places.now c.args.i c.args.pair.now place, c.in_ok-flush_piece.ensures.end)
