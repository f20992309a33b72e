use Rattle.std.proofs.Common.{◌≡◌, ◌++◌, ◌+◌, ◌<◌, sym, ap, ◌∙◌, arith, length, get_or, replicate, rules}
use Rattle.tk_batch.specs.declared.line.Out.{Out}
use Rattle.tk_batch.specs.declared.line.Line.{Line}
use Rattle.tk_batch.specs.Output.{out_text}
use Rattle.tk_batch.proofs.Prints.{printed_none, answer_more, answer_none, worker_there, same_read}
use Rattle.tk_batch.proofs.output.print.print_outs.Goals as goal
use Rattle.tk_batch.proofs.output.print.print_outs.Goals.{then-place-given+in_ok-write_out, else-place-given+in_ok-write_out-2}

pub loop-i-init : goal.loop-i-init
loop-i-init c =
    let zeros : c.in_ok-next.next.items ≡ replicate (length c.args.answers.now) 0 = search rules in
    let many : length c.in_ok-next.next.items ≡ length c.args.answers.now = (let e = c.in_ok-next.ensures.len in search rules) in
    printed_none c.args.script.now c.args.answers.now c.args.out.now c.in_ok-next.next.items c.requires zeros many

pub loop-i-preserved : goal.loop-i-preserved
loop-i-preserved c =
    let script = c.args.script.now in
    let answers = c.args.answers.now in
    let at = c.loop-i.i in
    let l : Line = get_or script at c.index-script-i.result in
    let here : l ≡ get_or script at l = ap (λ (t : Line). get_or script at t) c.index-script-i.is in
    let inside : l.worker < length c.loop-i.next.items = (let a = worker_there script answers c.args.out.now c.loop-i.out at c.loop-i.next.items l c.loop-i.invariant c.loop-i-test.true here in let b = c.loop-i.invariant.many in omega arith) in
    let place : c.index-place.result.now ≡ get_or c.loop-i.next.items l.worker 0 = sym (same_read c.loop-i.next.items l.worker c.index-place.result.now 0 inside c.index-place.ensures) in
    elim c.if-place-given.branch [
      | then-place-given+in_ok-write_out w ↦ rw w.out-is (answer_more script answers c.args.out.now c.loop-i.out w.write_out.new.out at c.index-place.result.now c.loop-i.next.items c.if-place-given.next.items l w.index-given-place.result c.index-answers-at.result c.as_slice-given.result.now
          c.loop-i.invariant c.loop-i-test.true here place c.index-answers-at.is c.as_slice-given.ensures w.if-place-given.true w.index-given-place.is (ap (λ v. v.items) w.next-is) w.in_ok-write_out.ensures)
      | else-place-given+in_ok-write_out-2 w ↦ rw (w.out-is, w.next-is) (answer_none script answers c.args.out.now c.loop-i.out w.write_out-else-place-given.new.out at c.index-place.result.now c.loop-i.next.items l c.index-answers-at.result c.as_slice-given.result.now
          c.loop-i.invariant c.loop-i-test.true here place c.index-answers-at.is c.as_slice-given.ensures w.if-place-given.false (w.in_ok-write_out-2.ensures ∙ ap (λ (o : Out). c.loop-i.out ++ out_text l.worker (at + 1) o) c.wanting-wanting.ensures))
    ]
