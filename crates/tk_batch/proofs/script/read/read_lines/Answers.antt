use Rattle.std.proofs.Common.{◌+◌, ◌<◌, ◌≤◌, length, sym, ◌∙◌, ap, subst, ℕ, arith}
use Rattle.tk_batch.specs.Script.{line_in}
use Rattle.std.specs.Prelude.{Option, IfSome}
use Rattle.tk_batch.specs.declared.line.Line.{Line}
use Rattle.tk_batch.proofs.Lines.{lines_bad, lines_more, lines_past, workers_more}
use Rattle.tk_batch.proofs.script.read.read_lines.Goals as goal

pub returns-in_default-clause-line : goal.returns-in_default-clause-line
returns-in_default-clause-line c =
    let low : length c.loop-rest.lines < c.args.most = omega (arith, c.len.ensures, c.if-len-most.false) in
    lines_bad (line_in c.args.rules.now) c.args.most c.args.text.now c.loop-rest.rest.now c.next_line.result.0.now c.next_line.result.1.now c.loop-rest.lines (c.len-in_default.result + 1) c.loop-rest.invariant.read low
    c.next_line.ensures.line (sym c.in_default.is ∙ c.in_ok-line.ensures.line) (ap (λ (n : ℕ). n + 1) c.len-in_default.ensures)

pub returns-then-len-most-clause-line : goal.returns-then-len-most-clause-line
returns-then-len-most-clause-line c =
    let high : c.args.most ≤ length c.loop-rest.lines = omega (arith, c.len.ensures, c.if-len-most.true) in
    lines_past (line_in c.args.rules.now) c.args.most c.args.text.now c.loop-rest.rest.now c.next_line.result.0.now c.next_line.result.1.now c.loop-rest.lines (c.len-then-len-most.result + 1) c.loop-rest.invariant.read high
    c.next_line.ensures.line (ap (λ (n : ℕ). n + 1) c.len-then-len-most.ensures)

pub loop-rest-preserved : goal.loop-rest-preserved
loop-rest-preserved c =
    let low : length c.loop-rest.lines < c.args.most = omega (arith, c.len.ensures, c.if-len-most.false) in
    record {
      read = lines_more (line_in c.args.rules.now) c.args.most c.args.text.now c.loop-rest.rest.now c.next_line.result.0.now c.next_line.result.1.now c.loop-rest.lines c.push.new.self c.in-Some.line c.loop-rest.invariant.read low
          c.next_line.ensures.line (sym c.in-Some.is ∙ c.in_ok-line.ensures.line) c.in_ok-push.ensures.ok;
      workers = workers_more c.args.rules.now.workers c.loop-rest.lines c.push.new.self c.in-Some.line c.loop-rest.invariant.workers
          (subst (λ (o : Option Line). IfSome o (λ l. l.worker < c.args.rules.now.workers)) c.in-Some.is c.in_ok-line.ensures.worker) c.in_ok-push.ensures.ok;
    }
