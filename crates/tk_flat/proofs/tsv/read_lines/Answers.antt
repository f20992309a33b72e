use Rattle.std.proofs.Common.{◌+◌, ◌∙◌, sym, ap, ℕ}
use Rattle.tk_flat.proofs.TsvJudged.{lines_more, lines_until}
use Rattle.tk_flat.proofs.tsv.read_lines.Goals as goal

pub returns-in_default-clause-line : goal.returns-in_default-clause-line
returns-in_default-clause-line c =
    lines_until c.args.bytes.now c.loop-rest.rest.now c.next_line.result.0.now c.next_line.result.1.now c.loop-rest.pairs (c.len.result + 1) c.loop-rest.invariant c.next_line.ensures.line (sym c.in_default.is ∙ c.in_ok-pair.ensures) (ap (λ (n : ℕ). n + 1) c.len.ensures)

pub loop-rest-preserved : goal.loop-rest-preserved
loop-rest-preserved c =
    lines_more c.args.bytes.now c.loop-rest.rest.now c.next_line.result.0.now c.next_line.result.1.now c.loop-rest.pairs c.push.new.self c.in-Some.pair c.loop-rest.invariant c.next_line.ensures.line (sym c.in-Some.is ∙ c.in_ok-pair.ensures) c.in_ok-push.ensures.ok
