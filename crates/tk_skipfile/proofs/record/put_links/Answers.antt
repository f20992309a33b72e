use Rattle.std.proofs.Common.{ℕ, ◌+◌, ◌-◌, List, ◌++◌, get_or, ap, ◌∙◌, arith}
use Rattle.std.specs.Int.{w64, to_be_bytes}
use Rattle.tk_skipfile.proofs.TextSteps.{words_more}
use Rattle.tk_skipfile.proofs.record.put_links.Goals as goal

pub loop-level-preserved : goal.loop-level-preserved
loop-level-preserved c =
    let level = c.loop-level.level in
    let top = c.height_of-height.result in
    words_more c.loop-level.out c.extend.new.self _ (top + 1 - level) (top + 1 - (level + 1)) level c.args.places.now c.args.i (omega arith)
    (c.in_ok-extend.ensures.ok
    ∙ ap (λ (l : List ℕ). c.loop-level.out ++ l) (c.to_be_bytes.ensures ∙ ap (λ (n : ℕ). to_be_bytes w64 n) (c.link_to-link.ensures ∙ ap (λ (n : ℕ). get_or c.args.places.now (c.args.i + n) 0) c.step_of.ensures.value)))
    c.loop-level.invariant
