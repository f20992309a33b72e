use Rattle.std.proofs.Common.{refl, sym, ◌∙◌}
use Rattle.tk_append.proofs.HeadSteps.{piece_none, piece_next, piece_other}
use Rattle.tk_append.proofs.heads.head_fault_in.Goals as goal

pub loop-i-init : goal.loop-i-init
loop-i-init c = piece_none c.args.heads.now c.args.bytes.now c.args.first

pub loop-i-preserved : goal.loop-i-preserved
loop-i-preserved c =
    piece_next c.args.heads.now c.args.bytes.now c.args.first c.loop-i.i c.args.count c.loop-i.invariant c.requires.bytes c.loop-i-test.true c.requires.heads (sym c.u64_at.ensures ∙ c.if-u64_at-heads.false)

pub returns-then-u64_at-heads-clause-fault : goal.returns-then-u64_at-heads-clause-fault
returns-then-u64_at-heads-clause-fault c =
    piece_other c.args.heads.now c.args.bytes.now c.args.first c.loop-i.i c.args.count _ c.loop-i.invariant c.requires.bytes c.loop-i-test.true c.requires.heads (λ e. c.if-u64_at-heads.true (c.u64_at.ensures ∙ e)) refl
