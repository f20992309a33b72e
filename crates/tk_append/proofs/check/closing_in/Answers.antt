use Rattle.std.proofs.Common.{sym, ◌∙◌, arith}
use Rattle.std.specs.Prelude.{Some, None}
use Rattle.tk_append.proofs.Checked.{behind_static, no_closing, other_size, small_size, closing_found}
use Rattle.tk_append.proofs.Fronts.{closing_front}
use Rattle.tk_append.proofs.check.closing_in.Goals.{then-closing-size-via-then-closing-size, then-closing-size-via-else-closing-size+then-closing-base_of}
use Rattle.tk_append.proofs.check.closing_in.Goals as goal

pub returns-in_default-clause-fails : goal.returns-in_default-clause-fails
returns-in_default-clause-fails c writable h shard f starts size same =
    no_closing writable h shard f (closing_front f c.args.front.now c.requires.long starts ∙ behind_static c.args.front.now None c.in_default.ensures.value)

pub returns-then-closing-size-clause-fails : goal.returns-then-closing-size-clause-fails
returns-then-closing-size-clause-fails c writable h shard f starts size same =
    let is = closing_front f c.args.front.now c.requires.long starts ∙ behind_static c.args.front.now (Some c.in-Some.closing) c.in-Some.ensures.value in
    elim c.then-closing-size.branch [
      | then-closing-size-via-then-closing-size w ↦ other_size writable h shard f c.in-Some.closing is (λ e. w.if-closing-size.true (e ∙ size))
      | then-closing-size-via-else-closing-size+then-closing-base_of w ↦
          small_size writable h shard f c.in-Some.closing c.args.p same is (w.if-closing-size.false ∙ sym size) (omega (arith, w.if-closing-base_of.true, w.base_of.ensures))
    ]

pub returns-clause-found : goal.returns-clause-found
returns-clause-found c f starts size =
    closing_found c.args.p f c.in-Some.closing (closing_front f c.args.front.now c.requires.long starts ∙ behind_static c.args.front.now (Some c.in-Some.closing) c.in-Some.ensures.value) (c.if-closing-size.false ∙ sym size) (omega (arith, c.if-closing-base_of.false, c.base_of.ensures))
