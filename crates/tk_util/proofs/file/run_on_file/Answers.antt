use Rattle.std.proofs.Common.{sym, ◌∙◌, inl, inr, arith}
use Rattle.tk_util.proofs.GetEndings.{reply_value, nothing_ran, line_ran, front_ran}
use Rattle.tk_util.proofs.file.run_on_file.Goals as goal

pub returns-then-finish-ne0-clause-ran : goal.returns-then-finish-ne0-clause-ran
returns-then-finish-ne0-clause-ran g c = λ left tells. nothing_ran c.args.command _ _ left _ _ _ (c.run_unprinted-finish.ensures.ran left (g.W.Sink.held c.args.out.now) tells) (inl c.if-finish-ne0.true)

pub returns-in_default-clause-ran : goal.returns-in_default-clause-ran
returns-in_default-clause-ran g c = λ left tells.
    nothing_ran c.args.command _ _ left _ _ _ (c.run_unprinted-finish.ensures.ran left (g.W.Sink.held c.args.out.now) tells) (inr (sym (reply_value _) ∙ sym c.in_default.ensures))

pub returns-in-Ok-clause-ran : goal.returns-in-Ok-clause-ran
returns-in-Ok-clause-ran g c = λ left tells.
    line_ran _ _ left _ _ _ _ c.args.command (c.run_unprinted-finish.ensures.ran left (g.W.Sink.held c.args.out.now) tells) c.in-Some.value.now (sym (reply_value _) ∙ sym c.in-Some.ensures) (omega (arith, c.if-finish-ne0.false)) c.in-Ok.ensures.ok

pub returns-in-Err-Fault-clause-ran : goal.returns-in-Err-Fault-clause-ran
returns-in-Err-Fault-clause-ran g c = λ left tells.
    front_ran _ _ left _ _ _ _ c.args.command _ (c.run_unprinted-finish.ensures.ran left (g.W.Sink.held c.args.out.now) tells) c.in-Some.value.now (inl c.with.ensures) (sym (reply_value _) ∙ sym c.in-Some.ensures) (omega (arith, c.if-finish-ne0.false)) c.in-Err-Fault.ensures.err

pub returns-clause-ran : goal.returns-clause-ran
returns-clause-ran g c = λ left tells.
    front_ran _ _ left _ _ _ _ c.args.command _ (c.run_unprinted-finish.ensures.ran left (g.W.Sink.held c.args.out.now) tells) c.in-Some.value.now (inr c.with-in-Err-NoMemory.ensures) (sym (reply_value _) ∙ sym c.in-Some.ensures) (omega (arith, c.if-finish-ne0.false)) c.in-Err-NoMemory.ensures.err
