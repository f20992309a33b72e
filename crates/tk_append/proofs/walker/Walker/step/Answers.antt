use Rattle.std.proofs.Common.{◌≡◌, arith, subst, sym}
use Rattle.std.specs.Prelude.{Result, Ok, Err, IfErr}
use Rattle.std.specs.Result.{IsErrAnd}
use Rattle.tk_model.specs.declared.error.OpenError.{OpenError}
use Rattle.tk_block.specs.Blocks.{body_said}
use Rattle.tk_append.specs.Walked.{Fails}
use Rattle.tk_append.proofs.WalkerSteps.{passed}
use Rattle.tk_append.proofs.walker.Walker.step.Goals as goal

pub returns-clause-passed : goal.returns-clause-passed
returns-clause-passed c w at =
    passed c.args.head.now c.args.shard w c.args.place c.in_ok-found.found.extent c.args.bytes.now (body_said c.in_ok-found.found.block) c.pass.new.self (λ i. omega (arith, c.type_inv.bytes i)) (c.in_ok-found.ensures.found w (c.look_ahead.ensures.same c.args.place w at))
    (λ next of_kind further. c.in_ok-pass.ensures.walked w next (c.look_ahead.ensures.same c.args.place w at) of_kind further)

failed : {T : Type 0} (r : Result T OpenError) (cause : OpenError) (P : OpenError → Type 0) → IsErrAnd r (λ e. e ≡ cause) → P cause → IfErr r P
failed (Ok x) cause P is fails = tt
failed (Err e) cause P is fails = subst P (sym is) fails

pub returns-in_err-found-clause-fails : goal.returns-in_err-found-clause-fails
returns-in_err-found-clause-fails c w at =
    failed c.from_residual-in_err-found.result c.in_err-found.field-0.0 (Fails c.args.head.now c.args.shard w c.args.place c.args.bytes.now) c.from_residual-in_err-found.ensures.1
    (c.in_err-found.ensures.fails w (c.look_ahead.ensures.same c.args.place w at))
