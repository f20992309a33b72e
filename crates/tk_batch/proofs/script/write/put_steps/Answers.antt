use Rattle.std.proofs.Common.{refl}
use Rattle.tk_batch.specs.Written.{step_fields}
use Rattle.tk_batch.proofs.Tabs.{tabs_more, tabs_text, tabs_back, with_step}
use Rattle.tk_batch.proofs.script.write.put_steps.Goals as goal

pub loop-step-preserved : goal.loop-step-preserved
loop-step-preserved c =
    tabs_more step_fields with_step c.args.out.now c.loop-step.out c.put_step.new.out c.args.steps.now c.loop-step.step-index c.step-item.result c.loop-step.invariant c.loop-step-test.true c.step-item.is c.in_ok-put_step.ensures.ok c.in_ok-put_step.ensures.back

pub returns-clause-ok : goal.returns-clause-ok
returns-clause-ok c = tabs_text step_fields c.args.out.now c.loop-step.out c.args.steps.now c.loop-step.step-index c.loop-step.invariant refl c.loop-step-test.false

pub returns-clause-back : goal.returns-clause-back
returns-clause-back c = tabs_back step_fields c.args.out.now c.loop-step.out c.args.steps.now c.loop-step.step-index c.loop-step.invariant refl c.loop-step-test.false
