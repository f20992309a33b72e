use Rattle.std.proofs.Common.{refl}
use Rattle.tk_batch.proofs.Tabs.{tabs_more, tabs_text, tabs_back, themselves}
use Rattle.tk_batch.proofs.script.write.put_fields.Goals as goal

pub loop-field-preserved : goal.loop-field-preserved
loop-field-preserved c =
    let field = c.field-item.result in
    let same = c.as_slice.ensures in
    tabs_more themselves (λ x xs. refl) c.args.out.now c.loop-field.out c.put_one.new.out c.args.fields.now c.loop-field.field-index field c.loop-field.invariant c.loop-field-test.true c.field-item.is
    (rw same at c.in_ok-put_one.ensures.ok) (rw same at c.in_ok-put_one.ensures.back)

pub returns-clause-ok : goal.returns-clause-ok
returns-clause-ok c = tabs_text themselves c.args.out.now c.loop-field.out c.args.fields.now c.loop-field.field-index c.loop-field.invariant refl c.loop-field-test.false

pub returns-clause-back : goal.returns-clause-back
returns-clause-back c = tabs_back themselves c.args.out.now c.loop-field.out c.args.fields.now c.loop-field.field-index c.loop-field.invariant refl c.loop-field-test.false
