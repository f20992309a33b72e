use Rattle.std.proofs.Common.{sym, ◌∙◌}
use Rattle.tk_batch.proofs.Fields.{field_more, field_bad, field_last, field_last_bad}
use Rattle.tk_batch.proofs.script.read.read_fields.Goals as goal

pub returns-in_default-2 : goal.returns-in_default-2
returns-in_default-2 c = field_bad c.args.line.now c.loop-field.rest.now c.in-Some.field.now c.in-Some.behind.now c.loop-field.fields.items c.loop-field.invariant c.in-Some.ensures.found c.in-Some.ensures.first (sym c.in_default-2.is ∙ c.in_ok-bytes.ensures)

pub loop-field-preserved : goal.loop-field-preserved
loop-field-preserved c = field_more c.args.line.now c.loop-field.rest.now c.in-Some.field.now c.in-Some.behind.now c.loop-field.fields.items c.push.new.self.items c.in-Some-2.bytes c.loop-field.invariant c.in-Some.ensures.found c.in-Some.ensures.first (sym c.in-Some-2.is ∙ c.in_ok-bytes.ensures) c.in_ok-push.ensures.items

pub returns-in_default-3 : goal.returns-in_default-3
returns-in_default-3 c = field_last_bad c.args.line.now c.loop-field.rest.now c.loop-field.fields.items c.loop-field.invariant c.in_default.ensures.none (sym c.in_default-3.is ∙ c.in_ok-bytes-2.ensures)

pub returns : goal.returns
returns c = field_last c.args.line.now c.loop-field.rest.now c.loop-field.fields.items c.push-2.new.self.items c.in-Some-3.bytes c.loop-field.invariant c.in_default.ensures.none (sym c.in-Some-3.is ∙ c.in_ok-bytes-2.ensures) c.in_ok-push-2.ensures.items
