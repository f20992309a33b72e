use Rattle.std.proofs.Common.{sym, ◌∙◌, ap, Vec, Global}
use Rattle.std.specs.Prelude.{Option, option_map}
use Rattle.tk_model.specs.declared.bytes.Bytes.{Bytes}
use Rattle.tk_batch.specs.Script.{line_of}
use Rattle.tk_batch.proofs.Fields.{line_none, line_some, read_by}
use Rattle.tk_batch.proofs.script.read.read_line.Goals as goal

pub returns-in_default-clause-line : goal.returns-in_default-clause-line
returns-in_default-clause-line c = line_none c.args.rules.now c.args.text.now
    (ap (λ (o : Option (Vec Bytes Global)). option_map (λ v. v.items) o) (sym c.in_default.is) ∙ c.in_ok-fields.ensures)

pub returns-clause-line : goal.returns-clause-line
returns-clause-line c = read_by c.line_of.result (line_of c.args.rules.now c.as_slice.result.now) _ c.line_of.ensures.line
    (ap (line_of c.args.rules.now) c.as_slice.ensures.value ∙ line_some c.args.rules.now c.args.text.now c.in-Some.fields.items (ap (λ (o : Option (Vec Bytes Global)). option_map (λ v. v.items) o) (sym c.in-Some.is) ∙ c.in_ok-fields.ensures))
