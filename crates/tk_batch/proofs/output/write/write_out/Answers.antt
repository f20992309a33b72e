use Rattle.std.proofs.Common.{◌++◌, ◌∷◌, [], ◌∙◌, ap}
use Rattle.std.specs.Prelude.{decimal}
use Rattle.tk_status.specs.Statuses.{text_of}
use Rattle.tk_batch.specs.Output.{number_text, fields_text}
use Rattle.tk_batch.proofs.Joins.{eight_parts}
use Rattle.tk_batch.proofs.output.write.write_out.Goals as goal

pub returns : goal.returns
returns c = eight_parts c.push-4.result c.args.out.now (number_text c.args.o.now.number) (9 ∷ []) (decimal c.args.worker) (9 ∷ []) (decimal c.args.line) (9 ∷ []) (text_of c.args.o.now.status) (fields_text c.args.o.now.fields) (10 ∷ [])
    _ _ _ _ _ _ _ _ _ c.in_ok-write_option.ensures c.in_ok-push.ensures.ok c.in_ok-write_number.ensures c.in_ok-push-2.ensures.ok c.in_ok-write_number-2.ensures c.in_ok-push-3.ensures.ok
    (c.in_ok-extend.ensures.ok ∙ ap (λ t. c.push-3.new.self ++ t) (c.as_bytes.ensures.value ∙ c.text.ensures)) (c.in_ok-write_fields.ensures ∙ ap (λ fs. c.extend.new.self ++ fields_text fs) c.as_slice.ensures) c.push-4.ensures.ok
