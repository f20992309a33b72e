use Rattle.std.proofs.Common.{◌≡◌, ◌++◌, take}
use Rattle.tk_batch.specs.Output.{fields_text}
use Rattle.tk_batch.proofs.output.write.write_fields.Given as goal

abbrev pub invariant-loop-field : goal.invariant-loop-field
invariant-loop-field l = l.out ≡ l.initial.out ++ fields_text (take l.field-index l.fields)
