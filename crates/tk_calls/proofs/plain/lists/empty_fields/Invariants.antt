use Rattle.std.proofs.Common.{◌≡◌, ◌++◌, drop, map}
use Rattle.tk_calls.specs.Planned.{empty_field}
use Rattle.tk_calls.proofs.plain.lists.empty_fields.Given as goal

abbrev pub invariant-loop-field : goal.invariant-loop-field
invariant-loop-field l = l.empty ++ map empty_field (drop l.field-index l.fields) ≡ map empty_field l.fields
