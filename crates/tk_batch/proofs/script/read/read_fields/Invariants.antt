use Rattle.std.proofs.Common.{◌≡◌, length}
use Rattle.tk_flat.specs.Tsv.{fields_of}
use Rattle.tk_batch.specs.Script.{all_unescaped}
use Rattle.tk_batch.proofs.Pairs.{after}
use Rattle.tk_batch.proofs.script.read.read_fields.Given as goal

abbrev pub invariant-loop-field : goal.invariant-loop-field
invariant-loop-field l = all_unescaped (fields_of l.line) ≡ after l.fields.items (all_unescaped (fields_of l.rest))

abbrev pub decreases-loop-field : goal.decreases-loop-field
decreases-loop-field l = length l.rest
