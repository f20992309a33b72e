use Rattle.std.proofs.Common.{◌≡◌, ◌≤◌, ◌+◌, drop}
use Rattle.std.specs.Prelude.{count_by}
use Rattle.tk_flat.specs.Tsv.{is_lf}
use Rattle.tk_batch.proofs.script.read.count_lines.Given as goal

abbrev pub invariant-loop-byte : goal.invariant-loop-byte
invariant-loop-byte l = record {
  few : l.count ≤ l.byte-index;
  counted : l.count + count_by is_lf (drop l.byte-index l.bytes) ≡ count_by is_lf l.bytes;
}
