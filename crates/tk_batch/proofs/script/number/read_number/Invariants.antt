use Rattle.std.proofs.Common.{◌≡◌, ◌≤◌, drop}
use Rattle.tk_batch.specs.Numbers.{digits_in, number_in}
use Rattle.tk_batch.proofs.script.number.read_number.Given as goal

abbrev pub invariant-loop-byte : goal.invariant-loop-byte
invariant-loop-byte l = record {
  small : l.number ≤ l.most;
  reads : number_in l.text ≡ digits_in l.number (drop l.byte-index l.text);
}
