use Rattle.std.proofs.Common.{◌≡◌, ◌<◌, ◌^◌, drop}
use Rattle.tk_model.specs.Orders.{number_from, held, magnitude}
use Rattle.tk_model.proofs.order.magnitude_of.Given as goal

abbrev pub invariant-loop-byte : goal.invariant-loop-byte
invariant-loop-byte l = record {
  same : held (number_from l.base l.number (drop l.byte-index l.text)) ≡ magnitude l.base l.text;
  small : l.number < 2 ^ 127;
}
