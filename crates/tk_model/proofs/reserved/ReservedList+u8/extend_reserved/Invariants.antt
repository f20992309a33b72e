use Rattle.std.proofs.Common.{◌≡◌, ◌++◌, ◌+◌, take}
use Rattle.tk_model.proofs.reserved.ReservedList+u8.extend_reserved.Given as goal

abbrev pub invariant-loop-byte : goal.invariant-loop-byte
invariant-loop-byte l = record {
  items : l.self.items ≡ l.initial.self.items ++ take l.byte-index l.bytes;
  room : l.self.room + l.byte-index ≡ l.initial.self.room;
}
