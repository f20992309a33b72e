use Rattle.std.proofs.Common.{◌≡◌, ◌^◌, drop}
use Rattle.tk_model.specs.Hashes.{fnv_from}
use Rattle.tk_model.proofs.hash.fnv32_from.Given as goal

abbrev pub invariant-loop-byte : goal.invariant-loop-byte
invariant-loop-byte l =
    fnv_from (2 ^ 32) 16777619 l.hash (drop l.byte-index l.bytes)
    ≡ fnv_from (2 ^ 32) 16777619 l.initial.hash l.bytes
