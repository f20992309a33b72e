use Rattle.std.proofs.Common.{◌≡◌, ◌^◌, drop}
use Rattle.tk_model.specs.Hashes.{fnv_from, fnv64_of}
use Rattle.tk_model.proofs.hash.fnv64.Given as goal

abbrev pub invariant-loop-byte : goal.invariant-loop-byte
invariant-loop-byte l = fnv_from (2 ^ 64) 1099511628211 l.hash (drop l.byte-index l.bytes) ≡ fnv64_of l.bytes
