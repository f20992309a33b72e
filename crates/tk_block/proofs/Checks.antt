-- A check is one hash that goes on from the bytes to the place.
use Rattle.std.proofs.Common.{◌≡◌, ℕ, ◌*◌, ◌%◌, ◌^◌, List, [], ◌∷◌, ◌++◌, refl}
use Rattle.std.specs.Prelude.{bit_xor}
use Rattle.std.specs.Int.{w64, to_be_bytes}
use Rattle.tk_model.specs.Hashes.{fnv_from, fnv32_of}
use Rattle.tk_block.specs.Text.{check_number}

pub fnv_from-append : (size factor hash : ℕ) (xs ys : List ℕ) → fnv_from size factor hash (xs ++ ys) ≡ fnv_from size factor (fnv_from size factor hash xs) ys
fnv_from-append size factor hash [] ys = refl
fnv_from-append size factor hash (x ∷ xs) ys = fnv_from-append size factor (bit_xor hash x * factor % size) xs ys

pub joined : (bytes : List ℕ) (place : ℕ) → check_number bytes place ≡ fnv_from (2 ^ 32) 16777619 (fnv32_of bytes) (to_be_bytes w64 place)
unfolding check_number fnv32_of
joined bytes place = fnv_from-append (2 ^ 32) 16777619 2166136261 bytes (to_be_bytes w64 place)
