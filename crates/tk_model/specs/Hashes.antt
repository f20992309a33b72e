-- FNV-1a, the mixing of its 64 bits, and where a mixed hash puts a key.
use Rattle.std.specs.Prelude.{ℕ, ◌*◌, ◌/◌, ◌%◌, ◌^◌, ◌-◌, List, [], ◌∷◌, bit_xor}

-- for each byte: xor it, then multiply modulo the size
abbrev pub fnv_from : (size factor hash : ℕ) → List ℕ → ℕ
fnv_from size factor hash [] = hash
fnv_from size factor hash (b ∷ bs) = fnv_from size factor (bit_xor hash b * factor % size) bs

unfoldable pub fnv32_of : List ℕ → ℕ
fnv32_of bytes = fnv_from (2 ^ 32) 16777619 2166136261 bytes

unfoldable pub fnv64_of : List ℕ → ℕ
fnv64_of bytes = fnv_from (2 ^ 64) 1099511628211 14695981039346656037 bytes

-- x ^ (x >> 33)
abbrev pub folded : ℕ → ℕ
folded x = bit_xor x (x / 2 ^ 33)

abbrev pub mixed : ℕ → ℕ
mixed x = folded (folded (folded x * 0xff51afd7ed558ccd % 2 ^ 64) * 0xc4ceb9fe1a85ec53 % 2 ^ 64)

unfoldable pub mix_of : List ℕ → ℕ
mix_of key = mixed (fnv64_of key)

-- the top p of 64 bits
abbrev pub bucket_of : (mix p : ℕ) → ℕ
bucket_of mix p = mix / 2 ^ (64 - p)

-- bits 16 to 31 modulo n
abbrev pub shard_of : (mix n : ℕ) → ℕ
shard_of mix n = mix / 2 ^ 16 % 2 ^ 16 % n
