-- The orders of keys.
use Rattle.std.specs.Prelude.{ℕ, ◌+◌, ◌*◌, ◌-◌, ◌^◌, ◌==◌, Bool, List, [], ◌∷◌, ℤ, pos, neg_ℤ, map, min, nat_eq, if◌then◌else◌}
use Rattle.std.specs.Char.{digit_value, is_digit, to_ascii_lowercase}
use Rattle.std.specs.Ordering.{nat_cmp, int_cmp, on, then_cmp}
use Rattle.std.specs.Cmp.Lexicographic.{slice_cmp, pointwise}
use Rattle.std.specs.declared.cmp.Ordering.{Ordering}
use Rattle.tk_model.specs.Hashes.{mix_of}
use Rattle.tk_model.specs.declared.record.Order.{Order}
use Rattle.tk_model.specs.declared.record.Order.TheVariants as orders

-- two texts of the same bytes
unfoldable pub same_bytes : List ℕ → List ℕ → Bool
same_bytes a b = pointwise nat_eq a b

-- byte by byte, a proper prefix first
unfoldable pub bytes_cmp : List ℕ → List ℕ → Ordering
bytes_cmp a b = slice_cmp nat_cmp a b

-- A to Z become a to z
unfoldable pub lowered : List ℕ → List ℕ
lowered key = map to_ascii_lowercase key

-- the number that the longest front of digits goes on to write, after the digits of n
abbrev pub number_from : (base n : ℕ) → List ℕ → ℕ
number_from base n [] = n
number_from base n (c ∷ cs) = if is_digit c base then number_from base (n * base + digit_value c) cs else n

-- held at 2^127 - 1
unfoldable pub held : ℕ → ℕ
held n = min n (2 ^ 127 - 1)

-- the number of the longest front of digits, and 0 where it is empty
unfoldable pub magnitude : (base : ℕ) → List ℕ → ℕ
magnitude base text = held (number_from base 0 text)

-- a sign, or none, and then digits
unfoldable pub decimal : List ℕ → ℤ
decimal [] = pos 0
decimal (c ∷ cs) =
    if c == 45 then neg_ℤ (pos (magnitude 10 cs))
    else if c == 43 then pos (magnitude 10 cs)
    else pos (magnitude 10 (c ∷ cs))

unfoldable pub hexadecimal : List ℕ → ℕ
hexadecimal key = magnitude 16 key

-- how two keys compare
unfoldable pub key_cmp : Order → List ℕ → List ℕ → Ordering
key_cmp orders.Hash = then_cmp (on mix_of nat_cmp) bytes_cmp
key_cmp orders.Bytes = bytes_cmp
key_cmp orders.Case = then_cmp (on lowered bytes_cmp) bytes_cmp
key_cmp orders.Decimal = then_cmp (on decimal int_cmp) bytes_cmp
key_cmp orders.Hex = then_cmp (on hexadecimal nat_cmp) bytes_cmp
