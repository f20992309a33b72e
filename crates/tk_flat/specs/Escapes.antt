-- Fields of a line: bytes written so that TAB and LF stand in none of them.
use Rattle.std.specs.Prelude.{ℕ, ◌+◌, ◌*◌, ◌/◌, ◌%◌, Bool, ◌||◌, ◌==◌, nat_le, nat_lt, if◌then◌else◌, List, [], ◌∷◌, Option, None, Some}
use Rattle.std.specs.Option.{option_map}
use Rattle.std.specs.List.{flat_map}
use Rattle.std.specs.Char.{digit_value, digit_char}

-- the bytes from the space to `~` are printed as they are, but for the backslash
abbrev pub needs_escape : ℕ → Bool
needs_escape b = nat_lt b 0x20 || nat_le 0x7f b || b == 0x5c

-- `\x` and two digits
abbrev pub hex_escape : ℕ → List ℕ
hex_escape b = 0x5c ∷ 0x78 ∷ digit_char (b / 16) ∷ digit_char (b % 16) ∷ []

-- `\t`, `\n`, `\\` or `\x` and two digits
abbrev pub escape_text : ℕ → List ℕ
escape_text b = if b == 0x09 then 0x5c ∷ 0x74 ∷ [] else (if b == 0x0a then 0x5c ∷ 0x6e ∷ [] else (if b == 0x5c then 0x5c ∷ 0x5c ∷ [] else hex_escape b))

abbrev pub byte_text : ℕ → List ℕ
byte_text b = if needs_escape b then escape_text b else b ∷ []

-- a field that is read as these bytes
unfoldable pub escaped : List ℕ → List ℕ
escaped bytes = flat_map byte_text bytes

abbrev pub followed : ℕ → Option (List ℕ) → Option (List ℕ)
followed b rest = option_map (λ bs. b ∷ bs) rest

-- The bytes that a field is read as, where it can be read.
unfoldable mutual
  pub unescaped : List ℕ → Option (List ℕ)
  unescaped [] = Some []
  unescaped (b ∷ bs) = if b == 0x5c then after_backslash bs else followed b (unescaped bs)

  pub after_backslash : List ℕ → Option (List ℕ)
  after_backslash [] = None
  after_backslash (b ∷ bs) =
      if b == 0x74 then followed 0x09 (unescaped bs)
      else (if b == 0x6e then followed 0x0a (unescaped bs)
      else (if b == 0x5c then followed 0x5c (unescaped bs)
      else (if b == 0x78 then first_digit bs
      else None)))

  pub first_digit : List ℕ → Option (List ℕ)
  first_digit [] = None
  first_digit (d ∷ bs) = if nat_lt (digit_value d) 16 then second_digit (digit_value d) bs else None

  pub second_digit : ℕ → List ℕ → Option (List ℕ)
  second_digit high [] = None
  second_digit high (d ∷ bs) = if nat_lt (digit_value d) 16 then followed (16 * high + digit_value d) (unescaped bs) else None
