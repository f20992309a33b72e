-- The text of blocks.
use Rattle.std.specs.Prelude.{ℕ, ◌+◌, ◌*◌, ◌-◌, ◌/◌, ◌^◌, ◌<◌, ◌≤◌, max, List, [], ◌∷◌, ◌++◌, length, Bool, true, false, replicate, slice_index, take, drop, Option, Some, None, if◌then◌else◌, ◌&&◌, ◌||◌, ◌==◌, nat_le}
use Rattle.std.specs.Int.{w16, w32, w64, to_be_bytes}
use Rattle.std.specs.Str.{bytes_eq}
use Rattle.tk_block.specs.Sizes.{numbers_size, check_size, block_overhead, extent_unit, least_extent}
use Rattle.tk_block.specs.Number.{u16_in, u32_in, u64_in}
use Rattle.tk_block.specs.Text.{checked, head_text}
use Rattle.tk_model.specs.declared.record.Change.{Change}
use Rattle.tk_model.specs.declared.record.Change.TheVariants.{Put, Drop, Clear}
use Rattle.tk_block.specs.declared.block.Body.{Body}
use Rattle.tk_block.specs.declared.block.Block.{Block}

abbrev pub flag : Bool → ℕ
flag true = 1
flag false = 0

-- kind, flag, lengths and number
unfoldable pub numbers_text : Body → List ℕ
numbers_text b = b.kind ∷ flag b.last ∷ to_be_bytes w16 (length b.key) ++ to_be_bytes w32 (length b.value) ++ to_be_bytes w64 b.number

-- a body as far as its check
abbrev pub body_front : Body → List ℕ
body_front b = numbers_text b ++ b.key ++ b.value

-- the body of a block at a place
abbrev pub body_text : (b : Body) (place : ℕ) → List ℕ
body_text b place = checked (body_front b) place

-- the bytes of a block without padding
abbrev pub room_of : Body → ℕ
room_of b = block_overhead + length b.key + length b.value

-- the least extent that fits: a multiple of 8, at least 48
abbrev pub extent_for : ℕ → ℕ
extent_for room = max least_extent ((room + (extent_unit - 1)) / extent_unit * extent_unit)

abbrev pub extent_of : Body → ℕ
extent_of b = extent_for (room_of b)

-- head, link, body and padding
unfoldable pub block_with : (b : Body) (place extent link : ℕ) (padding : List ℕ) → List ℕ
block_with b place extent link padding = head_text extent place ++ to_be_bytes w64 link ++ body_text b place ++ padding

-- a block as it is appended: of the least extent, with zero bytes behind its body
unfoldable pub block_text : (b : Body) (place link : ℕ) → List ℕ
block_text b place link = block_with b place (extent_of b) link (replicate (extent_of b - room_of b) 0)

-- the body that a block says
abbrev pub body_said : Block → Body
body_said b = record { kind = b.kind; last = b.last; key = b.key.now; value = b.value.now; number = b.number }

-- the same body under another number
abbrev pub numbered : (number : ℕ) → Body → Body
numbered number b = record { kind = b.kind; last = b.last; key = b.key; value = b.value; number = number }

-- key and value are within the limits of a block
pub record IsSmall (key value : List ℕ) : Type 0 where
  pub key_fits : length key < 2 ^ 16
  pub value_fits : length value ≤ 33554431

abbrev pub kind_of : Change → ℕ
kind_of (Put pair) = 1
kind_of (Drop key) = 2
kind_of Clear = 4

abbrev pub key_of : Change → List ℕ
key_of (Put pair) = pair.key
key_of (Drop key) = key
key_of Clear = []

abbrev pub value_of : Change → List ℕ
value_of (Put pair) = pair.value
value_of (Drop key) = []
value_of Clear = []

-- the body of a change
abbrev pub body_of : (number : ℕ) → Change → (last : Bool) → Body
body_of number change last = record { kind = kind_of change; last = last; key = key_of change; value = value_of change; number = number }

abbrev pub is_nil : {A : Type 0} → List A → Bool
is_nil [] = true
is_nil (x ∷ xs) = false

-- the bodies of a group: all with its number, the last with the flag
abbrev pub group_bodies : (number : ℕ) → List Change → List Body
group_bodies number [] = []
group_bodies number (c ∷ cs) = body_of number c (is_nil cs) ∷ group_bodies number cs

-- each change is within the limits of a block
abbrev pub AllSmall : List Change → Type 0
AllSmall [] = Unit {0}
AllSmall (c ∷ cs) = IsSmall (key_of c) (value_of c) × AllSmall cs

-- kinds 1 to 4; only a set has a value, only a set or a remove has a key, and a value is within its limit
abbrev pub is_body : Body → Bool
is_body b =
    nat_le 1 b.kind && nat_le b.kind 4 && nat_le (length b.value) 33554431 && ((b.kind == 1) || is_nil b.value) && (nat_le b.kind 2 || is_nil b.key)

abbrev pub body_in : List ℕ → Body
body_in bytes = record {
  kind = slice_index bytes 0;
  last = slice_index bytes 1 == 1;
  key = take (u16_in bytes 2) (drop numbers_size bytes);
  value = take (u32_in bytes 4) (drop (numbers_size + u16_in bytes 2) bytes);
  number = u64_in bytes 8;
}

-- where the check stands, by the lengths at the front
abbrev pub check_in : List ℕ → ℕ
check_in bytes = numbers_size + u16_in bytes 2 + u32_in bytes 4

-- the body at the front of bytes that lie at a place, where they spell one
unfoldable pub body_at : (bytes : List ℕ) (place : ℕ) → Option Body
body_at bytes place =
    if nat_le (check_in bytes + check_size) (length bytes) && is_body (body_in bytes) && bytes_eq (take (check_in bytes + check_size) bytes) (body_text (body_in bytes) place) then Some (body_in bytes) else None
