-- The text of the header, of its closing part, and of the heads of blocks.
use Rattle.std.specs.Prelude.{ℕ, ◌+◌, ◌*◌, ◌%◌, ◌^◌, List, [], ◌∷◌, ◌++◌, slice_index, length, take, Option, Some, None, Bool, if◌then◌else◌, ◌&&◌, ◌==◌, nat_le, nat_lt}
use Rattle.std.specs.Int.{w32, w64, to_be_bytes}
use Rattle.std.specs.Str.{bytes_eq}
use Rattle.tk_model.specs.Hashes.{fnv32_of}
use Rattle.tk_block.specs.Sizes.{static_size, closing_size, heads_place, cell_size, head_size, extent_offset, extent_unit, least_extent}
use Rattle.tk_block.specs.Number.{u64_in}
use Rattle.tk_block.specs.declared.head.StaticHead.{StaticHead}
use Rattle.tk_block.specs.declared.closing.Closing.{Closing}

-- the check of bytes at a place: fnv32 of the bytes and of the place as u64
unfoldable pub check_number : (bytes : List ℕ) (place : ℕ) → ℕ
check_number bytes place = fnv32_of (bytes ++ to_be_bytes w64 place)

-- bytes and behind them their check
unfoldable pub checked : (bytes : List ℕ) (place : ℕ) → List ℕ
checked bytes place = bytes ++ to_be_bytes w32 (check_number bytes place)

-- `TKB1` and the extent
unfoldable pub head_front : ℕ → List ℕ
head_front extent = 0x54 ∷ 0x4b ∷ 0x42 ∷ 0x31 ∷ to_be_bytes w64 extent

-- the head of a block at a place
unfoldable pub head_text : (extent place : ℕ) → List ℕ
head_text extent place = checked (head_front extent) place

-- a multiple of 8, at least 48
abbrev pub is_extent : ℕ → Bool
is_extent e = (e % extent_unit == 0) && nat_le least_extent e && nat_lt e (2 ^ 64)

-- the extent at the front of bytes that lie at a place, where they spell a head
unfoldable pub head_at : (bytes : List ℕ) (place : ℕ) → Option ℕ
head_at bytes place =
    let e = u64_in bytes extent_offset in
    if nat_le head_size (length bytes) && is_extent e && bytes_eq (take head_size bytes) (head_text e place) then Some e else None

-- where the records begin
abbrev pub base_of : ℕ → ℕ
base_of p = heads_place + cell_size * 2 ^ p

-- `TKPHASH` and LF, kind, version, p, order, generation, records' base
unfoldable pub static_front : StaticHead → List ℕ
static_front h =
    0x54 ∷ 0x4b ∷ 0x50 ∷ 0x48 ∷ 0x41 ∷ 0x53 ∷ 0x48 ∷ 0x0a ∷ h.kind ∷ h.version ∷ h.p ∷ h.order ∷ to_be_bytes w64 h.generation ++ to_be_bytes w64 (base_of h.p)

-- kind 1 to 3, version 1, p at most 24, and an order that fits the kind
abbrev pub is_static : StaticHead → Bool
is_static h = nat_le 1 h.kind && nat_le h.kind 3 && (h.version == 1) && nat_le h.p 24 && (if h.kind == 3 then nat_le 1 h.order && nat_le h.order 4 else h.order == 0)

-- the static header
unfoldable pub static_text : StaticHead → List ℕ
static_text h = static_front h ++ to_be_bytes w32 (fnv32_of (static_front h))

abbrev pub fields_in : List ℕ → StaticHead
fields_in bytes = record { kind = slice_index bytes 8; version = slice_index bytes 9; p = slice_index bytes 10; order = slice_index bytes 11; generation = u64_in bytes 12 }

-- the header that the first 32 bytes spell
unfoldable pub static_at : List ℕ → Option StaticHead
static_at bytes =
    if nat_le static_size (length bytes) && is_static (fields_in bytes) && bytes_eq (take static_size bytes) (static_text (fields_in bytes)) then Some (fields_in bytes) else None

-- closed size, count of records, next number, four zero bytes
unfoldable pub closing_front : Closing → List ℕ
closing_front c = to_be_bytes w64 c.size ++ (to_be_bytes w64 c.count ++ (to_be_bytes w64 c.next ++ (0 ∷ 0 ∷ 0 ∷ 0 ∷ [])))

-- the closing part of the header
unfoldable pub closing_text : Closing → List ℕ
closing_text c = closing_front c ++ to_be_bytes w32 (fnv32_of (closing_front c))

abbrev pub closing_in : List ℕ → Closing
closing_in bytes = record { size = u64_in bytes 0; count = u64_in bytes 8; next = u64_in bytes 16 }

-- the closing part that the first 32 bytes spell
unfoldable pub closing_at : List ℕ → Option Closing
closing_at bytes =
    if nat_le closing_size (length bytes) && bytes_eq (take closing_size bytes) (closing_text (closing_in bytes)) then Some (closing_in bytes) else None
