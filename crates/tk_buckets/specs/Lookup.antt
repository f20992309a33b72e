-- What a look-up along a chain finds, and what it reads.
use Rattle.std.specs.Prelude.{◌≡◌, ℕ, ◌+◌, ◌-◌, ◌≤◌, min, max, Bool, false, List, [], ◌∷◌, length, take, drop, Option, Some, None, if◌then◌else◌, ◌==◌, ◌&&◌}
use Rattle.tk_model.specs.Orders.{same_bytes}
use Rattle.tk_block.specs.Sizes.{body_offset, key_offset, check_size, least_extent}
use Rattle.tk_block.specs.Blocks.{body_at, room_of}
use Rattle.tk_block.specs.Layout.{Placed}
use Rattle.tk_block.specs.declared.block.Body.{Body}
use Rattle.tk_block.specs.declared.head.StaticHead.{StaticHead}
use Rattle.tk_buckets.specs.Chain.{IsWhole, extent_in}
use Rattle.tk_buckets.specs.declared.lookup.FoundBlock.{FoundBlock}

-- the body of the block at a place
abbrev pub body_in_block : List ℕ → (place : ℕ) → Option Body
body_in_block f place = body_at (drop (place + body_offset) f) place

-- a block stands whole at its place, with its extent and its body
pub record StandsAt (h : StaticHead) (f : List ℕ) (x : Placed) : Type 0 where
  pub whole : IsWhole h f x.place
  pub extent : extent_in f x.place ≡ x.extent
  pub says : body_in_block f x.place ≡ Some x.body

-- each of these blocks does
abbrev pub AllStand : StaticHead → List ℕ → List Placed → Type 0
AllStand h f [] = Unit {0}
AllStand h f (x ∷ xs) = StandsAt h f x × AllStand h f xs

-- a body of this key
abbrev pub has_key : (key : List ℕ) → Option Body → Bool
has_key key None = false
has_key key (Some b) = same_bytes key b.key

-- the first of these places whose block has the key
abbrev pub place_of : List ℕ → (key : List ℕ) → List ℕ → Option ℕ
place_of f key [] = None
place_of f key (q ∷ qs) = if has_key key (body_in_block f q) then Some q else place_of f key qs

-- a body whose key has this one's length and first eight letters
abbrev pub may_have : (key : List ℕ) → Body → Bool
may_have key b = (length b.key == length key) && same_bytes (take (min (length key) 8) key) (take (min (length key) 8) b.key)

-- what is read of a block: 48 bytes; of one that may have the key, as far as its value ends or there is room for
abbrev pub read_of_block : (key : List ℕ) → (room : ℕ) → Option Body → ℕ
read_of_block key room None = least_extent
read_of_block key room (Some b) = if may_have key b then max least_extent (min (room_of b - check_size) room) else least_extent

-- the same of the blocks at these places, up to the first that has the key
abbrev pub read_of_chain : List ℕ → (key : List ℕ) → (room : ℕ) → List ℕ → ℕ
read_of_chain f key room [] = 0
read_of_chain f key room (q ∷ qs) =
    read_of_block key room (body_in_block f q) + (if has_key key (body_in_block f q) then 0 else read_of_chain f key room qs)

-- what is told of a block is so of the block at its place, which has the key; the buffer has its value from byte 40 and the
-- key's length on, as far as there is room
pub record IsBlockOf (f key buffer : List ℕ) (x : FoundBlock) : Type 0 where
  pub body : Body
  pub says : body_in_block f x.place ≡ Some body
  pub key_is : body.key ≡ key
  pub extent : x.extent ≡ extent_in f x.place
  pub kind : x.kind ≡ body.kind
  pub value_len : x.value_len ≡ length body.value
  pub value : (n : ℕ) → n ≤ length body.value → key_offset + length key + n ≤ length buffer → take n (drop (key_offset + length key) buffer) ≡ take n body.value

-- what a look-up along these places answers
abbrev pub Finds : (f key : List ℕ) → List ℕ → (buffer : List ℕ) → Option FoundBlock → Type 0
Finds f key places buffer None = place_of f key places ≡ None
Finds f key places buffer (Some x) = (place_of f key places ≡ Some x.place) × IsBlockOf f key buffer x
