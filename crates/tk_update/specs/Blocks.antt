-- The blocks of an updating file, in rising places, and what changes make of them.
use Rattle.std.specs.Prelude.{◌≡◌, ℕ, ◌+◌, ◌-◌, ◌≤◌, Bool, true, List, [], ◌∷◌, Option, Some, None, if◌then◌else◌, ◌&&◌, ◌==◌, nat_le}
use Rattle.tk_model.specs.Orders.{same_bytes}
use Rattle.tk_model.specs.Records.{put}
use Rattle.tk_model.specs.declared.record.Order.{Order}
use Rattle.tk_model.specs.declared.record.Pair.{Pair}
use Rattle.tk_model.specs.declared.record.Group.{Group}
use Rattle.tk_model.specs.declared.record.Change.{Change}
use Rattle.tk_model.specs.declared.record.Change.TheVariants as changes
use Rattle.tk_block.specs.Sizes.{least_extent}
use Rattle.tk_block.specs.Blocks.{body_of, room_of, extent_of}
use Rattle.tk_block.specs.Layout.{Placed}
use Rattle.tk_block.specs.declared.block.Body.{Body}

-- ---- what is done to a list of blocks

abbrev pub set_body : Pair → (number : ℕ) → Body
set_body new n = body_of n (changes.Put new) true

abbrev pub void_body : (number : ℕ) → Body
void_body n = record { kind = 3; last = true; key = []; value = []; number = n }

-- the block sets the key
abbrev pub is_of : (key : List ℕ) → Body → Bool
is_of k b = (b.kind == 1) && same_bytes k b.key

-- the first block that sets a key
abbrev pub block_of : (key : List ℕ) → List Placed → Option Placed
block_of k [] = None
block_of k (x ∷ xs) = if is_of k x.body then Some x else block_of k xs

-- of two voids the one of lesser extent, the first among equals
abbrev pub better : Option Placed → Option Placed → Option Placed
better None y = y
better (Some x) None = Some x
better (Some x) (Some y) = if nat_le x.extent y.extent then Some x else Some y

-- the void of the least extent that fits, the lowest place among equals
abbrev pub best_void : (room : ℕ) → List Placed → Option Placed
best_void room [] = None
best_void room (x ∷ xs) = better (if (x.body.kind == 3) && nat_le room x.extent then Some x else None) (best_void room xs)

-- where the blocks end
abbrev pub end_behind : (place : ℕ) → List Placed → ℕ
end_behind place [] = place
end_behind place (x ∷ xs) = end_behind (x.place + x.extent) xs

-- a block of the least extent at the end
abbrev pub appended : (base : ℕ) → Body → List Placed → List Placed
appended base b [] = record { place = base; extent = extent_of b; body = b } ∷ []
appended base b (x ∷ xs) = x ∷ appended (x.place + x.extent) b xs

-- another body for the block at a place
abbrev pub written_at : (place : ℕ) → Body → List Placed → List Placed
written_at place b [] = []
written_at place b (x ∷ xs) = if x.place == place then record { place = x.place; extent = x.extent; body = b } ∷ xs else x ∷ written_at place b xs

-- each block of the key is made void
abbrev pub voided : (key : List ℕ) → (number : ℕ) → List Placed → List Placed
voided k n [] = []
voided k n (x ∷ xs) = (if is_of k x.body then record { place = x.place; extent = x.extent; body = void_body n } else x) ∷ voided k n xs

-- into a void, or to the end
abbrev pub put_into : (base : ℕ) → Body → Option Placed → List Placed → List Placed
put_into base b (Some v) blocks = written_at v.place b blocks
put_into base b None blocks = appended base b blocks

-- where the key's block is large enough it is overwritten; else the body goes into the best void or to the end, and the older block is void
abbrev pub put_over : (base : ℕ) → Pair → (number : ℕ) → Option Placed → List Placed → List Placed
put_over base new n (Some x) blocks =
    if nat_le (room_of (set_body new n)) x.extent then written_at x.place (set_body new n) blocks
    else put_into base (set_body new n) (best_void (room_of (set_body new n)) blocks) (voided new.key n blocks)
put_over base new n None blocks = put_into base (set_body new n) (best_void (room_of (set_body new n)) blocks) blocks

abbrev pub put_block : (base : ℕ) → Pair → (number : ℕ) → List Placed → List Placed
put_block base new n blocks = put_over base new n (block_of new.key blocks) blocks

abbrev pub blocks_after_one : (base number : ℕ) → Change → List Placed → List Placed
blocks_after_one base n (changes.Put new) blocks = put_block base new n blocks
blocks_after_one base n (changes.Drop k) blocks = voided k n blocks
blocks_after_one base n changes.Clear blocks = []

-- the blocks after the changes of a group
abbrev pub blocks_after : (base number : ℕ) → List Change → List Placed → List Placed
blocks_after base n [] blocks = blocks
blocks_after base n (c ∷ cs) blocks = blocks_after base n cs (blocks_after_one base n c blocks)

-- and after groups
abbrev pub replay_blocks : (base : ℕ) → List Group → List Placed → List Placed
replay_blocks base [] blocks = blocks
replay_blocks base (g ∷ gs) blocks = replay_blocks base gs (blocks_after base g.number g.changes blocks)

-- how much longer the file is after the changes; 0 after a clear
abbrev pub need_of : (base number : ℕ) → List Change → List Placed → ℕ
need_of base n cs blocks = end_behind base (blocks_after base n cs blocks) - end_behind base blocks

-- ---- what is always so of it

-- the blocks follow one another from a place on, and each has room for its body
abbrev pub AreInLine : (place : ℕ) → List Placed → Type 0
AreInLine place [] = Unit {0}
AreInLine place (x ∷ xs) = (x.place ≡ place) × (least_extent ≤ x.extent) × (room_of x.body ≤ x.extent) × AreInLine (place + x.extent) xs

-- no key has two blocks
abbrev pub KeyIsOnce : Placed → List Placed → Type 0
KeyIsOnce x xs = x.body.kind ≡ 1 → block_of x.body.key xs ≡ None

abbrev pub KeysAreOnce : List Placed → Type 0
KeysAreOnce [] = Unit {0}
KeysAreOnce (x ∷ xs) = KeyIsOnce x xs × KeysAreOnce xs

-- the old blocks keep place and extent; others come behind them
abbrev pub KeepPlaces : (old new : List Placed) → Type 0
KeepPlaces [] new = Unit {0}
KeepPlaces (x ∷ xs) [] = ⊥
KeepPlaces (x ∷ xs) (y ∷ ys) = (y.place ≡ x.place) × (y.extent ≡ x.extent) × KeepPlaces xs ys

-- ---- contents

abbrev pub with_record : Order → Body → List Pair → List Pair
with_record o b m = if b.kind == 1 then put o (record { key = b.key; value = b.value }) m else m

-- the records of the set blocks
abbrev pub records_in : Order → List Placed → List Pair
records_in o [] = []
records_in o (x ∷ xs) = with_record o x.body (records_in o xs)

abbrev pub value_in : Option Placed → Option (List ℕ)
value_in None = None
value_in (Some x) = Some x.body.value
