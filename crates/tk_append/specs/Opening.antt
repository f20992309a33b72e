-- What an opening of a file of kind 1 or 3 accepts, step by step, and what fails first in another file.
use Rattle.std.specs.Prelude.{ℕ, zero, suc, ◌+◌, ◌*◌, ◌-◌, ◌^◌, List, [], ◌∷◌, ◌++◌, length, take, drop, replicate, map, Bool, true, false, not, Option, Some, None, if◌then◌else◌, ◌&&◌, ◌||◌, ◌==◌, nat_le}
use Rattle.std.specs.List.{list_any}
use Rattle.std.specs.Str.{bytes_eq}
use Rattle.tk_model.specs.Records.{after}
use Rattle.tk_model.specs.Entries.{holds_key}
use Rattle.tk_model.specs.declared.record.Order.TheVariants.{Hash}
use Rattle.tk_model.specs.declared.record.Pair.{Pair}
use Rattle.tk_model.specs.declared.record.Change.{Change}
use Rattle.tk_model.specs.declared.record.Change.TheVariants.{Put, Drop, Clear}
use Rattle.tk_model.specs.declared.record.ShardOf.{ShardOf}
use Rattle.tk_model.specs.declared.error.OpenError.{OpenError}
use Rattle.tk_model.specs.declared.error.OpenError.TheVariants.{NotADatabase, BrokenAt}
use Rattle.tk_block.specs.Sizes.{closing_place, kind_place, next_place, heads_place, cell_size, link_offset, body_offset}
use Rattle.tk_block.specs.Number.{u64_in}
use Rattle.tk_block.specs.Text.{head_at, static_at, closing_at, base_of}
use Rattle.tk_block.specs.Blocks.{extent_of, room_of, body_at}
use Rattle.tk_block.specs.Layout.{placed, Placed, newest, link_of}
use Rattle.tk_block.specs.declared.block.Body.{Body}
use Rattle.tk_block.specs.declared.head.StaticHead.{StaticHead}
use Rattle.tk_block.specs.declared.closing.Closing.{Closing}

-- blocks that were walked over
pub record Walk : Type 0 where
  pub blocks : List Placed
  -- the least number that the next group may have
  pub least : ℕ
  -- the first block of the group that is not complete
  pub open_group : Option Placed

abbrev pub begin : Walk
begin = record { blocks = []; least = 0; open_group = None }

-- all blocks of a group have its number, which is above that of the group before; a clear is alone in its group
abbrev pub is_in_turn : (least : ℕ) → Option Placed → Body → Bool
is_in_turn least None b = nat_le least b.number && (not (b.kind == 4) || b.last)
is_in_turn least (Some first) b = (b.number == first.body.number) && not (b.kind == 4)

-- in a file of kind 1 the key of a set or remove block belongs to this file of a set
abbrev pub is_in_its_shard : StaticHead → ShardOf → Body → Bool
is_in_its_shard h shard b = not (h.kind == 1) || (b.kind == 4) || holds_key shard b.key

-- the bytes behind the body, up to the extent, are zero
abbrev pub is_padded : (bytes : List ℕ) → (extent : ℕ) → Body → Bool
is_padded bytes e b = bytes_eq (take (e - room_of b) (drop (room_of b) bytes)) (replicate (e - room_of b) 0)

-- a block with this extent and body may stand at the front of these bytes: it lies within them, has the least extent, a kind that is no void, zero padding, its turn and its shard
abbrev pub may_stand : StaticHead → ShardOf → Walk → (bytes : List ℕ) → (extent : ℕ) → Body → Bool
may_stand h shard w bytes e b =
    nat_le e (length bytes) && (e == extent_of b) && not (b.kind == 3) && is_padded bytes e b && is_in_turn w.least w.open_group b && is_in_its_shard h shard b

abbrev pub opened_by : Option Placed → Placed → Option Placed
opened_by None x = if x.body.last then None else Some x
opened_by (Some first) x = if x.body.last then None else Some first

-- one block more
abbrev pub walked : Walk → Placed → Walk
walked w x = record { blocks = w.blocks ++ x ∷ []; least = if x.body.last then x.body.number + 1 else w.least; open_group = opened_by w.open_group x }

-- how a walk ends: a place fails, or all blocks were walked over
pub data Outcome : Type 0 where
  FailsAt : ℕ → Outcome
  Ends : Walk → Outcome

-- the block at a place, by what its head and its body say, and the walk from there on
abbrev pub walk_block : StaticHead → ShardOf → Walk → (place : ℕ) → (bytes : List ℕ) → Option ℕ → Option Body → (Walk → ℕ → Outcome) → Outcome
walk_block h shard w place bytes None body go = FailsAt place
walk_block h shard w place bytes (Some e) None go = FailsAt place
walk_block h shard w place bytes (Some e) (Some b) go =
    if may_stand h shard w bytes e b
    then (if u64_in bytes link_offset == link_of h.p w.blocks b then go (walked w (placed place b)) e else FailsAt (place + link_offset))
    else FailsAt place

-- the walk over the blocks from a place on, of which there are at most so many
abbrev pub walk_on : (most : ℕ) → StaticHead → ShardOf → Walk → (place : ℕ) → (bytes : List ℕ) → Outcome
walk_on n h shard w place [] = Ends w
walk_on zero h shard w place (x ∷ xs) = FailsAt place
walk_on (suc n) h shard w place (x ∷ xs) =
    walk_block h shard w place (x ∷ xs) (head_at (x ∷ xs) place) (body_at (drop body_offset (x ∷ xs)) place) (λ v e. walk_on n h shard v (place + e) (drop e (x ∷ xs)))

-- the walk over all blocks of a file
unfoldable pub walk : StaticHead → ShardOf → List ℕ → Outcome
walk h shard f = walk_on (length f) h shard begin (base_of h.p) (drop (base_of h.p) f)

-- among n heads from a bucket's on, the place of the first that is not the place of its bucket's newest block
abbrev pub head_fault : (p : ℕ) → List Placed → (f : List ℕ) → (n bucket : ℕ) → Option ℕ
head_fault p blocks f zero bucket = None
head_fault p blocks f (suc n) bucket =
    if u64_in f (heads_place + cell_size * bucket) == newest p bucket 0 blocks then head_fault p blocks f n (bucket + 1) else Some (heads_place + cell_size * bucket)

abbrev pub change_in : Body → Change
change_in b =
    if b.kind == 1 then Put (record { key = b.key; value = b.value })
    else (if b.kind == 2 then Drop b.key else Clear)

-- the records that blocks leave
abbrev pub records_in : List Placed → List Pair
records_in blocks = after Hash (map (λ (x : Placed). change_in x.body) blocks) []

abbrev pub broken_unless : Bool → (place : ℕ) → Option OpenError → Option OpenError
broken_unless true place next = next
broken_unless false place next = Some (BrokenAt place)

abbrev pub broken_at : Option ℕ → Option OpenError → Option OpenError
broken_at None next = next
broken_at (Some place) next = Some (BrokenAt place)

-- the number of records, a next number above every number, and in a file that is to be written one of at most 2^62
abbrev pub count_fault : (writable : Bool) → Closing → Walk → Option OpenError
count_fault writable c w =
    broken_unless ((c.count == length (records_in w.blocks)) && nat_le w.least c.next) closing_place
    (broken_unless (not writable || nat_le c.next (2 ^ 62)) next_place None)

abbrev pub place_in : Option Placed → Option ℕ
place_in None = None
place_in (Some x) = Some x.place

-- behind the blocks: the last group is complete, the heads are right, and the closing part fits
abbrev pub end_fault : (writable : Bool) → StaticHead → Closing → (f : List ℕ) → Outcome → Option OpenError
end_fault writable h c f (FailsAt place) = Some (BrokenAt place)
end_fault writable h c f (Ends w) = broken_at (place_in w.open_group) (broken_at (head_fault h.p w.blocks f (2 ^ h.p) 0) (count_fault writable c w))

-- the closing part, then the blocks
abbrev pub closing_fault : (writable : Bool) → StaticHead → ShardOf → (f : List ℕ) → Option Closing → Option OpenError
closing_fault writable h shard f None = Some (BrokenAt closing_place)
closing_fault writable h shard f (Some c) =
    broken_unless ((c.size == length f) && nat_le (base_of h.p) c.size) closing_place (end_fault writable h c f (walk h shard f))

-- the kind, then the closing part
abbrev pub static_fault : (kinds : List ℕ) → (writable : Bool) → ShardOf → (f : List ℕ) → Option StaticHead → Option OpenError
static_fault kinds writable shard f None = Some NotADatabase
static_fault kinds writable shard f (Some h) =
    broken_unless (list_any (λ k. k == h.kind) kinds) kind_place (closing_fault writable h shard f (closing_at (drop closing_place f)))

-- what fails first in a file, where something does
unfoldable pub first_fault : (kinds : List ℕ) → (writable : Bool) → ShardOf → (f : List ℕ) → Option OpenError
first_fault kinds writable shard f = static_fault kinds writable shard f (if nat_le heads_place (length f) then static_at f else None)
