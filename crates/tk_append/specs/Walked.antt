-- What a walk over the blocks of a file keeps, and what it answers.
use Rattle.std.specs.Prelude.{◌≡◌, ℕ, ◌+◌, ◌^◌, ◌<◌, ◌≤◌, List, length, drop, slice_index, Bool, true, not, ◌&&◌, ◌||◌, ◌==◌, nat_le, Option, Some, None, option_map, IfSome, ◌⊎◌, if◌then◌else◌, nat_lt}
use Rattle.tk_model.specs.Hashes.{mix_of}
use Rattle.tk_model.specs.declared.record.ShardOf.{ShardOf}
use Rattle.tk_model.specs.declared.error.OpenError.{OpenError}
use Rattle.tk_model.specs.declared.error.OpenError.TheVariants as errors
use Rattle.tk_block.specs.Sizes.{extent_offset, link_offset, body_offset}
use Rattle.tk_block.specs.Number.{u64_in}
use Rattle.std.specs.Io.{StartsWith}
use Rattle.tk_block.specs.Text.{head_at, base_of}
use Rattle.tk_block.specs.Blocks.{IsSmall, body_at, body_said}
use Rattle.tk_block.specs.Layout.{placed, Placed, newest, link_of}
use Rattle.tk_block.specs.declared.block.Body.{Body}
use Rattle.tk_block.specs.declared.head.StaticHead.{StaticHead}
use Rattle.tk_append.specs.Keys.{HasKeys}
use Rattle.tk_append.specs.Opening.{Walk, Outcome, FailsAt, Ends, walk, walk_block, walked, may_stand, records_in}
use Rattle.tk_append.specs.declared.walker.Walker.{Walker}
use Rattle.tk_append.specs.declared.walker.OpenGroup.{OpenGroup}
use Rattle.tk_append.specs.declared.walker.FoundBlock.{FoundBlock}

-- a head counts only behind the last clear
abbrev pub live_head : (cleared head : ℕ) → ℕ
live_head cleared head = if nat_lt cleared head then head else 0

-- the heads say the newest block of each bucket, and all of them lie in front of the place
pub record NewestIn (p place : ℕ) (heads : List ℕ) (cleared : ℕ) (blocks : List Placed) : Type 0 where
  pub whole : length heads ≡ 2 ^ p
  pub newest_each : (b : ℕ) → b < 2 ^ p → live_head cleared (slice_index heads b) ≡ newest p b 0 blocks
  pub below : (b : ℕ) → b < 2 ^ p → slice_index heads b < place
  pub behind : cleared < place

-- the least number behind the last complete group
abbrev pub least_behind : Option ℕ → ℕ
least_behind None = 0
least_behind (Some number) = number + 1

abbrev pub as_open : Placed → OpenGroup
as_open x = record { place = x.place; number = x.body.number }

-- the walker knows what this walk over blocks says
pub record IsAt (p place : ℕ) (walker : Walker) (w : Walk) : Type 0 where
  pub heads : NewestIn p place walker.heads.items walker.cleared w.blocks
  pub keys : HasKeys walker.keys (records_in w.blocks)
  pub least : w.least ≡ least_behind walker.before
  pub open_group : walker.open_group ≡ option_map as_open w.open_group

-- the block at the front of the bytes may follow the walk
pub record MayFollow (h : StaticHead) (shard : ShardOf) (w : Walk) (place : ℕ) (bytes : List ℕ) (extent : ℕ) (b : Body) : Type 0 where
  pub head : head_at bytes place ≡ Some extent
  pub body : body_at (drop body_offset bytes) place ≡ Some b
  pub stands : may_stand h shard w bytes extent b ≡ true
  pub linked : u64_in bytes link_offset ≡ link_of h.p w.blocks b

-- the block fails at this place, whatever follows
abbrev pub Fails : (h : StaticHead) (shard : ShardOf) (w : Walk) (place : ℕ) (bytes : List ℕ) → OpenError → Type 0
Fails h shard w place bytes (errors.BrokenAt at) =
    (go : Walk → ℕ → Outcome) → walk_block h shard w place bytes (head_at bytes place) (body_at (drop body_offset bytes) place) go ≡ FailsAt at
Fails h shard w place bytes errors.NotADatabase = ⊥
Fails h shard w place bytes errors.Fault = ⊥
Fails h shard w place bytes errors.NoMemory = Unit {0}

-- no block stands at the front of the bytes
abbrev pub HasNone : (place : ℕ) (bytes : List ℕ) → Type 0
HasNone place bytes =
    (h : StaticHead) (shard : ShardOf) (w : Walk) (go : Walk → ℕ → Outcome) → walk_block h shard w place bytes (head_at bytes place) (body_at (drop body_offset bytes) place) go ≡ FailsAt place

-- this block stands there
pub record HasBlock (place : ℕ) (bytes : List ℕ) (s : FoundBlock) : Type 0 where
  pub head : head_at bytes place ≡ Some s.extent
  pub body : body_at (drop body_offset bytes) place ≡ Some (body_said s.block)
  pub long : body_offset ≤ length bytes
  pub hash : s.hash ≡ mix_of s.block.key.now
  pub small : IsSmall s.block.key.now s.block.value.now

-- the block may follow, by the number of the last complete group and the group that is not complete
abbrev pub turn_in : (before : Option ℕ) → Option OpenGroup → Body → Bool
turn_in before (Some first) b = (b.number == first.number) && not (b.kind == 4)
turn_in before None b = nat_le (least_behind before) b.number && (not (b.kind == 4) || b.last)

-- a set, a remove or a clear
abbrev pub IsOfKind : Body → Type 0
IsOfKind b = (((b.kind == 1) || (b.kind == 2)) || (b.kind == 4)) ≡ true

-- a block was passed: the walker knows one block more
pub record Passed (h : StaticHead) (shard : ShardOf) (w : Walk) (place : ℕ) (bytes : List ℕ) (extent : ℕ) (walker : Walker) : Type 0 where
  pub body : Body
  pub follows : MayFollow h shard w place bytes extent body
  pub at : IsAt h.p (place + extent) walker (walked w (placed place body))
  pub some : 0 < extent
  pub within : extent ≤ length bytes
  pub small : (i : ℕ) → slice_index bytes i < 256

-- the disk, where it tells its bytes, has these at a place
abbrev pub Shows : (image : Option (List ℕ)) (at : ℕ) (xs : List ℕ) → Type 0
Shows image at xs = IfSome image (λ f. StartsWith (drop at f) xs)

-- the bytes at the front of those that are left have the block that stands there, where it is no longer than a block can be, or they are all
abbrev pub HoldsBlock : (left : ℕ) (bytes : List ℕ) → Type 0
HoldsBlock left bytes = (length bytes ≡ left) ⊎ ((body_offset ≤ length bytes) × (u64_in bytes extent_offset ≤ 2 ^ 26 → u64_in bytes extent_offset ≤ length bytes))

-- the walk to the end of a file of this size, and what is known there
pub record WalkedAll (image : Option (List ℕ)) (h : StaticHead) (shard : ShardOf) (size : ℕ) (walker : Walker) : Type 0 where
  pub blocks : List ℕ
  pub w : Walk
  pub whole : base_of h.p + length blocks ≡ size
  pub shown : Shows image (base_of h.p) blocks
  pub small : (i : ℕ) → slice_index blocks i < 256
  pub ends : (f : List ℕ) → drop (base_of h.p) f ≡ blocks → walk h shard f ≡ Ends w
  pub at : IsAt h.p size walker w

-- the walk fails at this place, or the cause says nothing of the file
abbrev pub WalkFails : (h : StaticHead) (shard : ShardOf) (f : List ℕ) → OpenError → Type 0
WalkFails h shard f (errors.BrokenAt at) = walk h shard f ≡ FailsAt at
WalkFails h shard f errors.NotADatabase = ⊥
WalkFails h shard f errors.Fault = Unit {0}
WalkFails h shard f errors.NoMemory = Unit {0}
