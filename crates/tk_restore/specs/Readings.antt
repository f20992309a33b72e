-- What a reading of an image knows.
use Rattle.std.specs.Prelude.{◌≡◌, ◌⊎◌, ℕ, ◌+◌, ◌^◌, ◌<◌, ◌≤◌, min, Bool, true, false, List, [], length, drop, Option, Some, option_map, IfSome}
use Rattle.std.specs.Io.{StartsWith}
use Rattle.tk_model.specs.declared.record.Order.TheVariants.{Hash}
use Rattle.tk_model.specs.Records.{replay}
use Rattle.tk_block.specs.Sizes.{body_offset}
use Rattle.tk_block.specs.declared.block.Body.{Body}
use Rattle.tk_block.specs.declared.head.StaticHead.{StaticHead}
use Rattle.tk_block.specs.Text.{head_at}
use Rattle.tk_block.specs.Blocks.{body_at}
use Rattle.tk_append.specs.Opening.{Walk, walked}
use Rattle.tk_append.specs.Walked.{least_behind, as_open}
use Rattle.tk_append.specs.Reread.{left_over}
use Rattle.tk_append.specs.Restored.{may_be_read, read_on, read_blocks, complete_groups}
use Rattle.tk_restore.specs.declared.reading.Reading.{Reading}

-- the reading knows what this walk over blocks says
pub record Knows (reading : Reading) (w : Walk) : Type 0 where
  pub records : reading.records.live ≡ replay Hash (complete_groups [] w.blocks) []
  pub begun : reading.records.begun ≡ left_over [] w.blocks
  pub least : w.least ≡ least_behind reading.before
  pub open_group : reading.open_group ≡ option_map as_open w.open_group

-- a set, a remove, or the last of its group
abbrev pub MayEnd : Body → Type 0
MayEnd b = ((b.kind ≡ 1) ⊎ (b.kind ≡ 2)) ⊎ (b.last ≡ true)

-- a block of this extent was read
pub record IsRead (w : Walk) (place extent : ℕ) (bytes : List ℕ) (reading : Reading) : Type 0 where
  pub body : Body
  pub there : body_at (drop body_offset bytes) place ≡ Some body
  pub may : may_be_read w extent body ≡ true
  pub knows : Knows reading (walked w (record { place = place; extent = extent; body = body }))

-- no block of this extent may be read
abbrev pub NotRead : Walk → (place extent : ℕ) → (bytes : List ℕ) → Type 0
NotRead w place extent bytes = (b : Body) → body_at (drop body_offset bytes) place ≡ Some b → may_be_read w extent b ≡ false

abbrev pub ReadOrNot : Bool → Walk → (place extent : ℕ) → (bytes : List ℕ) → Reading → Type 0
ReadOrNot true w place extent bytes reading = IsRead w place extent bytes reading
ReadOrNot false w place extent bytes reading = NotRead w place extent bytes × Knows reading w

-- the bytes are all that are left, or as many as a block of this extent can have before its padding
abbrev pub IsEnough : (left extent : ℕ) → List ℕ → Type 0
IsEnough left extent bytes = (length bytes ≡ left) ⊎ ((body_offset ≤ length bytes) × (min extent (2 ^ 26) ≤ length bytes))

-- the head at a place of a file, and enough bytes of its block
pub record HoldsBlock (f : List ℕ) (place left : ℕ) (bytes : List ℕ) (found : Option ℕ) : Type 0 where
  pub head : head_at (drop place f) place ≡ found
  pub starts : IfSome found (λ _. StartsWith (drop place f) bytes)
  pub enough : IfSome found (λ e. IsEnough left e bytes)

-- how far the reading of a file has come
pub record ReadUpto (h : StaticHead) (f : List ℕ) (place : ℕ) (reading : Reading) : Type 0 where
  pub w : Walk
  pub most : ℕ
  pub knows : Knows reading w
  pub enough : length f ≤ place + most
  pub rest : (read_on most w place (drop place f)).blocks ≡ read_blocks h f

-- how far a reading has come on a disk, where the disk tells its bytes, and that the window shows what stands there
pub record Scanned (image : Option (List ℕ)) (h : StaticHead) (size place : ℕ) (bytes : List ℕ) (reading : Reading) : Type 0 where
  pub held : place < size → place + length bytes ≤ size
  pub upto : IfSome image (λ f. length f ≡ size → ReadUpto h f place reading)
  pub shows : IfSome image (λ f. length f ≡ size → place < size → StartsWith (drop place f) bytes)
