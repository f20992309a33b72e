-- The blocks that the heads of an image lead to, and the records to which it is restored.
use Rattle.std.specs.Prelude.{ℕ, zero, suc, ◌+◌, List, [], ◌∷◌, length, drop, Option, Some, None, if◌then◌else◌, ◌==◌, nat_le}
use Rattle.tk_model.specs.Records.{put}
use Rattle.tk_model.specs.declared.record.Order.{Order}
use Rattle.tk_model.specs.declared.record.Pair.{Pair}
use Rattle.tk_block.specs.Sizes.{body_offset}
use Rattle.tk_block.specs.Text.{head_at, static_at, base_of}
use Rattle.tk_block.specs.Blocks.{room_of, body_at}
use Rattle.tk_block.specs.Layout.{Placed}
use Rattle.tk_block.specs.declared.block.Body.{Body}
use Rattle.tk_block.specs.declared.head.StaticHead.{StaticHead}
use Rattle.tk_update.specs.Blocks.{is_of, value_in}

-- a block as its head tells it, with its body where a valid one lies inside
pub record Seen : Type 0 where
  pub place : ℕ
  pub extent : ℕ
  pub body : Option Body

abbrev pub inside : (extent : ℕ) → Option Body → Option Body
inside e None = None
inside e (Some b) = if nat_le (room_of b) e then Some b else None

abbrev pub seen_here : Option ℕ → (place : ℕ) → Option Body → (ℕ → List Seen) → List Seen
seen_here None q b go = []
seen_here (Some e) q b go = record { place = q; extent = e; body = inside e b } ∷ go e

-- the blocks from a place on to which the heads lead, up to the first place without a valid head; there are at most so many
abbrev pub seen_from : (most place : ℕ) → List ℕ → List Seen
seen_from zero q f = []
seen_from (suc n) q f = seen_here (head_at (drop q f) q) q (body_at (drop (q + body_offset) f) q) (λ e. seen_from n (q + e) f)

abbrev pub valid_here : Option Body → (place extent : ℕ) → List Placed → List Placed
valid_here None q e more = more
valid_here (Some b) q e more = record { place = q; extent = e; body = b } ∷ more

abbrev pub valid_blocks : List Seen → List Placed
valid_blocks [] = []
valid_blocks (s ∷ ss) = valid_here s.body s.place s.extent (valid_blocks ss)

unfoldable pub seen_in : StaticHead → List ℕ → List Seen
seen_in h f = seen_from (length f) (base_of h.p) f

-- the valid blocks of a file of this header
abbrev pub blocks_in : StaticHead → List ℕ → List Placed
blocks_in h f = valid_blocks (seen_in h f)

abbrev pub blocks_by : Option StaticHead → List ℕ → List Placed
blocks_by None f = []
blocks_by (Some h) f = blocks_in h f

-- those of an image by its own header: none where it has no static header
abbrev pub restored_blocks : List ℕ → List Placed
restored_blocks c = blocks_by (static_at c) c

-- the block of greater number, the first among equals
abbrev pub newer : Placed → Option Placed → Option Placed
newer x None = Some x
newer x (Some y) = if nat_le y.body.number x.body.number then Some x else Some y

-- of the key's blocks the one of the greatest number, the lowest place among equals
abbrev pub newest_of : (key : List ℕ) → List Placed → Option Placed
newest_of k [] = None
newest_of k (x ∷ xs) = if is_of k x.body then newer x (newest_of k xs) else newest_of k xs

-- the value that a key is restored with
abbrev pub restored_value : List ℕ → (key : List ℕ) → Option (List ℕ)
restored_value c k = value_in (newest_of k (restored_blocks c))

abbrev pub restore_one : Order → Body → Option (List ℕ) → List Pair → List Pair
restore_one o b None m = m
restore_one o b (Some v) m = if b.kind == 1 then put o (record { key = b.key; value = v }) m else m

-- each set block puts its key's newest value
abbrev pub newest_records : Order → (all : List Placed) → List Placed → List Pair
newest_records o all [] = []
newest_records o all (x ∷ xs) = restore_one o x.body (value_in (newest_of x.body.key all)) (newest_records o all xs)

-- the records to which an image is restored
abbrev pub restored_records : Order → List ℕ → List Pair
restored_records o c = newest_records o (restored_blocks c) (restored_blocks c)
