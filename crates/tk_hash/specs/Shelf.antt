-- The records that the blocks of a bucket leave.
use Rattle.std.specs.Prelude.{◌≡◌, ℕ, List, [], ◌∷◌, Option, Some, None}
use Rattle.tk_model.specs.Records.{after_one, replay}
use Rattle.tk_model.specs.declared.record.Order.TheVariants.{Hash}
use Rattle.tk_model.specs.declared.record.Pair.{Pair}
use Rattle.tk_model.specs.declared.record.Group.{Group}
use Rattle.tk_block.specs.Layout.{Placed}
use Rattle.tk_append.specs.Opening.{change_in}
use Rattle.tk_block.specs.declared.head.StaticHead.{StaticHead}
use Rattle.tk_hash.specs.Chain.{in_bucket}
use Rattle.tk_hash.specs.declared.shelf.Shelf.{Shelf}

-- the records that blocks leave, of which the newest stands first
abbrev pub left_by : List Placed → List Pair
left_by [] = []
left_by (x ∷ xs) = after_one Hash (change_in x.body) (left_by xs)

-- the shelf has the records of this bucket
abbrev pub HasBucket : StaticHead → List Group → (bucket : ℕ) → Option Shelf → Type 0
HasBucket h groups bucket None = ⊥
HasBucket h groups bucket (Some s) = s.records ≡ in_bucket h.p bucket (replay Hash groups [])
