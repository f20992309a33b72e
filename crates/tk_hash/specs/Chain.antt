-- The blocks of a bucket, and what a look-up along them finds.
use Rattle.std.specs.Prelude.{ℕ, ◌+◌, List, [], ◌∷◌, Option, Some, None, if◌then◌else◌, ◌==◌}
use Rattle.tk_model.specs.Orders.{same_bytes}
use Rattle.tk_model.specs.declared.record.Pair.{Pair}
use Rattle.tk_model.specs.declared.record.Group.{Group}
use Rattle.tk_block.specs.Blocks.{extent_of}
use Rattle.tk_block.specs.Layout.{Placed, bucket_in}
use Rattle.tk_buckets.specs.Chain.{bucket_blocks}
use Rattle.tk_block.specs.declared.block.Body.{Body}
use Rattle.tk_block.specs.declared.head.StaticHead.{StaticHead}
use Rattle.tk_append.specs.Log.{blocks_of}

-- the chain of a bucket in a file of groups
abbrev pub chain_of : StaticHead → (bucket : ℕ) → List Group → List Placed
chain_of h bucket groups = bucket_blocks h.p bucket [] (blocks_of h groups)

abbrev pub value_in : Body → Option (List ℕ)
value_in b = if b.kind == 1 then Some b.value else None

-- the first block of the key decides
abbrev pub value_by : List ℕ → List Placed → Option (List ℕ)
value_by key [] = None
value_by key (x ∷ xs) = if same_bytes key x.body.key then value_in x.body else value_by key xs

abbrev pub extents : List Placed → ℕ
extents [] = 0
extents (x ∷ xs) = extent_of x.body + extents xs

-- the most bytes that a look-up takes: the blocks of the chain of the key's bucket
abbrev pub cost_in : StaticHead → List Group → (key : List ℕ) → ℕ
cost_in h groups key = extents (chain_of h (bucket_in h.p key) groups)

-- the records of a bucket
abbrev pub in_bucket : (p bucket : ℕ) → List Pair → List Pair
in_bucket p bucket [] = []
in_bucket p bucket (q ∷ qs) = if bucket_in p q.key == bucket then q ∷ in_bucket p bucket qs else in_bucket p bucket qs
