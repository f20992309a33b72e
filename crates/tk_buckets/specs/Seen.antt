-- What a look-up sees of one block.
use Rattle.std.specs.Prelude.{◌≡◌, ℕ, Bool, true, List, slice_index}
use Rattle.tk_block.specs.Sizes.{extent_offset, link_offset, body_offset, value_len_offset}
use Rattle.tk_block.specs.Number.{u32_in, u64_in}
use Rattle.tk_buckets.specs.Chain.{link_in}
use Rattle.tk_buckets.specs.Lookup.{body_in_block, has_key, IsBlockOf}
use Rattle.tk_buckets.specs.declared.lookup.FoundBlock.{FoundBlock}

-- the block at a place, as its first bytes say it
abbrev pub shown_block : (place : ℕ) → (bytes : List ℕ) → FoundBlock
shown_block place bytes = record { place = place; extent = u64_in bytes extent_offset; kind = slice_index bytes body_offset; value_len = u32_in bytes value_len_offset }

-- the buffer has the link of the block at a place; it is told whether the block has the key, and if so the buffer shows the block
pub record Sees (f key : List ℕ) (place : ℕ) (buffer : List ℕ) (has : Bool) : Type 0 where
  pub link_is : u64_in buffer link_offset ≡ link_in f place
  pub told : has ≡ has_key key (body_in_block f place)
  pub shows : has ≡ true → IsBlockOf f key buffer (shown_block place buffer)
