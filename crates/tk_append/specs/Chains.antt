-- The heads of a file's buckets, as a list.
use Rattle.std.specs.Prelude.{◌≡◌, ℕ, ◌<◌, ◌^◌, true, false, ◌==◌, ◌||◌, List, length, slice_index}
use Rattle.tk_block.specs.declared.block.Body.{Body}
use Rattle.tk_block.specs.Layout.{Placed, newest}

-- the head of each bucket is its newest block
pub record HeadsAre (p : ℕ) (heads : List ℕ) (blocks : List Placed) : Type 0 where
  pub whole : length heads ≡ 2 ^ p
  pub newest_each : (b : ℕ) → b < 2 ^ p → slice_index heads b ≡ newest p b 0 blocks

-- a set or remove block of this key
pub record HasKey (key : List ℕ) (b : Body) : Type 0 where
  pub kind : ((b.kind == 1) || (b.kind == 2)) ≡ true
  pub no_clear : (b.kind == 4) ≡ false
  pub key_is : b.key ≡ key
