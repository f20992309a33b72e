-- Files that spell blocks.
use Rattle.std.specs.Prelude.{◌≡◌, ℕ, ◌+◌, ◌≤◌, List, [], ◌∷◌, length, drop, Option, Some, None, if◌then◌else◌, ◌==◌}
use Rattle.tk_block.specs.Sizes.{body_offset}
use Rattle.tk_block.specs.Text.{head_at}
use Rattle.tk_block.specs.Blocks.{body_at, room_of}
use Rattle.tk_block.specs.Layout.{Placed}

-- the block at a place
abbrev pub placed_at : (place : ℕ) → List Placed → Option Placed
placed_at place [] = None
placed_at place (x ∷ xs) = if x.place == place then Some x else placed_at place xs

-- the file has just these blocks from a place to its end; nothing is asked of links and padding
abbrev pub Spells : List ℕ → (at : ℕ) → List Placed → Type 0
Spells f at [] = at ≡ length f
Spells f at (x ∷ xs) =
    (x.place ≡ at) × (head_at (drop x.place f) x.place ≡ Some x.extent) × (body_at (drop (x.place + body_offset) f) x.place ≡ Some x.body) × (room_of x.body ≤ x.extent) × Spells f (at + x.extent) xs
