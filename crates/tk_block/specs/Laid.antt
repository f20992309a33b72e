-- Blocks as they stand in a file of any kind: with any extent that has room for the body, and with any padding.
use Rattle.std.specs.Prelude.{◌≡◌, ℕ, ◌+◌, List, [], ◌∷◌, ◌++◌, length, take, drop, Some}
use Rattle.tk_block.specs.Sizes.{body_offset}
use Rattle.tk_block.specs.Text.{head_at}
use Rattle.tk_block.specs.Blocks.{room_of, block_with, body_at}
use Rattle.tk_block.specs.Grammar.{FitsExtent, FitsBody}
use Rattle.tk_block.specs.Layout.{Placed, laid, texts}
use Rattle.tk_block.specs.declared.block.Body.{Body}

-- bytes are the text of a block, with some link, and with some padding as far as its extent
pub record IsBlockText (x : Placed) (bytes : List ℕ) : Type 0 where
  pub link : ℕ
  pub padding : List ℕ
  pub room : room_of x.body + length padding ≡ x.extent
  pub spelled : bytes ≡ block_with x.body x.place x.extent link padding

-- the blocks follow one another from a place on, and bytes are their texts
abbrev pub AreLaid : (place : ℕ) → List Placed → (bytes : List ℕ) → Type 0
AreLaid place [] bytes = bytes ≡ []
AreLaid place (x ∷ xs) bytes = (x.place ≡ place) × IsBlockText x (take x.extent bytes) × AreLaid (place + x.extent) xs (drop x.extent bytes)

-- appended blocks are laid, whatever their links
abbrev pub AppendedAreLaid : Type 0
AppendedAreLaid = (place : ℕ) (bodies : List Body) (links : List ℕ) → AreLaid place (laid place bodies) (texts (laid place bodies) links)

-- a block's text is as long as its extent, and head and body are read there, whatever follows
pub record BlocksAreRead : Type 0 where
  pub long : (x : Placed) (bytes : List ℕ) → IsBlockText x bytes → length bytes ≡ x.extent
  pub head : (x : Placed) (bytes rest : List ℕ) → IsBlockText x bytes → FitsExtent x.extent → head_at (bytes ++ rest) x.place ≡ Some x.extent
  pub body : (x : Placed) (bytes rest : List ℕ) → IsBlockText x bytes → FitsBody x.body → body_at (drop body_offset (bytes ++ rest)) x.place ≡ Some x.body
