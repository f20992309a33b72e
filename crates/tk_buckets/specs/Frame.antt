-- What a write of n bytes leaves of chains, whole or torn.
use Rattle.std.specs.Prelude.{◌≡◌, ◌⊎◌, ℕ, ◌+◌, ◌^◌, ◌<◌, ◌≤◌, List, [], ◌∷◌, length, drop, true, false, Some}
use Rattle.tk_disk.specs.Crash.{Torn}
use Rattle.tk_block.specs.Sizes.{link_offset, body_offset}
use Rattle.tk_block.specs.Text.{base_of}
use Rattle.tk_block.specs.Blocks.{body_at, room_of}
use Rattle.tk_block.specs.declared.block.Body.{Body}
use Rattle.tk_block.specs.declared.head.StaticHead.{StaticHead}
use Rattle.tk_buckets.specs.Chain.{IsWhole, IsApart, AreApart, IsChain, extent_in, has_block, cell_to}

-- blocks of these places follow one another from a place on
abbrev pub AreInTurn : List ℕ → (at : ℕ) → List ℕ → Type 0
AreInTurn f at [] = Unit {0}
AreInTurn f at (q ∷ qs) = (at ≤ q) × AreInTurn f (q + extent_in f q) qs

-- each of the first places is one of the second
abbrev pub AllAmong : List ℕ → List ℕ → Type 0
AllAmong [] places = Unit {0}
AllAmong (q ∷ qs) places = (has_block q places ≡ true) × AllAmong qs places

-- none of the first places is one of the second
abbrev pub NoneAmong : List ℕ → List ℕ → Type 0
NoneAmong [] places = Unit {0}
NoneAmong (q ∷ qs) places = (has_block q places ≡ false) × NoneAmong qs places

-- a body fits the block at a place
pub record HasBody (f : List ℕ) (place extent : ℕ) : Type 0 where
  pub body : Body
  pub says : body_at (drop (place + body_offset) f) place ≡ Some body
  pub room : room_of body ≤ extent

pub record WritesLeaveChains (h : StaticHead) : Type 0 where
  -- a block that is overwritten behind its head, with a body that fits, stands whole
  pub block : (f g : List ℕ) (at n place : ℕ) → IsWhole h f place → place + link_offset ≤ at → Torn at n f g
      → HasBody g place (extent_in f place) → IsWhole h g place
  -- one that is overwritten behind its link stays where it is in its chain
  pub inside : (f g : List ℕ) (at n bucket place : ℕ) (places : List ℕ) → bucket < 2 ^ h.p → IsChain h f bucket places
      → has_block place places ≡ true → place + body_offset ≤ at → at + n ≤ place + extent_in f place → Torn at n f g
      → HasBody g place (extent_in f place) → IsChain h g bucket places
  -- a chain of other blocks stays, whatever is written in the block
  pub elsewhere : (f g : List ℕ) (at n bucket place : ℕ) (places : List ℕ) → bucket < 2 ^ h.p → IsChain h f bucket places
      → base_of h.p ≤ place → IsApart f place places → place ≤ at → at + n ≤ place + extent_in f place → Torn at n f g
      → IsChain h g bucket places
  -- and so does each chain, where bytes are written behind the end
  pub behind : (f g : List ℕ) (at n bucket : ℕ) (places : List ℕ) → bucket < 2 ^ h.p → IsChain h f bucket places
      → length f ≤ at → Torn at n f g → IsChain h g bucket places
  -- of blocks that follow one another, those at some places are apart from those at others
  pub apart : (f : List ℕ) (at : ℕ) (all places rest : List ℕ) → AreInTurn f at all → AllAmong places all → AllAmong rest all
      → NoneAmong places rest → AreApart f places rest
  -- the cell that leads to a block is the head, or the link of a block of the chain
  pub cell : (cell place : ℕ) (places : List ℕ)
      → (cell_to cell place places ≡ cell) ⊎ ((q : ℕ) × (has_block q places ≡ true) × (cell_to cell place places ≡ q + link_offset))
