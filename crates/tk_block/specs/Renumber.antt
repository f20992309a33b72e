-- The text of a group that waits for its number, and under it.
use Rattle.std.specs.Prelude.{◌≡◌, ℕ, ◌+◌, ◌-◌, ◌^◌, ◌≤◌, List, [], ◌∷◌, ◌++◌, length, drop, replicate}
use Rattle.std.specs.Int.{w64, to_be_bytes}
use Rattle.tk_model.specs.declared.record.Change.{Change}
use Rattle.tk_block.specs.declared.block.Body.{Body}
use Rattle.tk_block.specs.Sizes.{check_size}
use Rattle.tk_block.specs.Text.{head_text}
use Rattle.tk_block.specs.Blocks.{IsSmall, AllSmall, body_front, block_text, extent_of, room_of, numbered, group_bodies}
use Rattle.tk_block.specs.Layout.{Placed, laid, end_of, texts, first_or_none}

-- a block as it is appended, but with zero bytes for the check of its body
unfoldable pub unchecked_text : (b : Body) (place link : ℕ) → List ℕ
unchecked_text b place link =
    head_text (extent_of b) place ++ to_be_bytes w64 link ++ body_front b ++ replicate (check_size + (extent_of b - room_of b)) 0

-- the same of blocks with these links
abbrev pub unchecked_texts : List Placed → (links : List ℕ) → List ℕ
unchecked_texts [] links = []
unchecked_texts (x ∷ xs) links = unchecked_text x.body x.place (first_or_none links) ++ unchecked_texts xs (drop 1 links)

-- bytes are the text of some changes at a place, under some number and without checks
pub record IsGroupText (text : List ℕ) (place : ℕ) : Type 0 where
  pub number : ℕ
  pub changes : List Change
  pub links : List ℕ
  pub small : AllSmall changes
  pub fits : end_of place (group_bodies number changes) ≤ 2 ^ 40
  pub spelled : text ≡ unchecked_texts (laid place (group_bodies number changes)) links

-- what was the text of some changes with some links, without checks, is now their text under this number
abbrev pub Renumbered : (old new : List ℕ) (place number : ℕ) → Type 0
Renumbered old new place number =
    (was : ℕ) (changes : List Change) (links : List ℕ) → AllSmall changes → old ≡ unchecked_texts (laid place (group_bodies was changes)) links
    → new ≡ texts (laid place (group_bodies number changes)) links

-- from this index on stands a block of this place, without its check
pub record IsBlockIn (text : List ℕ) (at place : ℕ) : Type 0 where
  pub front : List ℕ
  pub body : Body
  pub link : ℕ
  pub rest : List ℕ
  pub here : length front ≡ at
  pub small : IsSmall body.key body.value
  pub spelled : text ≡ front ++ (unchecked_text body place link ++ rest)

-- the block there is whole under this number, and it is so long
abbrev pub RenumberedBlock : (old new : List ℕ) (at place number extent : ℕ) → Type 0
RenumberedBlock old new at place number extent =
    (front : List ℕ) (b : Body) (link : ℕ) (rest : List ℕ) → length front ≡ at → IsSmall b.key b.value → old ≡ front ++ (unchecked_text b place link ++ rest)
    → (new ≡ front ++ (block_text (numbered number b) place link ++ rest)) × (extent ≡ extent_of b)
