-- A bucket as the list of the places of its blocks, the first of its chain first.
use Rattle.std.specs.Prelude.{◌≡◌, ◌⊎◌, ℕ, ◌+◌, ◌*◌, ◌^◌, ◌<◌, ◌≤◌, List, [], ◌∷◌, length, drop, Bool, true, Option, Some, IfSome, if◌then◌else◌, ◌==◌}
use Rattle.std.specs.List.{list_any}
use Rattle.tk_block.specs.Sizes.{heads_place, cell_size, extent_offset, link_offset, body_offset}
use Rattle.tk_block.specs.Number.{u64_in}
use Rattle.tk_block.specs.Text.{head_at, base_of}
use Rattle.tk_block.specs.Blocks.{body_at, room_of}
use Rattle.tk_block.specs.Grammar.{FitsBody}
use Rattle.tk_block.specs.Layout.{Placed, is_in, laid, newest, links_of, texts}
use Rattle.tk_block.specs.declared.block.Body.{Body}
use Rattle.tk_block.specs.declared.head.StaticHead.{StaticHead}

-- where a bucket's head stands
abbrev pub head_cell : (bucket : ℕ) → ℕ
head_cell bucket = heads_place + cell_size * bucket

-- the extent that the block at a place says
abbrev pub extent_in : List ℕ → (place : ℕ) → ℕ
extent_in f place = u64_in f (place + extent_offset)

-- its link
abbrev pub link_in : List ℕ → (place : ℕ) → ℕ
link_in f place = u64_in f (place + link_offset)

-- a block stands whole at the place, behind the heads
pub record IsWhole (h : StaticHead) (f : List ℕ) (place : ℕ) : Type 0 where
  pub body : Body
  pub behind : base_of h.p ≤ place
  pub head : head_at (drop place f) place ≡ Some (extent_in f place)
  pub says : body_at (drop (place + body_offset) f) place ≡ Some body
  pub room : room_of body ≤ extent_in f place
  pub within : place + extent_in f place ≤ length f

-- n bytes from `at` on are none of the block at this place
abbrev pub IsBeside : List ℕ → (at n place : ℕ) → Type 0
IsBeside f at n place = (at + n ≤ place) ⊎ (place + extent_in f place ≤ at)

-- the same of each of these blocks
abbrev pub AllBeside : List ℕ → (at n : ℕ) → List ℕ → Type 0
AllBeside f at n [] = Unit {0}
AllBeside f at n (q ∷ qs) = IsBeside f at n q × AllBeside f at n qs

-- the block at a place has no byte in common with these
abbrev pub IsApart : List ℕ → (place : ℕ) → List ℕ → Type 0
IsApart f place qs = AllBeside f place (extent_in f place) qs

-- no block of the first list has a byte in common with one of the second
abbrev pub AreApart : List ℕ → List ℕ → List ℕ → Type 0
AreApart f [] rest = Unit {0}
AreApart f (q ∷ qs) rest = IsApart f q rest × AreApart f qs rest

-- blocks that stand whole and apart, of which the first is at this place, each next one where the link says, and the last link is 0
abbrev pub IsLinked : StaticHead → List ℕ → (first : ℕ) → List ℕ → Type 0
IsLinked h f first [] = first ≡ 0
IsLinked h f first (q ∷ qs) = (first ≡ q) × IsWhole h f q × IsApart f q qs × IsLinked h f (link_in f q) qs

-- the bucket has these blocks
pub record IsChain (h : StaticHead) (f : List ℕ) (bucket : ℕ) (places : List ℕ) : Type 0 where
  pub heads : base_of h.p ≤ length f
  pub linked : IsLinked h f (u64_in f (head_cell bucket)) places

-- a block that is ready to be the first of the bucket: it stands whole, apart from the bucket's blocks, and its link is the bucket's head
pub record IsNext (h : StaticHead) (f : List ℕ) (bucket place : ℕ) (places : List ℕ) : Type 0 where
  pub chain : IsChain h f bucket places
  pub whole : IsWhole h f place
  pub apart : IsApart f place places
  pub link : link_in f place ≡ u64_in f (head_cell bucket)

-- the chain has the block
abbrev pub has_block : (place : ℕ) → List ℕ → Bool
has_block place places = list_any (λ (q : ℕ). q == place) places

-- the cell that leads to a block of a chain that begins at a cell
abbrev pub cell_to : (cell place : ℕ) → List ℕ → ℕ
cell_to cell place [] = cell
cell_to cell place (q ∷ qs) = if q == place then cell else cell_to (q + link_offset) place qs

-- the chain without the block
abbrev pub without : (place : ℕ) → List ℕ → List ℕ
without place [] = []
without place (q ∷ qs) = if q == place then qs else q ∷ without place qs

-- what holds of a file, where it is told, and of a bucket's chain that has the block
abbrev pub IfInChain : Option (List ℕ) → StaticHead → (bucket place : ℕ) → (List ℕ → List ℕ → Type 0) → Type 0
IfInChain o h bucket place Q = (places : List ℕ) → IfSome o (λ f. IsChain h f bucket places → has_block place places ≡ true → Q f places)

-- a block more: a clear empties the bucket, a set or remove block of it is its newest
abbrev pub block_step : (p bucket : ℕ) → List Placed → Placed → List Placed
block_step p bucket found x = if x.body.kind == 4 then [] else (if is_in p bucket x.body then x ∷ found else found)

-- the set and remove blocks of a bucket since the last clear, the newest first, in front of those that were found
abbrev pub bucket_blocks : (p bucket : ℕ) → (found : List Placed) → List Placed → List Placed
bucket_blocks p bucket found [] = found
bucket_blocks p bucket found (x ∷ xs) = bucket_blocks p bucket (block_step p bucket found x) xs

-- where blocks stand
abbrev pub places_in : List Placed → List ℕ
places_in [] = []
places_in (x ∷ xs) = x.place ∷ places_in xs

abbrev pub AllFitBody : List Body → Type 0
AllFitBody [] = Unit {0}
AllFitBody (b ∷ bs) = FitsBody b × AllFitBody bs

-- the file has these blocks from the records' base on, each with its link, and the bucket's head is its newest block
pub record IsWritten (h : StaticHead) (f : List ℕ) (bucket : ℕ) (bodies : List Body) : Type 0 where
  pub size : length f < 2 ^ 64
  pub heads : base_of h.p ≤ length f
  pub fit : AllFitBody bodies
  pub blocks : drop (base_of h.p) f ≡ texts (laid (base_of h.p) bodies) (links_of h.p [] (laid (base_of h.p) bodies))
  pub head : u64_in f (head_cell bucket) ≡ newest h.p bucket 0 (laid (base_of h.p) bodies)
