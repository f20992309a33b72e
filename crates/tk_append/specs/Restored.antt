-- What a crash leaves of a file of groups: the longest front of complete groups that is read by the blocks' heads.
use Rattle.std.specs.Prelude.{◌≡◌, ℕ, zero, suc, ◌+◌, ◌≤◌, List, [], ◌∷◌, ◌++◌, length, take, drop, Bool, not, Option, Some, None, if◌then◌else◌, ◌&&◌, ◌==◌, nat_le}
use Rattle.tk_model.specs.declared.record.Change.{Change}
use Rattle.tk_model.specs.declared.record.Group.{Group}
use Rattle.tk_block.specs.Sizes.{static_size, body_offset}
use Rattle.tk_block.specs.Text.{head_at, static_at, static_text, base_of}
use Rattle.tk_block.specs.Blocks.{room_of, body_at, extent_of}
use Rattle.tk_block.specs.Layout.{Placed, texts, links_of}
use Rattle.tk_block.specs.declared.block.Body.{Body}
use Rattle.tk_block.specs.declared.head.StaticHead.{StaticHead}
use Rattle.tk_append.specs.Opening.{Walk, begin, walked, is_in_turn, change_in}
use Rattle.tk_append.specs.Log.{blocks_of}

-- a block with this extent and body is read behind these: its body lies inside it, it is no void, and it has its turn
abbrev pub may_be_read : Walk → (extent : ℕ) → Body → Bool
may_be_read w e b = nat_le (room_of b) e && not (b.kind == 3) && is_in_turn w.least w.open_group b

-- the block at a place, by what its head and its body say, and the reading from there on
abbrev pub read_block : Walk → (place : ℕ) → Option ℕ → Option Body → (Walk → ℕ → Walk) → Walk
read_block w place None body go = w
read_block w place (Some e) None go = w
read_block w place (Some e) (Some b) go = if may_be_read w e b then go (walked w (record { place = place; extent = e; body = b })) e else w

-- the blocks from a place on, of which there are at most so many, up to the first that is none
abbrev pub read_on : (most : ℕ) → Walk → (place : ℕ) → (bytes : List ℕ) → Walk
read_on zero w place bytes = w
read_on (suc n) w place bytes = read_block w place (head_at bytes place) (body_at (drop body_offset bytes) place) (λ v e. read_on n v (place + e) (drop e bytes))

-- the blocks that are read from the records' base on
unfoldable pub read_blocks : StaticHead → List ℕ → List Placed
read_blocks h f = (read_on (length f) begin (base_of h.p) (drop (base_of h.p) f)).blocks

-- the complete groups among blocks, behind the changes of a group that is begun
abbrev pub complete_groups : (begun : List Change) → List Placed → List Group
complete_groups begun [] = []
complete_groups begun (x ∷ xs) =
    if x.body.last
    then record { number = x.body.number; changes = begun ++ change_in x.body ∷ [] } ∷ complete_groups [] xs
    else complete_groups (begun ++ change_in x.body ∷ []) xs

-- the groups of a file of this header
unfoldable pub groups_in : StaticHead → List ℕ → List Group
groups_in h f = complete_groups [] (read_blocks h f)

abbrev pub groups_by : List ℕ → Option StaticHead → List Group
groups_by f None = []
groups_by f (Some h) = groups_in h f

-- the groups to which an image is restored: none where it has no static header
unfoldable pub restored_groups : List ℕ → List Group
restored_groups f = groups_by f (static_at f)

-- at the place of a block a head whose check matches is the block's, and so is a body
pub record IsUntornAt (x : Placed) (c : List ℕ) : Type 0 where
  pub head : (e : ℕ) → head_at (drop x.place c) x.place ≡ Some e → e ≡ x.extent
  pub says : (b : Body) → body_at (drop (x.place + body_offset) c) x.place ≡ Some b → b ≡ x.body

-- the text of the blocks of groups
abbrev pub groups_text : StaticHead → List Group → List ℕ
groups_text h groups = texts (blocks_of h groups) (links_of h.p [] (blocks_of h groups))

-- an image has the static header, and the blocks of these groups
pub record IsKept (h : StaticHead) (groups : List Group) (c : List ℕ) : Type 0 where
  pub header : take static_size c ≡ static_text h
  pub heads : base_of h.p ≤ length c
  pub blocks : take (length (groups_text h groups)) (drop (base_of h.p) c) ≡ groups_text h groups
