-- What changes mean for blocks and records, and what crashes keep.
use Rattle.std.specs.Prelude.{◌≡◌, ◌⊎◌, ℕ, ◌+◌, ◌<◌, ◌≤◌, ◌^◌, true, List, [], ◌++◌, length, drop, Some}
use Rattle.std.specs.Int.{w64, to_be_bytes}
use Rattle.tk_model.specs.Records.{find, after, Rising, HasNoClear}
use Rattle.tk_model.specs.declared.record.Order.{Order}
use Rattle.tk_model.specs.declared.record.Group.{Group}
use Rattle.tk_model.specs.declared.record.Change.{Change}
use Rattle.tk_disk.specs.Crash.{Torn, Shortened}
use Rattle.tk_disk.specs.Past.{Past, with_write, with_cut, settled_on}
use Rattle.tk_block.specs.Sizes.{static_size, link_offset, body_offset}
use Rattle.tk_block.specs.Text.{static_at, base_of}
use Rattle.tk_block.specs.Blocks.{body_at, body_text, block_text, room_of}
use Rattle.tk_block.specs.Grammar.{FitsBody}
use Rattle.tk_block.specs.Layout.{Placed}
use Rattle.tk_block.specs.declared.block.Body.{Body}
use Rattle.tk_block.specs.declared.head.StaticHead.{StaticHead}
use Rattle.tk_update.specs.Blocks.{AreInLine, KeysAreOnce, KeepPlaces, block_of, written_at, appended, voided, void_body, blocks_after, records_in}
use Rattle.tk_update.specs.Restored.{seen_in, blocks_in, restored_value, restored_records}
use Rattle.tk_update.specs.Untorn.{AllSeen, StoodAt, IsUntornBy}
use Rattle.tk_update.specs.FairPast.{IsLeftBy, IsFairPast, was_put, was_changed, has_clear}
use Rattle.tk_update.specs.KeptKeys.{KeepsKeys, KeysAfter, IsPastOf}
use Rattle.tk_update.specs.Spelled.{placed_at, Spells}

-- ---- blocks and records

-- the blocks stay in their form, and their records are those after the changes
pub record BlocksAreRecords (o : Order) : Type 0 where
  pub laid : (base n : ℕ) (cs : List Change) (blocks : List Placed) → AreInLine base blocks → KeysAreOnce blocks → AreInLine base (blocks_after base n cs blocks)
  pub once : (base n : ℕ) (cs : List Change) (blocks : List Placed) → AreInLine base blocks → KeysAreOnce blocks → KeysAreOnce (blocks_after base n cs blocks)
  pub records : (base n : ℕ) (cs : List Change) (blocks : List Placed) → AreInLine base blocks → KeysAreOnce blocks → records_in o (blocks_after base n cs blocks) ≡ after o cs (records_in o blocks)
  pub rising : (blocks : List Placed) → Rising o (records_in o blocks)
  pub stay : (base n : ℕ) (cs : List Change) (blocks : List Placed) → HasNoClear cs → KeepPlaces blocks (blocks_after base n cs blocks)

-- an image is restored to records in order, each key with its value
pub record RestoresValues (o : Order) : Type 0 where
  pub found : (c k : List ℕ) → find k (restored_records o c) ≡ restored_value c k
  pub rising : (c : List ℕ) → Rising o (restored_records o c)

-- ---- writes and blocks

pub record WritesBlocks (h : StaticHead) : Type 0 where
  pub read : (f : List ℕ) (xs : List Placed) → Spells f (base_of h.p) xs → blocks_in h f ≡ xs
  -- a body, or link and body, overwritten
  pub body : (f c : List ℕ) (xs : List Placed) (x : Placed) (b : Body) (at n : ℕ) → Spells f (base_of h.p) xs → placed_at x.place xs ≡ Some x → x.place + link_offset ≤ at → at + n ≤ x.place + x.extent → Torn at n f c → length c ≡ length f
      → body_at (drop (x.place + body_offset) c) x.place ≡ Some b → room_of b ≤ x.extent → Spells c (base_of h.p) (written_at x.place b xs)
  -- a block at the end
  pub append : (f : List ℕ) (xs : List Placed) (b : Body) (link : ℕ) → Spells f (base_of h.p) xs → FitsBody b → Spells (f ++ block_text b (length f) link) (base_of h.p) (appended (base_of h.p) b xs)
  -- a key's block made void is one block written
  pub voided : (xs : List Placed) (k : List ℕ) (n : ℕ) (x : Placed) → AreInLine (base_of h.p) xs → KeysAreOnce xs → block_of k xs ≡ Some x → voided k n xs ≡ written_at x.place (void_body n) xs

-- ---- crashes

-- what the calls of a disk say of crashes leads to what its past may leave
pub record LeftByPast : Type 0 where
  pub written : (at : ℕ) (bytes : List ℕ) (p : Past) (d c : List ℕ) → IsLeftBy p d → Torn at (length bytes) d c → IsLeftBy (with_write at bytes p) c
  pub cut : (n : ℕ) (p : Past) (d c : List ℕ) → IsLeftBy p d → Shortened n d c → IsLeftBy (with_cut n p) c
  pub settled : (f : List ℕ) → IsLeftBy (settled_on f) f

-- an untorn image that a fair past leaves keeps the keys
abbrev pub FairKeepsKeys : Type 0
FairKeepsKeys = (h : StaticHead) (since : List Change) (p : Past) (c : List ℕ) → IsFairPast h since p → IsLeftBy p c → IsUntornBy h p c → KeepsKeys (blocks_in h p.fixed) since c

abbrev pub PastsKeep : Type 0
PastsKeep = (h : StaticHead) (first : List Placed) (groups : List Group) (n : ℕ) (p : Past) (c : List ℕ) → IsPastOf h first groups n p c → IsUntornBy h p c → KeysAfter h first groups n c

-- what is safe stays so with more groups and fewer synchronised
abbrev pub SafeLess : Type 0
SafeLess = (h : StaticHead) (first : List Placed) (groups more : List Group) (m n : ℕ) (c : List ℕ) → m ≤ n → KeysAfter h first groups n c → KeysAfter h first (groups ++ more) m c

-- ---- which writes and cuts keep a past fair

-- a body that a write may bring: no set, or a put of these changes
abbrev pub IsPut : List Change → Body → Type 0
IsPut since b = FitsBody b × (b.kind ≡ 1 → was_put b.key b.value since ≡ true)

-- a block stood there, and what it set is changed
pub record IsFree (h : StaticHead) (since : List Change) (p : Past) (q e : ℕ) : Type 0 where
  pub stood : StoodAt h p q e
  pub changed : AllSeen (λ s. s.place ≡ q → (b : Body) → s.body ≡ Some b → b.kind ≡ 1 → was_changed true b.key since ≡ true) (seen_in h p.fixed)

-- behind all blocks that stood, or anywhere behind the heads after a clear
abbrev pub IsOpen : StaticHead → List Change → Past → ℕ → Type 0
IsOpen h since p q = (base_of h.p ≤ q) × (AllSeen (λ s. s.place + s.extent ≤ q) (seen_in h p.fixed) ⊎ (has_clear since ≡ true))

-- the place is that of a block that stood and is free, or open
abbrev pub MayHold : StaticHead → List Change → Past → (q e : ℕ) → Type 0
MayHold h since p q e = IsFree h since p q e ⊎ IsOpen h since p q

pub record StaysFair (h : StaticHead) : Type 0 where
  -- heads of buckets and the closing part
  pub front : (since : List Change) (p : Past) (at : ℕ) (bytes : List ℕ) → IsFairPast h since p → static_size ≤ at → at + length bytes ≤ base_of h.p → IsFairPast h since (with_write at bytes p)
  -- a block's link alone, whichever block
  pub link : (since : List Change) (p : Past) (q e link : ℕ) → IsFairPast h since p → link < 2 ^ 56 → StoodAt h p q e ⊎ IsOpen h since p q → IsFairPast h since (with_write (q + link_offset) (to_be_bytes w64 link) p)
  -- a key's own block overwritten
  pub overwrite : (since : List Change) (p : Past) (q e : ℕ) (b : Body) (padding : List ℕ) → IsFairPast h since p → IsPut since b → room_of b + length padding ≤ e → MayHold h since p q e
      → IsFairPast h since (with_write (q + body_offset) (body_text b q ++ padding) p)
  -- a void used again, and a block made void
  pub reuse : (since : List Change) (p : Past) (q e link : ℕ) (b : Body) → IsFairPast h since p → link < 2 ^ 56 → IsPut since b → room_of b ≤ e → MayHold h since p q e
      → IsFairPast h since (with_write (q + link_offset) (to_be_bytes w64 link ++ body_text b q) p)
  -- a block at the end, or anywhere after a clear
  pub append : (since : List Change) (p : Past) (q link : ℕ) (b : Body) → IsFairPast h since p → IsPut since b → IsOpen h since p q → IsFairPast h since (with_write q (block_text b q link) p)
  -- a cut, once a clear is among the changes
  pub cut : (since : List Change) (p : Past) (n : ℕ) → IsFairPast h since p → has_clear since ≡ true → static_size ≤ n → IsFairPast h since (with_cut n p)
  -- changes that are about to be made
  pub more : (since new : List Change) (p : Past) → IsFairPast h since p → IsFairPast h (since ++ new) p
  -- a hard synchronisation
  pub settled : (f : List ℕ) → static_at f ≡ Some h → KeysAreOnce (blocks_in h f) → IsFairPast h [] (settled_on f)
