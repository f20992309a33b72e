-- What look-ups find, and what a store keeps in memory of its file.
use Rattle.std.specs.Prelude.{◌≡◌, ℕ, ◌+◌, ◌-◌, ◌≤◌, ◌^◌, List, [], length, Option, Some, None, IfSome}
use Rattle.std.specs.Option.{is_some}
use Rattle.tk_model.specs.Records.{find, replay}
use Rattle.tk_model.specs.declared.record.Order.TheVariants.{Hash}
use Rattle.tk_model.specs.declared.record.Pair.{Pair}
use Rattle.tk_model.specs.declared.record.Group.{Group}
use Rattle.tk_block.specs.Sizes.{key_offset}
use Rattle.tk_block.specs.declared.head.StaticHead.{StaticHead}
use Rattle.tk_append.specs.Chains.{HeadsAre}
use Rattle.tk_append.specs.Log.{blocks_of}
use Rattle.tk_append.specs.Restored.{groups_in}
use Rattle.tk_buckets.specs.Lookup.{IsBlockOf}
use Rattle.tk_buckets.specs.declared.lookup.FoundBlock.{FoundBlock}
use Rattle.tk_hash.specs.Chain.{in_bucket}
use Rattle.tk_hash.specs.declared.found.FoundKey.{FoundKey}
use Rattle.tk_hash.specs.declared.seek.HeldFile.{HeldFile}
use Rattle.tk_hash.specs.declared.shelf.Shelf.{Shelf}

-- these are the heads of the buckets, those of the file where the disk tells it
pub record KnowsHeads (image : Option (List ℕ)) (h : StaticHead) (heads : List ℕ) : Type 0 where
  pub whole : length heads ≡ 2 ^ h.p
  pub newest : IfSome image (λ f. HeadsAre h.p heads (blocks_of h (groups_in h f)))

-- what stands in memory of a file is so, where the disk tells it
pub record KnowsFile (image : Option (List ℕ)) (m : HeldFile) : Type 0 where
  pub heads_are : KnowsHeads image m.head m.heads.now
  pub end_is : IfSome image (λ f. length f ≡ m.end)

-- A block has the value of a key, and the buffer as much of it as there is room for: what is left of it is within the bytes
-- that the look-up may take, of which some were taken.
pub record HasValue (key : List ℕ) (value : Option (List ℕ)) (f buffer : List ℕ) (before now cost : ℕ) (x : FoundBlock) : Type 0 where
  pub block : IsBlockOf f key buffer x
  pub value_is : value ≡ Some block.body.value
  pub left : now + (x.value_len - (length buffer - (key_offset + length key))) ≤ before + cost

-- what a search for a value came to
abbrev pub Sought : List ℕ → Option (List ℕ) → (f buffer : List ℕ) → (before now cost : ℕ) → Option FoundBlock → Type 0
Sought key value f buffer before now cost None = value ≡ None
Sought key value f buffer before now cost (Some x) = HasValue key value f buffer before now cost x

-- what the look-up of a key found holds for these records
abbrev pub IsFound : FoundKey → List Pair → Type 0
IsFound k records = IfSome k.present (λ there. there ≡ is_some (find k.key records))

-- and for those of the file, where the disk tells it
abbrev pub KnowsKey : (image : Option (List ℕ)) → StaticHead → FoundKey → Type 0
KnowsKey image h k = IfSome image (λ f. IsFound k (replay Hash (groups_in h f) []))

-- the shelf has the records of its bucket
abbrev pub IsShelf : StaticHead → List Group → Option Shelf → Type 0
IsShelf h groups None = Unit {0}
IsShelf h groups (Some s) = s.records ≡ in_bucket h.p s.bucket (replay Hash groups [])
