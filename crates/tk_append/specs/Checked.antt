-- What the check of a whole file answers.
use Rattle.std.specs.Prelude.{◌≡◌, ◌≤◌, ◌<◌, ◌^◌, ◌+◌, ◌*◌, ◌==◌, ℕ, Bool, true, List, [], length, drop, slice_index, Option, Some, None, IfSome, Result, Ok, Err}
use Rattle.std.specs.Io.{StartsWith}
use Rattle.std.specs.List.{list_any}
use Rattle.tk_model.specs.declared.record.Group.{Group}
use Rattle.tk_model.specs.declared.record.ShardOf.{ShardOf}
use Rattle.tk_model.specs.declared.error.OpenError.{OpenError}
use Rattle.tk_model.specs.declared.error.OpenError.TheVariants as errors
use Rattle.tk_block.specs.Sizes.{closing_place, heads_place, cell_size}
use Rattle.tk_block.specs.Text.{is_static, static_at, closing_at, base_of}
use Rattle.tk_block.specs.Layout.{Placed, bodies_of, end_of}
use Rattle.tk_model.specs.Records.{replay}
use Rattle.tk_model.specs.declared.record.Order.TheVariants.{Hash}
use Rattle.tk_block.specs.declared.head.StaticHead.{StaticHead}
use Rattle.tk_block.specs.declared.closing.Closing.{Closing}
use Rattle.tk_append.specs.Log.{AreGroups, AllInItsShard, closed_text}
use Rattle.tk_append.specs.Chains.{HeadsAre}
use Rattle.tk_append.specs.Opening.{Walk, Ends, walk, head_fault, closing_fault, end_fault, first_fault}
use Rattle.tk_append.specs.Walked.{Shows}
use Rattle.tk_append.specs.declared.check.Found.{Found}

-- a cause that speaks of the bytes is what fails first; want of memory says nothing of them
abbrev pub FindsCause : OpenError → Option OpenError → Type 0
FindsCause errors.NotADatabase fault = fault ≡ Some errors.NotADatabase
FindsCause (errors.BrokenAt place) fault = fault ≡ Some (errors.BrokenAt place)
FindsCause errors.Fault fault = ⊥
FindsCause errors.NoMemory fault = Unit {0}

-- the answer of a check of bytes
abbrev pub Finds : {T : Type 0} → Result T OpenError → Option OpenError → Type 0
Finds (Ok x) fault = fault ≡ None
Finds (Err e) fault = FindsCause e fault

-- the header of a file, whose first fault can only stand behind it
pub record HeadIn (kinds f : List ℕ) (h : StaticHead) : Type 0 where
  pub head : static_at f ≡ Some h
  pub long : heads_place ≤ length f
  pub rest : (writable : Bool) (shard : ShardOf) → first_fault kinds writable shard f ≡ closing_fault writable h shard f (closing_at (drop closing_place f))

-- the closing part of a file, whose first fault can only stand behind it
pub record ClosingIn (p : ℕ) (f : List ℕ) (c : Closing) : Type 0 where
  pub closing : closing_at (drop closing_place f) ≡ Some c
  pub size : c.size ≡ length f
  pub long : base_of p ≤ length f
  pub rest : (writable : Bool) (h : StaticHead) (shard : ShardOf) → h.p ≡ p → closing_fault writable h shard f (closing_at (drop closing_place f)) ≡ end_fault writable h c f (walk h shard f)

-- the header and the closing part of a file, by its front
pub record IsFront (image : Option (List ℕ)) (kinds : List ℕ) (found : Found) : Type 0 where
  pub front : List ℕ
  pub len : length front ≡ heads_place
  pub shown : Shows image 0 front
  pub small : (i : ℕ) → slice_index front i < 256
  pub size : IfSome image (λ f. length f ≡ found.closing.size)
  pub head : (f : List ℕ) → StartsWith f front → HeadIn kinds f found.head
  pub closing : (f : List ℕ) → StartsWith f front → length f ≡ found.closing.size → ClosingIn found.head.p f found.closing
  pub power : found.head.p ≤ 24
  pub base : base_of found.head.p ≤ found.closing.size

-- the disk has these heads, which are read as these bytes
pub record HeadsStand (image : Option (List ℕ)) (heads : List ℕ) : Type 0 where
  pub bytes : List ℕ
  pub len : length bytes ≡ cell_size * length heads
  pub shown : Shows image heads_place bytes
  pub small : (i : ℕ) → slice_index bytes i < 256
  pub same : (p : ℕ) (blocks : List Placed) (f : List ℕ) → HeadsAre p heads blocks → StartsWith (drop heads_place f) bytes → head_fault p blocks f (2 ^ p) 0 ≡ None

-- the disk, where it tells its bytes, has another head first at this place
abbrev pub HeadFails : (image : Option (List ℕ)) (heads : List ℕ) (place : ℕ) → Type 0
HeadFails image heads place = IfSome image (λ f. (p : ℕ) (blocks : List Placed) → HeadsAre p heads blocks → head_fault p blocks f (2 ^ p) 0 ≡ Some place)

-- the heads of a file, behind which nothing fails
pub record HasHeads (image : Option (List ℕ)) (h : StaticHead) (w : Walk) (c : Closing) (writable : Bool) : Type 0 where
  pub heads : List ℕ
  pub len : heads_place + length heads ≡ base_of h.p
  pub shown : Shows image heads_place heads
  pub small : (i : ℕ) → slice_index heads i < 256
  pub whole : w.open_group ≡ None
  pub ends : (f : List ℕ) → StartsWith (drop heads_place f) heads → end_fault writable h c f (Ends w) ≡ None

-- what was found in a file
pub record IsFound (shard : ShardOf) (f : List ℕ) (found : Found) : Type 0 where
  pub head : static_at f ≡ Some found.head
  pub closing : closing_at (drop closing_place f) ≡ Some found.closing
  pub w : Walk
  pub ends : walk found.head shard f ≡ Ends w
  pub whole : w.open_group ≡ None

-- a file that nothing fails in is the closed file of some groups
pub record IsClosed (kinds : List ℕ) (writable : Bool) (shard : ShardOf) (f : List ℕ) (found : Found) : Type 0 where
  pub groups : List Group
  pub head : is_static found.head ≡ true
  pub generation : found.head.generation < 2 ^ 64
  pub legal : AreGroups 0 found.closing.next groups
  pub number : found.closing.next < 2 ^ 64
  pub count : found.closing.count ≡ length (replay Hash groups [])
  pub size : found.closing.size ≡ end_of (base_of found.head.p) (bodies_of groups)
  pub bound : found.closing.size < 2 ^ 64
  pub text : f ≡ closed_text found.head groups found.closing.next
  pub kind : list_any (λ k. k == found.head.kind) kinds ≡ true
  pub in_its_shard : found.head.kind ≡ 1 → AllInItsShard shard groups
  pub last : writable ≡ true → found.closing.next ≤ 2 ^ 62
