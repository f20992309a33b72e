-- What a crash leaves of a file whose change was interrupted, at each moment of the call.
use Rattle.std.specs.Prelude.{◌≡◌, ◌≢◌, ◌⊎◌, ℕ, ◌≤◌, true, List, [], ◌++◌}
use Rattle.tk_model.specs.Records.{replay}
use Rattle.tk_model.specs.Entries.{group_of}
use Rattle.tk_model.specs.declared.record.Order.TheVariants.{Hash}
use Rattle.tk_model.specs.declared.record.Group.{Group}
use Rattle.tk_model.specs.declared.record.Change.{Change}
use Rattle.tk_proc.specs.Replies.{set_reply, remove_reply}
use Rattle.tk_disk.specs.Past.{Past}
use Rattle.tk_disk.specs.Crash.{Torn}
use Rattle.tk_append.specs.Restored.{restored_groups}
use Rattle.tk_append.specs.Untorn.{IsUntornBy}
use Rattle.tk_hash.specs.Hash.{RestoresTo}
use Rattle.tk_util.specs.Calls.{HoldsDatabase}
use Rattle.tk_util.specs.Ran.{reply_changes}
use Rattle.tk_util.specs.Words.{Command, Get, Set, Remove, Restore}
use Rattle.tk_block.specs.Sizes.{closing_place, closing_size}

-- the groups that a call may add: none, or the one of its changes
abbrev pub MayAdd : (next : ℕ) → List Change → List Group → Type 0
MayAdd next changes since = (since ≡ []) ⊎ (since ≡ group_of next changes)

-- the records to which an image is restored are those of the groups, or those after more
abbrev pub RestoresEither : (groups more : List Group) → (image : List ℕ) → Type 0
RestoresEither groups more image =
    (replay Hash (restored_groups image) [] ≡ replay Hash groups []) ⊎ (replay Hash (restored_groups image) [] ≡ replay Hash (groups ++ more) [])

-- The file was opened, and at each moment since then an image that is untorn by what had been written restores to the groups
-- that the file held and a front of the call's: so to the records before the call, or to those after it.
pub record IsInterrupted (changes : List Group → List Change) (f : List ℕ) (before now : ℕ) (left_with : ℕ → Past × List ℕ → Type 0) : Type 0 where
  pub holds : HoldsDatabase true f
  pub since : List Group
  pub added : MayAdd holds.next (changes holds.groups) since
  -- the moment at which it was opened
  pub opened : ℕ
  pub later : before ≤ opened
  pub earlier : opened ≤ now
  pub groups : (x : Past × List ℕ) → left_with opened x → IsUntornBy holds.head x.0 x.1 → RestoresTo holds.groups since 0 x.1
  pub records : (x : Past × List ℕ) → left_with opened x → IsUntornBy holds.head x.0 x.1
      → RestoresEither holds.groups (group_of holds.next (changes holds.groups)) x.1

-- It was not opened: all that a crash might have left since the start is what it might have left before, the closing part torn.
abbrev pub IsUnopened : (before : ℕ) (left : List ℕ → Type 0) (was since : ℕ → List ℕ → Type 0) → Type 0
IsUnopened before left was since = (t : ℕ) (c : List ℕ) → t ≤ before → since t c → was t c ⊎ ((d : List ℕ) × left d × Torn closing_place closing_size d c)

-- one of both, of a call that changes what `changes` says
abbrev pub Interrupts : (changes : List Group → List Change) (f : List ℕ) (before now : ℕ) (left : List ℕ → Type 0) (was since : ℕ → List ℕ → Type 0) (left_with : ℕ → Past × List ℕ → Type 0) → Type 0
Interrupts changes f before now left was since left_with = IsInterrupted changes f before now left_with ⊎ IsUnopened before left was since

-- the same of a command that changes a file of these bytes
abbrev pub InterruptsCommand : Command → (f : List ℕ) (before now : ℕ) (left : List ℕ → Type 0) (was since : ℕ → List ℕ → Type 0) (left_with : ℕ → Past × List ℕ → Type 0) → Type 0
InterruptsCommand (Get c) f before now left was since left_with = Unit {0}
InterruptsCommand (Set c) f before now left was since left_with = f ≢ [] → Interrupts (λ groups. reply_changes (set_reply c.value true) groups c.key) f before now left was since left_with
InterruptsCommand (Remove c) f before now left was since left_with = Interrupts (λ groups. reply_changes remove_reply groups c.key) f before now left was since left_with
InterruptsCommand (Restore c) f before now left was since left_with = Unit {0}
