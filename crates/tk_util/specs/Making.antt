-- What is left of a file that a command makes, where there was none or an empty one.
use Rattle.std.specs.Prelude.{◌≡◌, ℕ, ◌≤◌, Bool, List, Option, Some, None}
use Rattle.tk_model.specs.declared.record.ShardOf.{ShardOf}
use Rattle.tk_disk.specs.Past.{Past}
use Rattle.tk_disk.specs.Folder.{or_empty}
use Rattle.tk_block.specs.declared.head.StaticHead.{StaticHead}
use Rattle.tk_append.specs.Fresh.{IsFreshMoment}
use Rattle.tk_append.specs.Opening.{first_fault}
use Rattle.tk_append.specs.Untorn.{IsKnownHeader, HasKnownHeader}
use Rattle.tk_restore.specs.Restoration.{IsRestoringMoment}
use Rattle.tk_util.specs.Ran.{new_head, set_groups, set_text, IsRestored}
use Rattle.tk_util.specs.Words.{Command, Get, Set, Remove, Restore}

-- no header stood at the last hard synchronisation, and none was written since
abbrev pub KnowsNoHeader : Past → Type 0
KnowsNoHeader p = (k : StaticHead) → IsKnownHeader p k → ⊥

-- An image with its past: where no header was known before, and the one that stands in the image is known by then, an opening
-- accepts the image only if it is the whole file.
abbrev pub OpensWhole : (IsFile : List ℕ → Type 0) (before : Past) → Past × List ℕ → Type 0
OpensWhole IsFile before x =
    KnowsNoHeader before → HasKnownHeader x.0 x.1
    → (kinds : List ℕ) (writable : Bool) (shard : ShardOf) → first_fault kinds writable shard x.1 ≡ None → IsFile x.1

-- The file of one record is made. A header that is known by then was known before, or the whole file stands at the front; and
-- an opening accepts nothing but the file that status 0 leaves.
abbrev pub IsSettingMoment : (key value : List ℕ) (before : Past) → Past × List ℕ → Type 0
IsSettingMoment key value before x = IsFreshMoment new_head (set_groups key value) (set_text key value) before x × OpensWhole (λ f. f ≡ set_text key value) before x

-- The same of the file to which an image is restored.
abbrev pub IsRestoredMoment : (image : List ℕ) (before : Past) → Past × List ℕ → Type 0
IsRestoredMoment image before x = IsRestoringMoment image before x × OpensWhole (λ f. IsRestored image (Some f)) before x

-- The same of a file that isn't made: an opening accepts nothing.
abbrev pub IsUnmadeMoment : (before : Past) → Past × List ℕ → Type 0
IsUnmadeMoment before x = OpensWhole (λ f. ⊥) before x

-- a moment of a command, by its past and an image; what `get` leaves is what was there
abbrev pub IsMakingMoment : Command → (files : List ℕ → Option (List ℕ)) (before : Past) → Past × List ℕ → Type 0
IsMakingMoment (Get c) files before x = Unit {0}
IsMakingMoment (Set c) files before x = IsSettingMoment c.key c.value before x
IsMakingMoment (Remove c) files before x = IsUnmadeMoment before x
IsMakingMoment (Restore c) files before x = IsRestoredMoment (or_empty (files c.from)) before x

-- at each moment since the start
pub record AtEachMoment (P : Past × List ℕ → Type 0) (start now : ℕ) (left_with : ℕ → Past × List ℕ → Type 0) : Type 0 where
  pub later : start ≤ now
  pub each : (x : Past × List ℕ) → left_with start x → P x

-- what a command makes, and what a crash at any moment of it leaves
abbrev pub Makes : Command → (files : List ℕ → Option (List ℕ)) (before : Past) (start now : ℕ) (left_with : ℕ → Past × List ℕ → Type 0) → Type 0
Makes (Get c) files before start now left_with = Unit {0}
Makes (Set c) files before start now left_with = AtEachMoment (IsSettingMoment c.key c.value before) start now left_with
Makes (Remove c) files before start now left_with = AtEachMoment (IsUnmadeMoment before) start now left_with
Makes (Restore c) files before start now left_with = AtEachMoment (IsRestoredMoment (or_empty (files c.from)) before) start now left_with
