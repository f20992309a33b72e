-- What a crash leaves of a change to a file on which nothing was pending, at each moment since the start of the call.
use Rattle.std.specs.Prelude.{◌≡◌, ℕ, ◌≤◌, true, List, [], ◌∷◌}
use Rattle.tk_model.specs.Entries.{group_of}
use Rattle.tk_model.specs.declared.record.Group.{Group}
use Rattle.tk_model.specs.declared.record.Change.{Change}
use Rattle.tk_proc.specs.Replies.{set_reply, remove_reply}
use Rattle.tk_disk.specs.Past.{Past, settled_on}
use Rattle.tk_disk.specs.Crash.{Only}
use Rattle.tk_append.specs.OpeningLaws.{IsClosedFile}
use Rattle.tk_append.specs.Untorn.{IsUntornBy}
use Rattle.tk_hash.specs.Hash.{RestoresTo}
use Rattle.tk_util.specs.Calls.{alone}
use Rattle.tk_util.specs.Interrupted.{RestoresEither}
use Rattle.tk_util.specs.Making.{AtEachMoment}
use Rattle.tk_util.specs.Ran.{reply_changes}
use Rattle.tk_util.specs.Words.{Command, Get, Set, Remove, Restore}

-- nothing is pending: nothing was written since these bytes were made durable, and a crash leaves only them
pub record IsSettledOn (f : List ℕ) (past : Past) (left : List ℕ → Type 0) : Type 0 where
  pub unwritten : past ≡ settled_on f
  pub only : Only f left

-- nor was anything at any moment since a time
pub record IsSettledSince (f : List ℕ) (since : List ℕ → Type 0) (with : Past × List ℕ → Type 0) : Type 0 where
  pub unwritten : (x : Past × List ℕ) → with x → x.0 ≡ settled_on f
  pub only : Only f since

-- an image is restored to these groups and a front of more: so to the records of the groups, or to those after more
pub record RestoresFront (held more : List Group) (image : List ℕ) : Type 0 where
  pub groups : RestoresTo held more 0 image
  pub records : RestoresEither held more image

-- a closed file of groups that may be opened for writing
abbrev pub IsOpenable : List ℕ → Type 0
IsOpenable f = IsClosedFile (1 ∷ []) true alone f

-- an image that is untorn by its past is restored to the groups of the file and a front of the call's
abbrev pub IsCutMoment : (changes : List Group → List Change) (f : List ℕ) → IsOpenable f → Past × List ℕ → Type 0
IsCutMoment changes f file x = IsUntornBy file.h x.0 x.1 → RestoresFront file.groups (group_of file.next (changes file.groups)) x.1

-- Where nothing is pending at the start, this holds of each moment since then.
abbrev pub IsCutShort : (changes : List Group → List Change) (f : List ℕ) (before now : ℕ) (past : Past) (left : List ℕ → Type 0) (left_with : ℕ → Past × List ℕ → Type 0) → Type 0
IsCutShort changes f before now past left left_with = IsSettledOn f past left → (file : IsOpenable f) → AtEachMoment (IsCutMoment changes f file) before now left_with

-- Where nothing was pending since a time before the start, it holds of each moment since that time.
abbrev pub IsCutShortSince : (changes : List Group → List Change) (f : List ℕ) (before now : ℕ) (was : ℕ → List ℕ → Type 0) (was_with left_with : ℕ → Past × List ℕ → Type 0) → Type 0
IsCutShortSince changes f before now was was_with left_with =
    (t : ℕ) → t ≤ before → IsSettledSince f (was t) (was_with t) → (file : IsOpenable f) → AtEachMoment (IsCutMoment changes f file) t now left_with

-- the same of a command that changes a file of these bytes, from its start on
abbrev pub CutsCommandShort : Command → (f : List ℕ) (before now : ℕ) (past : Past) (left : List ℕ → Type 0) (left_with : ℕ → Past × List ℕ → Type 0) → Type 0
CutsCommandShort (Get c) f before now past left left_with = Unit {0}
CutsCommandShort (Set c) f before now past left left_with = IsCutShort (λ groups. reply_changes (set_reply c.value true) groups c.key) f before now past left left_with
CutsCommandShort (Remove c) f before now past left left_with = IsCutShort (λ groups. reply_changes remove_reply groups c.key) f before now past left left_with
CutsCommandShort (Restore c) f before now past left left_with = Unit {0}
