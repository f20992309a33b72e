-- What a command does, by its end.
use Rattle.std.specs.Prelude.{◌≡◌, ◌≢◌, ◌⊎◌, ◌==◌, ◌^◌, nat_lt, ℕ, List, [], ◌∷◌, ◌++◌, Option, Some, None, Bool, true, false, if◌then◌else◌}
use Rattle.std.specs.Io.KnownBytes.{Appends}
use Rattle.tk_model.specs.Records.{find, replay}
use Rattle.tk_model.specs.declared.record.Order.TheVariants.{Hash}
use Rattle.tk_model.specs.declared.record.Group.{Group}
use Rattle.tk_model.specs.declared.record.Change.{Change}
use Rattle.tk_model.specs.declared.record.Change.TheVariants.{Put}
use Rattle.tk_proc.specs.Replies.{Reply, get_reply, set_reply, remove_reply}
use Rattle.tk_proc.specs.Runs.{action_changes}
use Rattle.tk_status.specs.declared.finish.Finish.{Finish}
use Rattle.tk_status.specs.Finish.{ended, refused_at, exists_at, answered, ended_by}
use Rattle.tk_io.specs.Streams.{AppendsFront}
use Rattle.tk_disk.specs.Folder.{or_empty, SameBut}
use Rattle.tk_block.specs.declared.head.StaticHead.{StaticHead}
use Rattle.tk_block.specs.Layout.{file_text}
use Rattle.tk_block.specs.Text.{static_at}
use Rattle.tk_restore.specs.Restoration.{IsWhole, restored_file, restored_size}
use Rattle.tk_util.specs.Calls.{HoldsDatabase, exceeds_limit, called_file, RefusedAt}
use Rattle.tk_disk.specs.Disk.{Rose}
use Rattle.tk_util.specs.Words.{Command, Get, Set, Remove, Restore, KeyWords, SetWords, RestoreWords}
use Rattle.tk_util.specs.World.{World}

-- the header of a new hash file
abbrev pub new_head : StaticHead
new_head = record { kind = 1; version = 1; p = 10; order = 0; generation = 0 }

-- one group of number 0 that sets the key
abbrev pub set_groups : (key value : List ℕ) → List Group
set_groups key value = record { number = 0; changes = Put (record { key = key; value = value }) ∷ [] } ∷ []

-- a new hash file with that group
abbrev pub set_text : (key value : List ℕ) → List ℕ
set_text key value = file_text new_head (set_groups key value) 1 1

-- the value at a key, in the records of groups
abbrev pub value_in : (groups : List Group) → (key : List ℕ) → Option (List ℕ)
value_in groups key = find key (replay Hash groups [])

-- the net changes of a call at a key, by its reply
abbrev pub reply_changes : (Option (List ℕ) → Reply) → (groups : List Group) → (key : List ℕ) → List Change
reply_changes reply groups key = action_changes key (value_in groups key) (reply (value_in groups key)).action

-- a call was made on the records of a file, replied so, and its change is in the file
pub record Replied (writable : Bool) (reply : Option (List ℕ) → Reply) (key f : List ℕ) (after : Option (List ℕ)) (finish : Finish) : Type 0 where
  pub holds : HoldsDatabase writable f
  pub ends : finish ≡ ended_by (reply (value_in holds.groups key)).status
  pub room : exceeds_limit f (reply_changes reply holds.groups key) ≡ false
  pub after_is : after ≡ Some (called_file writable holds.head holds.groups holds.next (reply_changes reply holds.groups key))

-- the file would pass its limit, and stays
pub record Filled (writable : Bool) (reply : Option (List ℕ) → Reply) (key f : List ℕ) (after : Option (List ℕ)) (finish : Finish) : Type 0 where
  pub holds : HoldsDatabase writable f
  pub ends : finish ≡ answered 21
  pub full : exceeds_limit f (reply_changes reply holds.groups key) ≡ true
  pub after_is : after ≡ Some f

-- the file was refused, and stays
pub record Refused (writable : Bool) (f : List ℕ) (before after : Option (List ℕ)) (finish : Finish) : Type 0 where
  pub at : RefusedAt writable f finish.place
  pub ends : finish ≡ refused_at 0 finish.place
  pub after_is : after ≡ before

-- one call on a file; an absent file is as an empty one, which is refused
pub record RanCall (writable : Bool) (reply : Option (List ℕ) → Reply) (key : List ℕ) (before after : Option (List ℕ)) (finish : Finish) : Type 0 where
  pub done : finish.status ≡ 0 → Replied writable reply key (or_empty before) after finish
  pub answers : finish.status ≡ 6 → Replied writable reply key (or_empty before) after finish ⊎ Filled writable reply key (or_empty before) after finish
  pub refused : finish.status ≡ 3 → Refused writable (or_empty before) before after finish
  pub no_memory : finish.status ≡ 5 → after ≡ before

-- nothing but one file changed
pub record OnlyFile (name : List ℕ) (before after : World) : Type 0 where
  pub others : SameBut name before.files after.files
  pub left : after.left ≡ before.left
  pub held : after.held ≡ before.held

-- `set`: an absent or empty file becomes a new file of one record; a file that has bytes gets a group more
pub record RanSet (c : SetWords) (before after : World) (finish : Finish) : Type 0 where
  pub fresh : or_empty (before.files c.file) ≡ [] → finish.status ≡ 0 → after.files c.file ≡ Some (set_text c.key c.value)
  pub fresh_ends : or_empty (before.files c.file) ≡ [] → (finish.status ≢ 3) × (finish.status ≢ 6)
  pub more : or_empty (before.files c.file) ≢ [] → RanCall true (set_reply c.value true) c.key (before.files c.file) (after.files c.file) finish
  pub no_memory : finish.status ≡ 5 → or_empty (after.files c.file) ≡ or_empty (before.files c.file)
  pub only : OnlyFile c.file before after

-- `remove`: a file of records gets a group more where the key is there
pub record RanRemove (c : KeyWords) (before after : World) (finish : Finish) : Type 0 where
  pub call : RanCall true remove_reply c.key (before.files c.file) (after.files c.file) finish
  pub only : OnlyFile c.file before after

-- the value at a key in a file, as a line
pub record IsLine (key f line : List ℕ) : Type 0 where
  pub holds : HoldsDatabase false f
  pub value : List ℕ
  pub found : value_in holds.groups key ≡ Some value
  pub line_is : line ≡ value ++ 10 ∷ []

-- `get`: the value's bytes and LF go out, and each file stays as it is
pub record RanGet (c : KeyWords) (before after : World) (finish : Finish) : Type 0 where
  pub call : RanCall false get_reply c.key (before.files c.file) (after.files c.file) finish
  pub files : (name : List ℕ) → after.files name ≡ before.files name
  pub left : after.left ≡ before.left
  pub printed : finish.status ≡ 0 → (line : List ℕ) × IsLine c.key (or_empty (before.files c.file)) line × Appends before.held after.held line
  pub silent : (finish.status ≡ 3) ⊎ (finish.status ≡ 6) → after.held ≡ before.held
  pub front : (after.held ≡ before.held) ⊎ ((line : List ℕ) × IsLine c.key (or_empty (before.files c.file)) line × AppendsFront before.held after.held line)

-- where a file of this header can't be restored: it is none of groups, or the new file would be longer than 2^40 bytes
abbrev pub restore_fault_by : (image : List ℕ) → Option StaticHead → Option ℕ
restore_fault_by image None = Some 0
restore_fault_by image (Some h) = if h.kind == 2 then Some 8 else (if nat_lt (2 ^ 40) (restored_size h image) then Some 10 else None)

-- the first place for which a file can't be restored, where there is one
unfoldable pub restore_fault : (image : List ℕ) → Option ℕ
restore_fault image = restore_fault_by image (static_at image)

-- a file is the one to which an image is restored
pub record IsRestored (image : List ℕ) (file : Option (List ℕ)) : Type 0 where
  pub head : StaticHead
  pub was : static_at image ≡ Some head
  pub is : file ≡ Some (restored_file head image)

-- `restore`: the records that a crash left of one file are written as a new one, where none has bytes
pub record RanRestore (c : RestoreWords) (before after : World) (finish : Finish) : Type 0 where
  pub done : finish.status ≡ 0 → IsRestored (or_empty (before.files c.from)) (after.files c.to)
  pub valid : finish.status ≡ 0 → IsWhole (or_empty (before.files c.from)) (or_empty (after.files c.to))
  pub refused : finish.status ≡ 3 → (finish ≡ refused_at 0 finish.place) × (restore_fault (or_empty (before.files c.from)) ≡ Some finish.place)
  pub exists : finish.status ≡ 7 → (finish ≡ exists_at 1) × (or_empty (before.files c.to) ≢ [])
  -- the file that is restored is judged first, then the new one
  pub sound : (finish.status ≡ 0) ⊎ (finish.status ≡ 7) → restore_fault (or_empty (before.files c.from)) ≡ None
  pub bytes_stay : or_empty (before.files c.to) ≢ [] → (finish.status ≢ 0) × (after.files c.to ≡ before.files c.to)
  pub unmade : (finish.status ≡ 3) ⊎ (finish.status ≡ 7) → after.files c.to ≡ before.files c.to
  pub no_memory : finish.status ≡ 5 → or_empty (after.files c.to) ≡ or_empty (before.files c.to)
  pub only : OnlyFile c.to before after

abbrev pub Ran : Command → (before after : World) → Finish → Type 0
Ran (Get c) before after finish = RanGet c before after finish
Ran (Set c) before after finish = RanSet c before after finish
Ran (Remove c) before after finish = RanRemove c before after finish
Ran (Restore c) before after finish = RanRestore c before after finish

-- the file of a command; of two, the one that is written
abbrev pub file_of : Command → List ℕ
file_of (Get c) = c.file
file_of (Set c) = c.file
file_of (Remove c) = c.file
file_of (Restore c) = c.to

-- a command that makes an absent file
abbrev pub creates : Command → Bool
creates (Get c) = false
creates (Set c) = true
creates (Remove c) = false
creates (Restore c) = true

-- a command that may write
abbrev pub writes : Command → Bool
writes (Get c) = false
writes (Set c) = true
writes (Remove c) = true
writes (Restore c) = true

-- what a command leaves in its file, by an end
abbrev pub RanFile : Command → (before after : World) → Finish → Type 0
RanFile (Get c) before after finish = RanCall false get_reply c.key (before.files c.file) (after.files c.file) finish
RanFile (Set c) before after finish = RanSet c before after finish
RanFile (Remove c) before after finish = RanCall true remove_reply c.key (before.files c.file) (after.files c.file) finish
RanFile (Restore c) before after finish = RanRestore c before after finish

-- the statuses of a call's end without a fault
abbrev pub IsClear : ℕ → Type 0
IsClear status = (status ≡ 0) ⊎ ((status ≡ 3) ⊎ ((status ≡ 5) ⊎ (status ≡ 6)))

-- the statuses of a command's end without a fault
abbrev pub IsClearEnd : Command → ℕ → Type 0
IsClearEnd (Get c) status = IsClear status
IsClearEnd (Set c) status = IsClear status
IsClearEnd (Remove c) status = IsClear status
IsClearEnd (Restore c) status = (status ≡ 0) ⊎ ((status ≡ 3) ⊎ ((status ≡ 5) ⊎ (status ≡ 7)))

-- the file is as an end without a fault leaves it
abbrev pub EndsClearly : Command → (before after : World) → Type 0
EndsClearly c before after = (end : Finish) × IsClearEnd c end.status × RanFile c before after end

-- a command whose words were read ends with one of these statuses
abbrev pub IsRunStatus : Command → ℕ → Type 0
IsRunStatus c status = (status ≡ 4) ⊎ IsClearEnd c status

-- a count of faults of the disk of one of the command's files rose
abbrev pub RoseOf : Command → (old new : List ℕ → ℕ) → Type 0
RoseOf (Get c) old new = Rose (old c.file) (new c.file)
RoseOf (Set c) old new = Rose (old c.file) (new c.file)
RoseOf (Remove c) old new = Rose (old c.file) (new c.file)
RoseOf (Restore c) old new = Rose (old c.from) (new c.from) ⊎ Rose (old c.to) (new c.to)

-- fields that the status doesn't use are 0
abbrev pub IsEnd : Finish → Type 0
IsEnd finish = (finish ≡ ended finish.status) ⊎ ((finish ≡ refused_at 0 finish.place) ⊎ ((finish ≡ exists_at finish.file) ⊎ (finish ≡ answered finish.answer)))
