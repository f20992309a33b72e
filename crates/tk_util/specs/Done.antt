-- What a call on a file did, by its answer.
use Rattle.std.specs.Prelude.{◌≡◌, ◌≢◌, ◌≤◌, ℕ, List, [], Bool, true, false, Option, Some, None, IsSome, IfSome, Result, Ok, Err, IfOk, OnOk}
use Rattle.tk_status.specs.declared.Status.{Status}
use Rattle.tk_status.specs.declared.Status.TheVariants.{Success}
use Rattle.tk_util.specs.Calls.{HoldsDatabase, exceeds_limit, called_file, RefusedAt}
use Rattle.tk_proc.specs.Replies.{Reply, get_reply, set_reply, remove_reply}
use Rattle.tk_status.specs.declared.finish.Finish.{Finish}
use Rattle.tk_disk.specs.Crash.{Within, Only}
use Rattle.tk_disk.specs.declared.disk.DiskError.{DiskError}
use Rattle.tk_disk.specs.declared.disk.DiskError.TheVariants as errors
use Rattle.tk_disk.specs.Disk.{Rose}
use Rattle.tk_disk.specs.Folder.{or_empty}
use Rattle.tk_util.specs.Words.{KeyWords}
use Rattle.tk_util.specs.World.{World}
use Rattle.tk_util.specs.Asked.{key_said, set_said}
use Rattle.tk_util.specs.Ran.{value_in, reply_changes, set_text, RanCall, RanSet, RanRemove}
use Rattle.tk_util.specs.declared.words.FileCommand.{FileCommand}
use Rattle.tk_util.specs.declared.words.FileCommand.TheVariants as asked
use Rattle.tk_util.specs.declared.call.Stop.{Stop}
use Rattle.tk_util.specs.declared.call.Stop.TheVariants as stops

-- why a call on a disk was not made
abbrev pub stop_of : DiskError → Stop
stop_of errors.Fault = stops.Fault
stop_of errors.NoMemory = stops.NoMemory

-- the call was made, and its change is in the file
pub record IsMade (writable : Bool) (reply : Option (List ℕ) → Reply) (key f : List ℕ) (after : Option (List ℕ)) (was : Option (List ℕ)) : Type 0 where
  pub holds : HoldsDatabase writable f
  pub was_is : was ≡ value_in holds.groups key
  pub room : exceeds_limit f (reply_changes reply holds.groups key) ≡ false
  pub after_is : after ≡ Some (called_file writable holds.head holds.groups holds.next (reply_changes reply holds.groups key))

pub record IsFull (writable : Bool) (reply : Option (List ℕ) → Reply) (key f : List ℕ) (after : Option (List ℕ)) : Type 0 where
  pub holds : HoldsDatabase writable f
  pub full : exceeds_limit f (reply_changes reply holds.groups key) ≡ true
  pub after_is : after ≡ Some f

abbrev pub CallDone : (writable : Bool) (reply : Option (List ℕ) → Reply) (key f : List ℕ) (after : Option (List ℕ)) → Result Status Stop → Type 0
CallDone writable reply key f after (Ok status) = (was : Option (List ℕ)) × IsMade writable reply key f after was × (status ≡ (reply was).status)
CallDone writable reply key f after (Err (stops.Refused place)) = RefusedAt writable f place × (after ≡ Some f)
CallDone writable reply key f after (Err stops.Full) = IsFull writable reply key f after
CallDone writable reply key f after (Err stops.Fault) = Unit {0}
CallDone writable reply key f after (Err stops.NoMemory) = after ≡ Some f

-- what a crash leaves of a disk after a call for writing, by its answer
abbrev pub CrashDone : Result Status Stop → (left leaves : List ℕ → Type 0) (after : Option (List ℕ)) → Type 0
CrashDone (Ok status) left leaves after = IfSome after (λ f. Only f leaves)
CrashDone (Err (stops.Refused place)) left leaves after = Within left leaves
CrashDone (Err stops.Full) left leaves after = IfSome after (λ f. Only f leaves)
CrashDone (Err stops.Fault) left leaves after = Unit {0}
CrashDone (Err stops.NoMemory) left leaves after = Unit {0}

-- the answer of a processor's call, with the status of its reply
abbrev pub with_status : Result Status Stop → Status → Result Status Stop
with_status (Ok s) status = Ok status
with_status (Err stop) status = Err stop

-- what a call that stopped short answers by its disk's count, which stands or doesn't
abbrev pub counted_answer : {T : Type 0} → (stands : Bool) → Result T Stop → Result T Stop
counted_answer true answer = answer
counted_answer false (Ok v) = Ok v
counted_answer false (Err (stops.Refused place)) = Err (stops.Refused place)
counted_answer false (Err stops.Full) = Err stops.Fault
counted_answer false (Err stops.Fault) = Err stops.Fault
counted_answer false (Err stops.NoMemory) = Err stops.Fault

-- a count of faults by a call's answer: it rose where there is a fault, and stands where there is neither that nor a refusal
abbrev pub CallCounts : {T : Type 0} → (before now : ℕ) → Result T Stop → Type 0
CallCounts before now (Ok v) = now ≡ before
CallCounts before now (Err (stops.Refused place)) = before ≤ now
CallCounts before now (Err stops.Full) = now ≡ before
CallCounts before now (Err stops.Fault) = Rose before now
CallCounts before now (Err stops.NoMemory) = now ≡ before

-- a call on an empty file is neither refused nor too long
abbrev pub FreshAnswer : Result Status Stop → Type 0
FreshAnswer (Ok status) = status ≡ Success
FreshAnswer (Err (stops.Refused place)) = ⊥
FreshAnswer (Err stops.Full) = ⊥
FreshAnswer (Err stops.Fault) = Unit {0}
FreshAnswer (Err stops.NoMemory) = Unit {0}

-- `set` on the bytes of a file, which may be none
pub record SetDone (key value f : List ℕ) (after : Option (List ℕ)) (answer : Result Status Stop) : Type 0 where
  pub fresh : f ≡ [] → OnOk answer (after ≡ Some (set_text key value))
  pub fresh_ends : f ≡ [] → FreshAnswer answer
  pub more : f ≢ [] → CallDone true (set_reply value true) key f after answer
  pub no_memory : answer ≡ Err stops.NoMemory → after ≡ Some f

-- `get` on the bytes of a file, which stay; the value is that of the file
pub record GetDone (key f : List ℕ) (after value : Option (List ℕ)) (answer : Result Status Stop) : Type 0 where
  pub call : CallDone false get_reply key f after answer
  pub found : IfOk answer (λ s. IsMade false get_reply key f after value × (s ≡ (get_reply value).status))
  pub still : after ≡ Some f

-- the call of a command on the bytes of its file, with the value that it found
abbrev pub CommandDone : FileCommand → (f : List ℕ) (after value : Option (List ℕ)) → Result Status Stop → Type 0
CommandDone (asked.Get c) f after value answer = GetDone c.key.now f after value answer
CommandDone (asked.Set c) f after value answer = SetDone c.key.now c.value.now f after answer × (value ≡ None)
CommandDone (asked.Remove c) f after value answer = CallDone true remove_reply c.key.now f after answer × (value ≡ None)

-- what a crash leaves of a disk after a call
abbrev pub CrashLeft : (writes : Bool) → Result Status Stop → (left leaves : List ℕ → Type 0) (after : Option (List ℕ)) → Type 0
CrashLeft true answer left leaves after = CrashDone answer left leaves after
CrashLeft false answer left leaves after = Within left leaves

-- why a disk was not taken: there is no file, or a fault, or want of memory
abbrev pub NotTaken : (create tells : Bool) (before : Option (List ℕ)) → Stop → Type 0
NotTaken create tells before (stops.Refused place) = (place ≡ 0) × (create ≡ false) × (tells ≡ true → before ≡ None)
NotTaken create tells before stops.Full = ⊥
NotTaken create tells before stops.Fault = Unit {0}
NotTaken create tells before stops.NoMemory = Unit {0}

-- `get`, as far as the value: the value is that of the file, and each file stays
pub record LookedUp (c : KeyWords) (before after : World) (value : Option (List ℕ)) (finish : Finish) : Type 0 where
  pub call : RanCall false get_reply c.key (before.files c.file) (after.files c.file) finish
  pub files : (name : List ℕ) → after.files name ≡ before.files name
  pub found : finish.status ≡ 0 → (h : HoldsDatabase false (or_empty (before.files c.file))) × (value ≡ value_in h.groups c.key) × IsSome value

-- a command on one file, as far as it prints nothing
abbrev pub RanOnFile : FileCommand → (before after : World) (value : Option (List ℕ)) → Finish → Type 0
RanOnFile (asked.Get c) before after value finish = LookedUp (key_said c) before after value finish
RanOnFile (asked.Set c) before after value finish = RanSet (set_said c) before after finish × (value ≡ None)
RanOnFile (asked.Remove c) before after value finish = RanRemove (key_said c) before after finish × (value ≡ None)
