-- What the calls of a folder do.
use Rattle.std.specs.Prelude.{◌≡◌, ◌≢◌, ℕ, List, [], Bool, false, Option, Some, None}
use Rattle.tk_disk.specs.Crash.{Within}
use Rattle.tk_disk.specs.Past.{Past}

-- an absent file reads as an empty one
abbrev pub or_empty : Option (List ℕ) → List ℕ
or_empty None = []
or_empty (Some f) = f

-- no name's disk is out
abbrev pub NoneOut : (List ℕ → Bool) → Type 0
NoneOut is_out = (name : List ℕ) → is_out name ≡ false

-- at every name but this one both say the same
abbrev pub SameBut : {A : Type 0} → List ℕ → (List ℕ → A) → (List ℕ → A) → Type 0
SameBut name before after = (m : List ℕ) → m ≢ name → after m ≡ before m

-- Of a file, what a crash may leave now was so before, what it may have left since a moment is as it was, and so is the past.
pub record SameHistory (before now : ℕ) (left leaves : List ℕ → Type 0) (was since : ℕ → List ℕ → Type 0) (past_was past_is : Past) (was_with since_with : ℕ → Past × List ℕ → Type 0) : Type 0 where
  pub moment : now ≡ before
  pub crash : Within left leaves
  pub time : (t : ℕ) → Within (was t) (since t)
  pub keeps : (t : ℕ) → Within (since t) (was t)
  pub past : past_is ≡ past_was
  pub pasts : (t : ℕ) (x : Past × List ℕ) → since_with t x → was_with t x
  pub keeps_pasts : (t : ℕ) (x : Past × List ℕ) → was_with t x → since_with t x

-- of the file at a name both folders tell the same history
abbrev pub KeepsHistory : {F : Type 0} → (F → List ℕ → ℕ) → (F → List ℕ → List ℕ → Type 0) → (F → List ℕ → ℕ → List ℕ → Type 0) → (F → List ℕ → Past) → (F → List ℕ → ℕ → Past × List ℕ → Type 0) → (old new : F) → List ℕ → Type 0
KeepsHistory moment_of leaves left_since past_of left_with old new name =
    SameHistory (moment_of old name) (moment_of new name) (leaves old name) (leaves new name) (left_since old name) (left_since new name) (past_of old name) (past_of new name) (left_with old name) (left_with new name)
