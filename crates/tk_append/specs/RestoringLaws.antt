-- What is read back of a file of groups, and what keeps it.
use Rattle.std.specs.Prelude.{◌≡◌, ◌⊎◌, ℕ, ◌+◌, ◌≤◌, List, ◌++◌, length}
use Rattle.tk_disk.specs.Crash.{Torn}
use Rattle.tk_model.specs.declared.record.Group.{Group}
use Rattle.tk_block.specs.Sizes.{static_size}
use Rattle.tk_block.specs.Text.{base_of}
use Rattle.tk_block.specs.declared.head.StaticHead.{StaticHead}
use Rattle.tk_append.specs.FileText.{IsFile}
use Rattle.tk_append.specs.Restored.{groups_in, groups_text, IsKept}

-- a file of groups is read back
abbrev pub ReadsBack : Type 0
ReadsBack = (h : StaticHead) (f : List ℕ) (groups : List Group) → IsFile h f groups → groups_in h f ≡ groups

-- a write in the closing part or the heads, or behind the groups, keeps them
abbrev pub TornKeeps : Type 0
TornKeeps =
    (h : StaticHead) (groups : List Group) (d c : List ℕ) (at n : ℕ) → IsKept h groups d → Torn at n d c → ((static_size ≤ at) × (at + n ≤ base_of h.p)) ⊎ (base_of h.p + length (groups_text h groups) ≤ at) → IsKept h groups c

-- a file of groups keeps them
abbrev pub FilesKeep : Type 0
FilesKeep = (h : StaticHead) (f : List ℕ) (groups : List Group) → IsFile h f groups → IsKept h groups f

-- what keeps groups keeps a front of them
abbrev pub FrontsKept : Type 0
FrontsKept = (h : StaticHead) (groups more : List Group) (c : List ℕ) → IsKept h (groups ++ more) c → IsKept h groups c
