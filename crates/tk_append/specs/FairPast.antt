-- Pasts of a file of groups in which nothing stood or was written that belongs to another.
use Rattle.std.specs.Prelude.{◌≡◌, ◌⊎◌, ℕ, ◌+◌, ◌^◌, ◌<◌, ◌≤◌, true, List, ◌∷◌, ◌++◌, length, take}
use Rattle.std.specs.Io.{StartsWith}
use Rattle.tk_disk.specs.Past.{Write, Past, with_write, settled_on}
use Rattle.tk_model.specs.declared.record.Group.{Group}
use Rattle.tk_block.specs.Text.{base_of, is_static}
use Rattle.tk_block.specs.Layout.{end_of, bodies_of, group_text, file_text}
use Rattle.tk_block.specs.declared.head.StaticHead.{StaticHead}
use Rattle.tk_append.specs.Log.{AreGroups, HasGroups}
use Rattle.tk_append.specs.Restored.{restored_groups, IsKept}
use Rattle.tk_append.specs.Untorn.{AllWrites, IsUntornBy}

-- one of the groups at its place
pub record IsGroupWrite (h : StaticHead) (groups : List Group) (w : Write) : Type 0 where
  pub front : List Group
  pub group : Group
  pub rest : List Group
  pub links : List ℕ
  pub is : groups ≡ front ++ group ∷ rest
  pub at : w.at ≡ end_of (base_of h.p) (bodies_of front)
  pub text : w.bytes ≡ group_text group w.at links

-- header and heads, and groups at their places
abbrev pub IsFairWrite : StaticHead → List Group → Write → Type 0
IsFairWrite h groups w = (w.at + length w.bytes ≤ base_of h.p) ⊎ IsGroupWrite h groups w

-- a front of the groups stood at the last hard synchronisation, and each write since is fair
pub record IsFairPast (h : StaticHead) (groups : List Group) (p : Past) : Type 0 where
  pub count : ℕ
  pub stood : HasGroups h (take count groups) p.fixed
  pub writes : AllWrites (IsFairWrite h groups) p.writes

-- an image that kept some groups and is untorn by a fair past is restored to them and a front of those behind them
abbrev pub FairRestores : Type 0
FairRestores =
    (h : StaticHead) (groups more : List Group) (next : ℕ) (p : Past) (c : List ℕ) → is_static h ≡ true → h.generation < 2 ^ 64 → AreGroups 0 next (groups ++ more) → next ≤ 2 ^ 64
    → IsKept h groups c → IsFairPast h (groups ++ more) p → IsUntornBy h p c → (k : ℕ) × (k ≤ length more) × (restored_groups c ≡ groups ++ take k more)

-- a past that is fair stays so as groups follow
abbrev pub FairMore : Type 0
FairMore = (h : StaticHead) (groups more : List Group) (p : Past) → IsFairPast h groups p → IsFairPast h (groups ++ more) p

-- as a fair write follows
abbrev pub FairWritten : Type 0
FairWritten =
    (h : StaticHead) (groups : List Group) (p : Past) (at : ℕ) (bytes : List ℕ) → IsFairPast h groups p → IsFairWrite h groups (record { at = at; bytes = bytes })
    → IsFairPast h groups (with_write at bytes p)

-- and at a hard synchronisation
abbrev pub FairSettled : Type 0
FairSettled = (h : StaticHead) (groups : List Group) (f : List ℕ) → HasGroups h groups f → IsFairPast h groups (settled_on f)

-- an untorn image with the file of groups at its front is restored to them, where its past is fair for them
abbrev pub WholeRestores : Type 0
WholeRestores =
    (h : StaticHead) (groups : List Group) (count next : ℕ) (p : Past) (c : List ℕ) → is_static h ≡ true → h.generation < 2 ^ 64 → AreGroups 0 (2 ^ 64) groups
    → StartsWith c (file_text h groups count next) → IsFairPast h groups p → IsUntornBy h p c → restored_groups c ≡ groups
