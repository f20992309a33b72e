-- What it means that texts are read exactly.
use Rattle.std.specs.Prelude.{◌≡◌, ℕ, ◌^◌, ◌<◌, List, length, ◌++◌, Option, Some, IsTrue}
use Rattle.std.specs.Io.{StartsWith}
use Rattle.tk_block.specs.Text.{is_extent, is_static}
use Rattle.tk_block.specs.Blocks.{is_body}
use Rattle.tk_block.specs.declared.block.Body.{Body}
use Rattle.tk_block.specs.declared.head.StaticHead.{StaticHead}
use Rattle.tk_block.specs.declared.closing.Closing.{Closing}

-- what is found at the front of bytes is spelled there, and what is spelled there is found, whatever follows
pub record Reads {A : Type 0} (Fits : A → Type 0) (text : A → List ℕ) (find : List ℕ → Option A) : Type 0 where
  pub found : (bytes : List ℕ) (x : A) → find bytes ≡ Some x → Fits x × StartsWith bytes (text x)
  pub again : (x : A) (rest : List ℕ) → Fits x → find (text x ++ rest) ≡ Some x

abbrev pub FitsExtent : ℕ → Type 0
FitsExtent e = IsTrue (is_extent e)

abbrev pub FitsStatic : StaticHead → Type 0
FitsStatic h = IsTrue (is_static h) × (h.generation < 2 ^ 64)

abbrev pub FitsClosing : Closing → Type 0
FitsClosing c = (c.size < 2 ^ 64) × (c.count < 2 ^ 64) × (c.next < 2 ^ 64)

-- the form of its kind, a key within its limit, a number of 64 bits
abbrev pub FitsBody : Body → Type 0
FitsBody b = IsTrue (is_body b) × (length b.key < 2 ^ 16) × (b.number < 2 ^ 64)
