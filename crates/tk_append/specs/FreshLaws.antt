-- What an opening accepts of a fresh file.
use Rattle.std.specs.Prelude.{◌≡◌, ℕ, ◌^◌, ◌<◌, Bool, List, None}
use Rattle.tk_disk.specs.Past.{Past}
use Rattle.tk_model.specs.declared.record.ShardOf.{ShardOf}
use Rattle.tk_model.specs.declared.record.Group.{Group}
use Rattle.tk_block.specs.Text.{base_of}
use Rattle.tk_block.specs.Layout.{file_text, bodies_of, end_of}
use Rattle.tk_block.specs.declared.head.StaticHead.{StaticHead}
use Rattle.tk_append.specs.Opening.{first_fault}
use Rattle.tk_append.specs.Untorn.{IsKnownHeader, HasKnownHeader}
use Rattle.tk_append.specs.Fresh.{IsFreshMoment}

-- At a moment of the writing of a fresh file, before which no header was known: where its header stood or was written, and
-- nothing fails in it, the whole file stands there and nothing else.
abbrev pub FreshAccepted : Type 0
FreshAccepted =
    (kinds : List ℕ) (writable : Bool) (shard : ShardOf) (h : StaticHead) (groups : List Group)
    (count next : ℕ) (before p : Past) (f : List ℕ)
    → end_of (base_of h.p) (bodies_of groups) < 2 ^ 64 → count < 2 ^ 64 → next < 2 ^ 64
    → IsFreshMoment h groups (file_text h groups count next) before (p, f)
    → ((k : StaticHead) → IsKnownHeader before k → ⊥) → HasKnownHeader p f
    → first_fault kinds writable shard f ≡ None → f ≡ file_text h groups count next
