-- The file that holds given records and nothing else.
use Rattle.std.specs.Prelude.{◌≡◌, ◌⊎◌, ℕ, Some, ◌+◌, ◌==◌, ◌||◌, List, [], ◌∷◌, length, map, Bool, if◌then◌else◌}
use Rattle.std.specs.Io.{StartsWith}
use Rattle.tk_disk.specs.Past.{Past}
use Rattle.tk_model.specs.declared.record.Pair.{Pair}
use Rattle.tk_model.specs.declared.record.Change.TheVariants.{Put}
use Rattle.tk_model.specs.declared.record.Group.{Group}
use Rattle.tk_block.specs.declared.head.StaticHead.{StaticHead}
use Rattle.tk_block.specs.declared.block.Body.{Body}
use Rattle.tk_block.specs.Text.{base_of, static_at}
use Rattle.tk_block.specs.Blocks.{IsSmall, body_of, is_nil}
use Rattle.tk_block.specs.Layout.{file_text, bodies_of, end_of}
use Rattle.tk_append.specs.Untorn.{IsKnownHeader}
use Rattle.tk_append.specs.FairPast.{IsFairPast}

-- each record as a group of its own
abbrev pub apart : (number : ℕ) → List Pair → List Group
apart number [] = []
apart number (p ∷ ps) = record { number = number; changes = Put p ∷ [] } ∷ apart number ps

-- all records as one group, where there are any
abbrev pub together : (number : ℕ) → List Pair → List Group
together number [] = []
together number (p ∷ ps) = record { number = number; changes = Put p ∷ map Put ps } ∷ []

-- in an updating file each block is a group of its own
abbrev pub fresh_groups : (kind number : ℕ) → List Pair → List Group
fresh_groups kind number pairs = if kind == 2 then apart number pairs else together number pairs

abbrev pub fresh_next : (number : ℕ) → List Pair → ℕ
fresh_next number [] = 0
fresh_next number (p ∷ ps) = number + 1

-- the file of a header and records, all set under this number
abbrev pub fresh_text : (h : StaticHead) (number : ℕ) → List Pair → List ℕ
fresh_text h number pairs = file_text h (fresh_groups h.kind number pairs) (length pairs) (fresh_next number pairs)

-- its length
abbrev pub fresh_size : (h : StaticHead) (number : ℕ) → List Pair → ℕ
fresh_size h number pairs = end_of (base_of h.p) (bodies_of (fresh_groups h.kind number pairs))

-- each record is within the limits of a block
abbrev pub AllPairsSmall : List Pair → Type 0
AllPairsSmall [] = Unit {0}
AllPairsSmall (p ∷ ps) = IsSmall p.key p.value × AllPairsSmall ps

-- the bodies of the records, with the flag in each or in the last
abbrev pub fresh_bodies : (number : ℕ) (each : Bool) → List Pair → List Body
fresh_bodies number each [] = []
fresh_bodies number each (p ∷ ps) = body_of number (Put p) (each || is_nil ps) ∷ fresh_bodies number each ps

-- A moment of the writing, by its past and an image: a header that is known by now was known before, or the whole file
-- stands at the front of the image, and its past is fair: nothing stood or was written but its groups at their places, its
-- heads and its header.
abbrev pub IsFreshMoment : StaticHead → List Group → (text : List ℕ) → (before : Past) → Past × List ℕ → Type 0
IsFreshMoment h groups text before x =
    (k : StaticHead) → static_at x.1 ≡ Some k → IsKnownHeader x.0 k
    → IsKnownHeader before k ⊎ (StartsWith x.1 text × IsFairPast h groups x.0)
