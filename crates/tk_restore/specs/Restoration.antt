-- To what the image that a crash left of a file of groups is restored.
use Rattle.std.specs.Prelude.{◌≡◌, ◌⊎◌, ℕ, ◌^◌, ◌≤◌, nat_lt, Bool, List, [], ◌∷◌, length, Option, Some, None, IfSome, if◌then◌else◌}
use Rattle.std.specs.Io.{StartsWith}
use Rattle.tk_disk.specs.Past.{Past}
use Rattle.tk_model.specs.declared.record.Pair.{Pair}
use Rattle.tk_model.specs.declared.record.ShardOf.{ShardOf}
use Rattle.tk_model.specs.declared.record.Order.TheVariants.{Hash}
use Rattle.tk_model.specs.declared.error.OpenError.{OpenError}
use Rattle.tk_model.specs.declared.error.OpenError.TheVariants as errors
use Rattle.tk_model.specs.Records.{replay}
use Rattle.tk_block.specs.Text.{static_at, base_of}
use Rattle.tk_block.specs.Layout.{bodies_of, end_of}
use Rattle.tk_block.specs.declared.head.StaticHead.{StaticHead}
use Rattle.tk_append.specs.Fresh.{together, fresh_next}
use Rattle.tk_append.specs.Log.{closed_text}
use Rattle.tk_append.specs.Opening.{first_fault}
use Rattle.tk_append.specs.Restored.{restored_groups}
use Rattle.tk_append.specs.Untorn.{IsKnownHeader}

-- the records that the image's restored groups leave, in hash order
abbrev pub restored_records : (image : List ℕ) → List Pair
restored_records image = replay Hash (restored_groups image) []

-- the header of the new file: the old one, of generation 0
abbrev pub restored_head : StaticHead → StaticHead
restored_head h = record { kind = h.kind; version = h.version; p = h.p; order = h.order; generation = 0 }

-- the closed file of the image's records: one group of number 0 with all of them, where there are any
abbrev pub restored_file : StaticHead → (image : List ℕ) → List ℕ
restored_file h image = closed_text (restored_head h) (together 0 (restored_records image)) (fresh_next 0 (restored_records image))

-- its length
abbrev pub restored_size : StaticHead → (image : List ℕ) → ℕ
restored_size h image = end_of (base_of h.p) (bodies_of (together 0 (restored_records image)))

-- the file is the one to which the image is restored, and has so many records
pub record IsRestoredFrom (image file : List ℕ) (count : ℕ) : Type 0 where
  pub head : StaticHead
  pub was : static_at image ≡ Some head
  pub is : file ≡ restored_file head image
  pub counted : count ≡ length (restored_records image)

-- the file to which an image is restored stands at the front
pub record BeginsRestored (image c : List ℕ) : Type 0 where
  pub head : StaticHead
  pub was : static_at image ≡ Some head
  pub starts : StartsWith c (restored_file head image)

-- A moment of the writing, by its past and what a crash leaves: a header that is known by then was known before, or the
-- whole restored file stands there.
abbrev pub IsRestoringMoment : (image : List ℕ) (before : Past) → Past × List ℕ → Type 0
IsRestoringMoment image before x =
    (k : StaticHead) → static_at x.1 ≡ Some k → IsKnownHeader x.0 k → IsKnownHeader before k ⊎ BeginsRestored image x.1

-- a file of groups: its kind is no updating one
abbrev pub IsAppending : List ℕ → Type 0
IsAppending image = IfSome (static_at image) (λ h. (h.kind ≡ 1) ⊎ (h.kind ≡ 3))

-- why an image of this header is not restored: the new file would be longer than 2^40 bytes
abbrev pub refused_by : (image : List ℕ) → Option StaticHead → Option OpenError
refused_by image None = Some errors.NotADatabase
refused_by image (Some h) = if nat_lt (2 ^ 40) (restored_size h image) then Some (errors.BrokenAt 10) else None

-- why an image is not restored: it has no header, or the new file would be too long
unfoldable pub refusal : (image : List ℕ) → Option OpenError
refusal image = refused_by image (static_at image)

-- of a refusal: its place, where it has one, is 10, the byte of the number of buckets, and this holds
abbrev pub OnRefusal : OpenError → Type 0 → Type 0
OnRefusal errors.NotADatabase P = P
OnRefusal (errors.BrokenAt place) P = (place ≡ 10) × P
OnRefusal errors.Fault P = Unit {0}
OnRefusal errors.NoMemory P = Unit {0}

-- as no part of a set
abbrev pub alone : ShardOf
alone = record { index = 0; of = 1 }

-- what a restored file is: one that opens, whose groups leave the records of the image's
pub record IsWhole (image file : List ℕ) : Type 0 where
  pub opens : (writable : Bool) → first_fault (1 ∷ 3 ∷ []) writable alone file ≡ None
  pub records : restored_records file ≡ restored_records image

abbrev pub RestoredOpen : Type 0
RestoredOpen = (image file : List ℕ) (count : ℕ) → IsAppending image → length file ≤ 2 ^ 40 → IsRestoredFrom image file count → IsWhole image file
