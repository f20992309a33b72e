-- The static header at the front of a file.
use Rattle.std.proofs.Common.{◌≡◌, ℕ, min, true, List, length, take, drop, sym, ◌∙◌, ap, arith, inl, inr}
use Rattle.std.specs.Prelude.{Option, Some, None, IfSome}
use Rattle.std.proofs.lemmas.Bool.{cases_lt}
use Rattle.std.proofs.lemmas.List.{take_all, take-append-drop, length-take}
use Rattle.tk_disk.specs.Disk.{ReadsFrom}
use Rattle.tk_block.specs.Text.{static_at, static_text, is_static}
use Rattle.tk_block.specs.Grammar.{FitsStatic}
use Rattle.tk_block.specs.declared.head.StaticHead.{StaticHead}
use Rattle.tk_block.proofs.Grammar.{statics, length-static_text}
use Rattle.tk_append.proofs.BlockFronts.{front_enough}

static_front : (n : ℕ) (f : List ℕ) → n ≡ min 32 (length f) → static_at (take n f) ≡ static_at f
static_front n f is = elim (cases_lt (length f) 32) [
  | inl short ↦ ap static_at (take_all n f (omega (arith, is, short)))
  | inr long ↦
      sym (front_enough FitsStatic static_text static_at statics (take n f) (drop n f) (λ x. omega (arith, is, long, length-static_text x, length-take n f)))
      ∙ ap static_at (take-append-drop n f)
]

-- the header that the first bytes of a file spell is the file's
pub header_read : (image : Option (List ℕ)) (n : ℕ) (into front : List ℕ) (found : Option StaticHead) → length into ≡ 32 → front ≡ take n into → found ≡ static_at front → IfSome image (λ f. ReadsFrom f 0 into n) → IfSome image (λ f. found ≡ static_at f)
header_read None n into front found size is body_said reads = tt
header_read (Some f) n into front found size is body_said reads =
    body_said ∙ ap static_at (is ∙ reads.bytes) ∙ static_front n f (omega (arith, reads.count, size))

pub header_valid : (found : Option StaticHead) (front : List ℕ) → found ≡ static_at front → IfSome found (λ h. is_static h ≡ true)
header_valid None front body_said = tt
header_valid (Some h) front body_said = (statics.found front h (sym body_said)).0.0
