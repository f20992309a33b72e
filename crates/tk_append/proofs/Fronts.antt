-- What the front of a file says of the whole file.
use Rattle.std.proofs.Common.{◌≡◌, ℕ, ◌+◌, ◌≤◌, List, length, take, drop, sym, ◌∙◌, ap, arith}
use Rattle.std.specs.Io.{StartsWith}
use Rattle.std.specs.Int.{w64, from_be_bytes}
use Rattle.std.proofs.lemmas.List.{drop-append-le, drop-drop, length-take, length-drop}
use Rattle.tk_block.specs.Number.{u64_in}
use Rattle.tk_block.specs.Text.{static_at, static_text, closing_at, closing_text}
use Rattle.tk_block.specs.Grammar.{FitsStatic, FitsClosing}
use Rattle.tk_block.proofs.Grammar.{statics, closings, length-static_text, length-closing_text}
use Rattle.tk_append.proofs.Windows.{cut, u64_same}
use Rattle.tk_append.proofs.BlockFronts.{front_enough}

pub front_long : (f front : List ℕ) → length front ≡ 64 → StartsWith f front → 64 ≤ length f
front_long f front len a = omega (arith, len, ap length a, length-take (length front) f)

pub static_front : (f front : List ℕ) → length front ≡ 64 → StartsWith f front → static_at f ≡ static_at front
static_front f front len a =
    ap static_at (cut f front a) ∙ front_enough FitsStatic static_text static_at statics front (drop (length front) f) (λ h. omega (arith, length-static_text h, len))

pub closing_front : (f front : List ℕ) → length front ≡ 64 → StartsWith f front → closing_at (drop 32 f) ≡ closing_at (drop 32 front)
closing_front f front len a =
    ap (λ (l : List ℕ). closing_at (drop 32 l)) (cut f front a)
    ∙ ap closing_at (drop-append-le 32 front (drop (length front) f) (omega (arith, len)))
    ∙ front_enough FitsClosing closing_text closing_at closings (drop 32 front) (drop (length front) f) (λ c. omega (arith, length-closing_text c, len, length-drop 32 front))

behind : (f : List ℕ) (start at : ℕ) → u64_in f (start + at) ≡ u64_in (drop start f) at
unfolding u64_in
behind f start at = ap (λ (l : List ℕ). from_be_bytes w64 (take 8 l)) (sym (drop-drop at start f))

-- a number of the file, by the bytes from a place on
pub word_behind : (f bytes : List ℕ) (start at : ℕ) → at + 8 ≤ length bytes → StartsWith (drop start f) bytes → u64_in f (start + at) ≡ u64_in bytes at
word_behind f bytes start at fits a = behind f start at ∙ u64_same bytes (drop start f) at fits a
