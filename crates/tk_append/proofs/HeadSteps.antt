-- The heads of a file, piece by piece.
use Rattle.std.proofs.Common.{◌≡◌, ℕ, ◌+◌, ◌-◌, ◌*◌, ◌<◌, ◌≤◌, ◌^◌, List, ◌++◌, length, get_or, drop, refl, sym, ◌∙◌, ap, subst, arith}
use Rattle.std.specs.Prelude.{Option, Some, None}
use Rattle.std.specs.Io.{StartsWith}
use Rattle.std.proofs.lemmas.List.{drop-drop, length-append}
use Rattle.tk_block.specs.Number.{u64_in}
use Rattle.tk_block.specs.Layout.{Placed}
use Rattle.tk_append.specs.Chains.{HeadsAre}
use Rattle.tk_append.specs.Opening.{head_fault}
use Rattle.tk_append.specs.Walked.{Shows}
use Rattle.tk_append.specs.Checked.{HeadFails}
use Rattle.tk_append.proofs.Checked.{head_next, head_other}
use Rattle.tk_append.proofs.Fronts.{word_behind}
use Rattle.tk_append.proofs.Scans.{small_both}
use Rattle.tk_append.proofs.Windows.{starts_first, starts_rest, shows_both}

-- the heads as far as this stand in the file
pub record HeadsSo (image : Option (List ℕ)) (heads : List ℕ) (first : ℕ) : Type 0 where
  pub bytes : List ℕ
  pub len : length bytes ≡ 8 * first
  pub within : first ≤ length heads
  pub shown : Shows image 64 bytes
  pub small : (i : ℕ) → get_or bytes i 0 < 256
  pub same : (p : ℕ) (blocks : List Placed) (f : List ℕ) → HeadsAre p heads blocks → StartsWith (drop 64 f) bytes → head_fault p blocks f (2 ^ p - first) first ≡ head_fault p blocks f (2 ^ p) 0

-- what a piece says
abbrev pub PieceGoes : (heads bytes : List ℕ) (first next : ℕ) → Type 0
PieceGoes heads bytes first next =
    (p : ℕ) (blocks : List Placed) (f : List ℕ) → HeadsAre p heads blocks → StartsWith (drop (64 + 8 * first) f) bytes → head_fault p blocks f (2 ^ p - first) first ≡ head_fault p blocks f (2 ^ p - next) next

abbrev pub PieceFails : (heads bytes : List ℕ) (first place : ℕ) → Type 0
PieceFails heads bytes first place =
    (p : ℕ) (blocks : List Placed) (f : List ℕ) → HeadsAre p heads blocks → StartsWith (drop (64 + 8 * first) f) bytes → head_fault p blocks f (2 ^ p - first) first ≡ Some place

pub piece_none : (heads bytes : List ℕ) (first : ℕ) → PieceGoes heads bytes first (first + 0)
piece_none heads bytes first p blocks f are starts = ap (λ (n : ℕ). head_fault p blocks f (2 ^ p - n) n) (omega arith)

word_in : (f bytes : List ℕ) (first i bucket : ℕ) → bucket ≡ first + i → 8 * i + 8 ≤ length bytes → StartsWith (drop (64 + 8 * first) f) bytes → u64_in f (64 + 8 * bucket) ≡ u64_in bytes (8 * i)
word_in f bytes first i bucket is fits starts = ap (λ (n : ℕ). u64_in f n) (omega (arith, is)) ∙ word_behind f bytes (64 + 8 * first) (8 * i) fits starts

pub piece_next : (heads bytes : List ℕ) (first i count : ℕ) → PieceGoes heads bytes first (first + i) → length bytes ≡ 8 * count → i < count → first + count ≤ length heads → u64_in bytes (8 * i) ≡ get_or heads (first + i) 0
    → PieceGoes heads bytes first (first + (i + 1))
piece_next heads bytes first i count so len below fits is p blocks f are starts =
    so p blocks f are starts
    ∙ head_next p (2 ^ p - (first + i)) (2 ^ p - (first + (i + 1))) (first + i) heads blocks f are (omega arith) (omega (arith, are.whole)) (word_in f bytes first i (first + i) refl (omega arith) starts ∙ is)
    ∙ ap (λ (n : ℕ). head_fault p blocks f (2 ^ p - (first + (i + 1))) n) (omega arith)

pub piece_other : (heads bytes : List ℕ) (first i count place : ℕ) → PieceGoes heads bytes first (first + i) → length bytes ≡ 8 * count → i < count → first + count ≤ length heads → (u64_in bytes (8 * i) ≡ get_or heads (first + i) 0 → ⊥)
    → place ≡ 64 + 8 * (first + i) → PieceFails heads bytes first place
piece_other heads bytes first i count place so len below fits other is p blocks f are starts =
    so p blocks f are starts
    ∙ head_other p (2 ^ p - (first + i)) (2 ^ p - (first + (i + 1))) (first + i) heads blocks f are (omega arith) (omega (arith, are.whole)) (λ e. other (sym (word_in f bytes first i (first + i) refl (omega arith) starts) ∙ e))
    ∙ ap (λ (n : ℕ). Some n) (sym is)

-- ---- all pieces

behind_first : (f bytes new : List ℕ) (first : ℕ) → length bytes ≡ 8 * first → StartsWith (drop 64 f) (bytes ++ new) → StartsWith (drop (64 + 8 * first) f) new
behind_first f bytes new first len starts =
    subst (λ (l : List ℕ). StartsWith l new) (drop-drop (length bytes) 64 f ∙ ap (λ (n : ℕ). drop (64 + n) f) len) (starts_rest (drop 64 f) bytes new starts)

pub heads_more : (image : Option (List ℕ)) (heads new : List ℕ) (first count : ℕ) → HeadsSo image heads first → length new ≡ 8 * count → first + count ≤ length heads → Shows image (64 + 8 * first) new → ((i : ℕ) → get_or new i 0 < 256)
    → PieceGoes heads new first (first + count) → HeadsSo image heads (first + count)
heads_more image heads new first count s len within shown small goes = record {
  bytes = s.bytes ++ new;
  len = omega (arith, s.len, len, length-append s.bytes new);
  within = within;
  shown = shows_both image 64 (64 + 8 * first) s.bytes new (omega (arith, s.len)) s.shown shown;
  small = small_both s.bytes new s.small small;
  same = λ p blocks f are starts. sym (goes p blocks f are (behind_first f s.bytes new first s.len starts)) ∙ s.same p blocks f are (starts_first (drop 64 f) s.bytes new starts);
}

pub heads_fail_at : (image : Option (List ℕ)) (heads new : List ℕ) (first place : ℕ) → HeadsSo image heads first → Shows image (64 + 8 * first) new → PieceFails heads new first place → HeadFails image heads place
heads_fail_at None heads new first place s shown fails = tt
heads_fail_at (Some f) heads new first place s shown fails = λ p blocks are. sym (s.same p blocks f are s.shown) ∙ fails p blocks f are shown
