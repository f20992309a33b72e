-- Levels and heights, one level more.
use Rattle.std.proofs.Common.{◌≡◌, ◌≢◌, ℕ, zero, suc, ◌+◌, ◌%◌, ◌^◌, ◌<◌, ◌≤◌, Bool, true, false, refl, ap, ◌∙◌, arith}
use Rattle.std.specs.Prelude.{if◌then◌else◌, nat_le, ◌==◌}
use Rattle.std.proofs.lemmas.Bool.{eq-eqb, ne_eqb}
use Rattle.std.proofs.lemmas.Bool.Decides.{nat_tests}
use Rattle.tk_skipfile.specs.SkipText.{levels_from, height_from}

so_le : (m n : ℕ) → m ≤ n → nat_le m n ≡ true
so_le m n h = grind (arith, nat_tests)

so_gt : (m n : ℕ) → n < m → nat_le m n ≡ false
so_gt m n h = grind (arith, nat_tests)

pub levels_found : (n k count : ℕ) → 0 < n → count ≤ 4 ^ k → levels_from n k count ≡ k
levels_found zero k count some enough = absurd (omega arith)
levels_found (suc n) k count some enough = ap (λ (b : Bool). if b then k else levels_from n (k + 1) count) (so_le count (4 ^ k) enough)

pub levels_more : (n m k count : ℕ) → n ≡ m + 1 → 4 ^ k < count → levels_from n k count ≡ levels_from m (k + 1) count
levels_more zero m k count is few = absurd (omega arith)
levels_more (suc n) m k count is few =
    ap (λ (b : Bool). if b then k else levels_from n (k + 1) count) (so_gt count (4 ^ k) few)
    ∙ (let same : n ≡ m = omega arith in ap (λ (j : ℕ). levels_from j (k + 1) count) same)

pub height_more : (n m level i : ℕ) → n ≡ m + 1 → i % 4 ^ level ≡ 0 → height_from n level i ≡ height_from m (level + 1) i + 1
height_more zero m level i is divides = absurd (omega arith)
height_more (suc n) m level i is divides =
    let same : n ≡ m = omega arith in
    let one : suc (height_from m (level + 1) i) ≡ height_from m (level + 1) i + 1 = omega arith in
    ap (λ (b : Bool). if b then suc (height_from n (level + 1) i) else 0) (eq-eqb _ _ divides)
    ∙ ap (λ (j : ℕ). suc (height_from j (level + 1) i)) same ∙ one

pub height_none : (n level i : ℕ) → i % 4 ^ level ≢ 0 → height_from n level i ≡ 0
height_none zero level i none = refl
height_none (suc n) level i none = ap (λ (b : Bool). if b then suc (height_from n (level + 1) i) else 0) (ne_eqb _ _ none)

within : (b : Bool) (h n : ℕ) → h ≤ n → (if b then suc h else 0) ≤ suc n
within true h n small = omega arith
within false h n small = omega arith

pub height_within : (n level i : ℕ) → height_from n level i ≤ n
height_within zero level i = omega arith
height_within (suc n) level i = within (i % 4 ^ level == 0) (height_from n (level + 1) i) n (height_within n (level + 1) i)

pub levels_end : (n k count : ℕ) → n ≡ 0 → levels_from n k count ≡ k
levels_end zero k count is = refl
levels_end (suc n) k count is = absurd (omega arith)

pub height_end : (n level i : ℕ) → n ≡ 0 → height_from n level i ≡ 0
height_end zero level i is = refl
height_end (suc n) level i is = absurd (omega arith)
