-- The text of a body, part by part.
use Rattle.std.proofs.Common.{◌≡◌, ℕ, ◌+◌, ◌≤◌, List, ◌++◌, take, drop, length, Bool, true, false, refl, sym, ◌∙◌, ap, arith}
use Rattle.std.specs.Prelude.{◌&&◌}
use Rattle.std.specs.Int.{w32, to_be_bytes}
use Rattle.std.specs.Str.{bytes_eq}
use Rattle.std.proofs.lemmas.Slice.Eq.{bytes_eq-Decides}
use Rattle.std.proofs.lemmas.List.{take_at, drop_at, drop-take, length-append, length-take-le, length-drop}
use Rattle.std.proofs.Math.Seq.{take-add}
use Rattle.tk_block.specs.declared.block.Body.{Body}
use Rattle.tk_block.specs.Number.{u16_in, u32_in}
use Rattle.tk_block.specs.Text.{checked, check_number}
use Rattle.tk_block.specs.Blocks.{numbers_text, body_front, body_text, body_in, check_in}
use Rattle.tk_block.proofs.Cells.{within}

-- a front that is made of two parts
pub seam : (n k : ℕ) (bytes xs ys : List ℕ) → length xs ≡ n → take (n + k) bytes ≡ xs ++ ys → (take n bytes ≡ xs) × (take k (drop n bytes) ≡ ys)
seam n k bytes xs ys long is = (
  sym (within 0 n (n + k) bytes (omega arith)) ∙ ap (λ l. take n l) is ∙ take_at xs ys n long,
  sym (drop-take n k bytes) ∙ ap (λ l. drop n l) is ∙ drop_at xs ys n long,
)

pub joined_front : (n k : ℕ) (bytes xs ys : List ℕ) → take n bytes ≡ xs → take k (drop n bytes) ≡ ys → take (n + k) bytes ≡ xs ++ ys
joined_front n k bytes xs ys p q = take-add n k bytes ∙ rw (p, q) refl

pub length-numbers_text : (b : Body) → length (numbers_text b) ≡ 16
unfolding numbers_text
length-numbers_text b = refl

-- a body's text: its numbers, its key, its value and the check of these
pub body_parts : (k v : ℕ) (b : Body) (place : ℕ) (bytes : List ℕ) → length b.key ≡ k → length b.value ≡ v → take (16 + k + v + 4) bytes ≡ body_text b place
    → (take 16 bytes ≡ numbers_text b) × (take k (drop 16 bytes) ≡ b.key) × (take v (drop (16 + k) bytes) ≡ b.value) × (take 4 (drop (16 + k + v) bytes) ≡ to_be_bytes w32 (check_number (take (16 + k + v) bytes) place))
unfolding checked
body_parts k v b place bytes key value is =
    let keyed : length (numbers_text b ++ b.key) ≡ 16 + k = omega (arith, length-append (numbers_text b) b.key, length-numbers_text b) in
    let fronted : length (body_front b) ≡ 16 + k + v = omega (arith, length-append (numbers_text b ++ b.key) b.value) in
    let checks = seam (16 + k + v) 4 bytes (body_front b) (to_be_bytes w32 (check_number (body_front b) place)) fronted is in
    let values = seam (16 + k) v bytes (numbers_text b ++ b.key) b.value keyed checks.0 in
    let keys = seam 16 k bytes (numbers_text b) b.key (length-numbers_text b) values.0 in
    (keys.0, keys.1, values.1, checks.1 ∙ ap (λ l. to_be_bytes w32 (check_number l place)) (sym checks.0))

-- and the other way
pub body_joined : (k v : ℕ) (b : Body) (place : ℕ) (bytes : List ℕ) → take 16 bytes ≡ numbers_text b → take k (drop 16 bytes) ≡ b.key → take v (drop (16 + k) bytes) ≡ b.value → take 4 (drop (16 + k + v) bytes) ≡ to_be_bytes w32 (check_number (take (16 + k + v) bytes) place)
    → take (16 + k + v + 4) bytes ≡ body_text b place
unfolding checked
body_joined k v b place bytes numbers key value sum =
    let front : take (16 + k + v) bytes ≡ body_front b = joined_front (16 + k) v bytes _ _ (joined_front 16 k bytes _ _ numbers key) value in
    joined_front (16 + k + v) 4 bytes _ _ front (sum ∙ ap (λ l. to_be_bytes w32 (check_number l place)) front)

same_tests : (a b : Bool) → (a ≡ true → b ≡ true) → (b ≡ true → a ≡ true) → a ≡ b
same_tests true b p q = sym (p refl)
same_tests false true p q = q refl
same_tests false false p q = refl

pub two_true : (a b : Bool) → (a && b) ≡ true → (a ≡ true) × (b ≡ true)
two_true true true h = (refl, refl)
two_true true false h = absurd (cc)
two_true false b h = absurd (cc)

pub key_long : (bytes : List ℕ) → check_in bytes + 4 ≤ length bytes → length (body_in bytes).key ≡ u16_in bytes 2
key_long bytes fits = length-take-le _ _ (omega (arith, length-drop 16 bytes))

pub value_long : (bytes : List ℕ) → check_in bytes + 4 ≤ length bytes → length (body_in bytes).value ≡ u32_in bytes 4
value_long bytes fits = length-take-le _ _ (omega (arith, length-drop (16 + u16_in bytes 2) bytes))

-- numbers and check tell whether the front is the text of the body whose fields stand there
pub spelled_tests : (bytes : List ℕ) (place : ℕ) → check_in bytes + 4 ≤ length bytes
    → (bytes_eq (take 16 bytes) (numbers_text (body_in bytes)) && bytes_eq (take 4 (drop (check_in bytes) bytes)) (to_be_bytes w32 (check_number (take (check_in bytes) bytes) place))) ≡ bytes_eq (take (check_in bytes + 4) bytes) (body_text (body_in bytes) place)
spelled_tests bytes place fits = same_tests _ _
    (λ h. (bytes_eq-Decides _ _).1 (body_joined (u16_in bytes 2) (u32_in bytes 4) (body_in bytes) place bytes ((bytes_eq-Decides _ _).0 (two_true _ _ h).0) refl refl ((bytes_eq-Decides _ _).0 (two_true _ _ h).1)))
    (λ h. let parts = body_parts (u16_in bytes 2) (u32_in bytes 4) (body_in bytes) place bytes (key_long bytes fits) (value_long bytes fits) ((bytes_eq-Decides _ _).0 h) in
    rw ((bytes_eq-Decides _ _).1 parts.0, (bytes_eq-Decides _ _).1 parts.3) refl)
