-- The text of a body is read exactly.
use Rattle.std.proofs.Common.{◌≡◌, ℕ, ◌+◌, ◌<◌, ◌≤◌, ◌^◌, List, ◌++◌, take, drop, length, Some, Bool, true, false, refl, sym, ◌∙◌, ap, subst, arith}
use Rattle.std.specs.Prelude.{◌==◌, nat_le, slice_index}
use Rattle.std.specs.Int.{w16, w32, w64, to_be_bytes, from_be_bytes}
use Rattle.std.specs.Str.{bytes_eq}
use Rattle.std.proofs.lemmas.Bool.{leb-true}
use Rattle.std.proofs.lemmas.Bool.Decides.{nat_tests}
use Rattle.std.proofs.lemmas.Slice.Eq.{bytes_eq-Decides}
use Rattle.std.proofs.lemmas.Option.{cond_some}
use Rattle.std.proofs.lemmas.Nat.{from_be_bytes-to_be_bytes_2, from_be_bytes-to_be_bytes_4, from_be_bytes-to_be_bytes_8}
use Rattle.std.proofs.lemmas.List.{length-append}
use Rattle.tk_block.specs.declared.block.Body.{Body}
use Rattle.tk_block.specs.Number.{u16_in, u32_in, u64_in}
use Rattle.tk_block.specs.Text.{checked, check_number}
use Rattle.tk_block.specs.Blocks.{flag, numbers_text, body_front, body_text, body_in, check_in, is_body, body_at}
use Rattle.tk_block.specs.Grammar.{Reads, FitsBody}
use Rattle.tk_block.proofs.Cells.{within}
use Rattle.tk_block.proofs.Heads.{short, three_true}
use Rattle.tk_block.proofs.Bodies.{body_parts, key_long, value_long, length-numbers_text}
use Rattle.tk_block.proofs.Grammar.{from_fronts, number_in, byte_in, worth_fits}

pub length-body_text : (b : Body) (place : ℕ) → length (body_text b place) ≡ 16 + length b.key + length b.value + 4
unfolding checked
length-body_text b place = omega (arith, length-append (body_front b) (to_be_bytes w32 (check_number (body_front b) place)), length-append (numbers_text b) b.key, length-append (numbers_text b ++ b.key) b.value, length-numbers_text b)

number_parts : (b : Body) → (slice_index (numbers_text b) 0 ≡ b.kind) × (slice_index (numbers_text b) 1 ≡ flag b.last) × (take 2 (drop 2 (numbers_text b)) ≡ to_be_bytes w16 (length b.key)) × (take 4 (drop 4 (numbers_text b)) ≡ to_be_bytes w32 (length b.value)) × (take 8 (drop 8 (numbers_text b)) ≡ to_be_bytes w64 b.number)
unfolding numbers_text
number_parts b = (refl, refl, refl, refl, refl)

key_told : (bytes : List ℕ) (b : Body) → take 16 bytes ≡ numbers_text b → u16_in bytes 2 ≡ from_be_bytes w16 (to_be_bytes w16 (length b.key))
unfolding u16_in
key_told bytes b is = ap (λ l. from_be_bytes w16 l) (sym (within 2 2 16 bytes (omega arith)) ∙ ap (λ l. take 2 (drop 2 l)) is ∙ (number_parts b).2)

value_told : (bytes : List ℕ) (b : Body) → take 16 bytes ≡ numbers_text b → u32_in bytes 4 ≡ from_be_bytes w32 (to_be_bytes w32 (length b.value))
unfolding u32_in
value_told bytes b is = ap (λ l. from_be_bytes w32 l) (sym (within 4 4 16 bytes (omega arith)) ∙ ap (λ l. take 4 (drop 4 l)) is ∙ (number_parts b).3)

number_told : (bytes : List ℕ) (b : Body) → take 16 bytes ≡ numbers_text b → u64_in bytes 8 ≡ from_be_bytes w64 (to_be_bytes w64 b.number)
number_told bytes b is = number_in 8 16 bytes _ b.number (omega arith) is (number_parts b).4

flag_told : (last : Bool) → (flag last == 1) ≡ last
flag_told true = refl
flag_told false = refl

short_worth : (n : ℕ) → from_be_bytes w16 (to_be_bytes w16 n) < 2 ^ 16
short_worth n = omega arith

body_found : (place : ℕ) (bytes : List ℕ) (b : Body) → body_at bytes place ≡ Some b → FitsBody b × (take (16 + length b.key + length b.value + 4) bytes ≡ body_text b place)
unfolding body_at
body_found place bytes b found =
    let parts = cond_some _ _ _ found in
    let tests = three_true _ _ _ parts.0 in
    let long : check_in bytes + 4 ≤ length bytes = leb-true _ _ tests.0 in
    let key = key_long bytes long in
    let value = value_long bytes long in
    let spelled : take (check_in bytes + 4) bytes ≡ body_text (body_in bytes) place = (bytes_eq-Decides _ _).0 tests.2 in
    let numbers = (body_parts _ _ (body_in bytes) place bytes key value spelled).0 in
    let small : length (body_in bytes).key < 2 ^ 16 = omega (arith, key, key_told bytes _ numbers, short_worth (length (body_in bytes).key)) in
    let fits : (body_in bytes).number < 2 ^ 64 = rw (← number_told bytes _ numbers) at (worth_fits (u64_in bytes 8)) in
    let whole : take (16 + length (body_in bytes).key + length (body_in bytes).value + 4) bytes ≡ body_text (body_in bytes) place = ap (λ n. take n bytes) (omega (arith, key, value)) ∙ spelled in
    subst (λ (x : Body). FitsBody x × (take (16 + length x.key + length x.value + 4) bytes ≡ body_text x place)) parts.1 ((tests.1, small, fits), whole)

body_again : (place : ℕ) (bytes : List ℕ) (b : Body) → FitsBody b → take (16 + length b.key + length b.value + 4) bytes ≡ body_text b place → body_at bytes place ≡ Some b
unfolding body_at
body_again place bytes b fits spelled =
    let parts = body_parts _ _ b place bytes refl refl spelled in
    let small : length b.value ≤ 33554431 = grind (arith, nat_tests, fits.0) in
    let kind : slice_index bytes 0 ≡ b.kind = byte_in 0 16 bytes _ (omega arith) parts.0 ∙ (number_parts b).0 in
    let last : (slice_index bytes 1 == 1) ≡ b.last = ap (λ n. n == 1) (byte_in 1 16 bytes _ (omega arith) parts.0 ∙ (number_parts b).1) ∙ flag_told b.last in
    let key : u16_in bytes 2 ≡ length b.key = key_told bytes b parts.0 ∙ from_be_bytes-to_be_bytes_2 _ fits.1 in
    let value : u32_in bytes 4 ≡ length b.value = value_told bytes b parts.0 ∙ from_be_bytes-to_be_bytes_4 _ (omega arith) in
    let number : u64_in bytes 8 ≡ b.number = number_told bytes b parts.0 ∙ from_be_bytes-to_be_bytes_8 _ fits.2 in
    let same : body_in bytes ≡ b = rw (kind, last, key, value, number, parts.1, parts.2) refl in
    let end : check_in bytes + 4 ≡ 16 + length b.key + length b.value + 4 = omega (arith, key, value) in
    let long : nat_le (check_in bytes + 4) (length bytes) ≡ true = short _ bytes (ap (λ n. length (take n bytes)) end ∙ ap length spelled ∙ length-body_text b place ∙ sym end) in
    let valid : is_body (body_in bytes) ≡ true = ap is_body same ∙ fits.0 in
    let eq : bytes_eq (take (check_in bytes + 4) bytes) (body_text (body_in bytes) place) ≡ true = (bytes_eq-Decides _ _).1 (ap (λ n. take n bytes) end ∙ spelled ∙ ap (λ x. body_text x place) (sym same)) in
    rw (long, valid, eq) (ap Some same)

pub bodies : (place : ℕ) → Reads FitsBody (λ b. body_text b place) (λ bytes. body_at bytes place)
bodies place = from_fronts _ _ _ (λ b. 16 + length b.key + length b.value + 4) (λ b. length-body_text b place) (body_found place) (body_again place)
