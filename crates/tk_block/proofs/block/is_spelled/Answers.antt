use Rattle.std.proofs.Common.{◌≡◌, ◌+◌, ◌-◌, true, false, take, drop, refl, sym, ◌∙◌, ap, arith}
use Rattle.std.specs.Prelude.{◌&&◌}
use Rattle.std.specs.Int.{w32, to_be_bytes}
use Rattle.std.specs.Str.{bytes_eq}
use Rattle.tk_block.specs.Text.{check_number}
use Rattle.tk_block.specs.Blocks.{numbers_text, body_in, check_in}
use Rattle.tk_block.proofs.Bodies.{spelled_tests}
use Rattle.tk_block.proofs.block.is_spelled.Goals as goal

pub returns-then-eq : goal.returns-then-eq
returns-then-eq c =
    let tests = spelled_tests c.args.bytes.now c.args.place (omega arith) in
    let numbers : c.as_slice.result.now ≡ numbers_text (body_in c.args.bytes.now) = c.as_slice.ensures ∙ c.numbers_of-numbers.ensures ∙ ap numbers_text c.requires.fields in
    let first : true ≡ bytes_eq (take 16 c.args.bytes.now) (numbers_text (body_in c.args.bytes.now)) = sym c.if-eq.true ∙ c.eq.ensures ∙ ap (λ l. bytes_eq (take 16 c.args.bytes.now) l) numbers in
    let four : c.args.check_at + 4 - c.args.check_at ≡ 4 = omega arith in
    let sum : c.as_slice-then-eq.result.now ≡ to_be_bytes w32 (check_number (take (check_in c.args.bytes.now) c.args.bytes.now) c.args.place) = c.as_slice-then-eq.ensures ∙ c.to_be_bytes-sum.ensures ∙ ap (λ n. to_be_bytes w32 n) (c.check.ensures ∙ ap (λ n. check_number (take n c.args.bytes.now) c.args.place) c.requires.place) in
    let second : c.eq-then-eq.result ≡ bytes_eq (take 4 (drop (check_in c.args.bytes.now) c.args.bytes.now)) (to_be_bytes w32 (check_number (take (check_in c.args.bytes.now) c.args.bytes.now) c.args.place)) =
    c.eq-then-eq.ensures ∙ rw (four, sum, c.requires.place) refl in
    second ∙ ap (λ b. b && bytes_eq (take 4 (drop (check_in c.args.bytes.now) c.args.bytes.now)) (to_be_bytes w32 (check_number (take (check_in c.args.bytes.now) c.args.bytes.now) c.args.place))) first ∙ tests

pub returns-else-eq : goal.returns-else-eq
returns-else-eq c =
    let tests = spelled_tests c.args.bytes.now c.args.place (omega arith) in
    let numbers : c.as_slice.result.now ≡ numbers_text (body_in c.args.bytes.now) = c.as_slice.ensures ∙ c.numbers_of-numbers.ensures ∙ ap numbers_text c.requires.fields in
    let first : false ≡ bytes_eq (take 16 c.args.bytes.now) (numbers_text (body_in c.args.bytes.now)) = sym c.if-eq.false ∙ c.eq.ensures ∙ ap (λ l. bytes_eq (take 16 c.args.bytes.now) l) numbers in
    c.if-eq.false ∙ ap (λ b. b && bytes_eq (take 4 (drop (check_in c.args.bytes.now) c.args.bytes.now)) (to_be_bytes w32 (check_number (take (check_in c.args.bytes.now) c.args.bytes.now) c.args.place))) first ∙ tests
