use Rattle.std.proofs.Common.{◌<◌, ◌-◌, ◌^◌, min, ◌≡◌, ◌+◌, ◌*◌, arith, refl, sym, ap, ◌∙◌, drop, get_or}
use Rattle.std.specs.Char.{digit_value}
use Rattle.tk_model.specs.Orders.{number_from, held, magnitude}
use Rattle.tk_model.proofs.Orders.{held_small, digit_read, held_fits, at_other, at_end, held_digit}
use Rattle.tk_model.proofs.order.magnitude_of.Goals as goal

pub loop-byte-init : goal.loop-byte-init
unfolding magnitude
loop-byte-init c = record { same = refl; small = omega arith }

pub returns-in_default-clause-value : goal.returns-in_default-clause-value
returns-in_default-clause-value c =
    let not_digit = rw c.in_default.is at c.to_digit.ensures.value in
    let ends : number_from c.args.base c.loop-byte.number (drop c.loop-byte.byte-index c.args.text.now) ≡ c.loop-byte.number =
    at_other c.args.base c.loop-byte.number c.args.text.now c.loop-byte.byte-index c.loop-byte-test.true (rw (← c.from.ensures) not_digit) in
    sym (held_small c.loop-byte.number c.loop-byte.invariant.small) ∙ ap held (sym ends) ∙ c.loop-byte.invariant.same

pub loop-byte-preserved : goal.loop-byte-preserved
loop-byte-preserved c =
    let digit = rw c.in-Some.is at c.to_digit.ensures.value in
    let is : digit_value (get_or c.args.text.now c.loop-byte.byte-index 0) < c.args.base = rw (← c.from.ensures) digit.0 in
    let value : c.in-Some.digit ≡ digit_value (get_or c.args.text.now c.loop-byte.byte-index 0) = digit.1 ∙ ap digit_value c.from.ensures in
    let read : c.min-number.result ≡ held (c.loop-byte.number * c.args.base + digit_value (get_or c.args.text.now c.loop-byte.byte-index 0)) =
    held_digit c.loop-byte.number c.args.base (digit_value (get_or c.args.text.now c.loop-byte.byte-index 0))
    c.saturating_mul.result c.saturating_add.result c.min-number.result
    (c.saturating_mul.ensures ∙ ap (λ b. min (c.loop-byte.number * b) (2 ^ 128 - 1)) c.from-in-loop-byte.ensures)
    (c.saturating_add.ensures ∙ ap (λ d. min (c.saturating_mul.result + d) (2 ^ 128 - 1)) (c.from-in-loop-byte-2.ensures ∙ value))
    c.min-number.ensures in
    record {
      same = digit_read c.args.base c.loop-byte.number c.min-number.result c.args.text.now c.loop-byte.byte-index (omega arith) c.loop-byte-test.true is read
          ∙ c.loop-byte.invariant.same;
      small = held_fits _ _ read;
    }

pub returns-clause-value : goal.returns-clause-value
returns-clause-value c =
    let ends : number_from c.args.base c.loop-byte.number (drop c.loop-byte.byte-index c.args.text.now) ≡ c.loop-byte.number =
    at_end c.args.base c.loop-byte.number c.args.text.now c.loop-byte.byte-index c.loop-byte-test.false in
    sym (held_small c.loop-byte.number c.loop-byte.invariant.small) ∙ ap held (sym ends) ∙ c.loop-byte.invariant.same
