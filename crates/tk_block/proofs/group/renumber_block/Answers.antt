use Rattle.std.proofs.Common.{◌≡◌, ◌+◌, ◌-◌, length, take, drop, ◌∙◌, ap, arith}
use Rattle.std.specs.Int.{w32, to_be_bytes}
use Rattle.tk_block.specs.Number.{u16_in, u32_in, u64_in}
use Rattle.tk_block.specs.Text.{check_number}
use Rattle.tk_block.proofs.NewNumber.{fit, written, length-written, extent_told, key_told, value_told, rewritten}
use Rattle.tk_block.proofs.group.renumber_block.Goals as goal

pub u64_at-extent-requires : goal.u64_at-extent-requires
u64_at-extent-requires c = omega (arith, fit c.args.at c.args.place c.args.text.now c.requires, ap length c.as_slice.ensures)

pub u16_at-key-requires : goal.u16_at-key-requires
u16_at-key-requires c = omega (arith, fit c.args.at c.args.place c.args.text.now c.requires, ap length c.as_slice-2.ensures)

pub u32_at-value-requires : goal.u32_at-value-requires
u32_at-value-requires c = omega (arith, fit c.args.at c.args.place c.args.text.now c.requires, ap length c.as_slice-3.ensures)

pub write_at-requires : goal.write_at-requires
write_at-requires c = omega (arith, fit c.args.at c.args.place c.args.text.now c.requires, ap length c.to_be_bytes.ensures)

pub slice_bounds-check-end : goal.slice_bounds-check-end
slice_bounds-check-end c =
    let key = c.u16_at-key.ensures ∙ ap (λ l. u16_in l (c.args.at + 26)) c.as_slice-2.ensures in
    let value = c.u32_at-value.ensures ∙ ap (λ l. u32_in l (c.args.at + 28)) c.as_slice-3.ensures in
    let room = fit c.args.at c.args.place c.args.text.now c.requires in
    let same : length c.write_at.new.self ≡ length c.args.text.now = ap length c.write_at.ensures ∙ length-written (c.args.at + 32) c.args.text.now c.to_be_bytes.result (omega (arith, ap length c.to_be_bytes.ensures)) in
    omega (arith, ap length c.as_slice-4.ensures)

pub write_at-requires-2 : goal.write_at-requires-2
write_at-requires-2 c =
    let key = c.u16_at-key.ensures ∙ ap (λ l. u16_in l (c.args.at + 26)) c.as_slice-2.ensures in
    let value = c.u32_at-value.ensures ∙ ap (λ l. u32_in l (c.args.at + 28)) c.as_slice-3.ensures in
    let room = fit c.args.at c.args.place c.args.text.now c.requires in
    let same : length c.write_at.new.self ≡ length c.args.text.now = ap length c.write_at.ensures ∙ length-written (c.args.at + 32) c.args.text.now c.to_be_bytes.result (omega (arith, ap length c.to_be_bytes.ensures)) in
    omega (arith, ap length c.to_be_bytes-2.ensures)

pub returns-clause-block : goal.returns-clause-block
returns-clause-block c = λ front b link rest here small spelled.
    let extent = c.u64_at-extent.ensures ∙ ap (λ l. u64_in l (c.args.at + 4)) c.as_slice.ensures in
    let key = c.u16_at-key.ensures ∙ ap (λ l. u16_in l (c.args.at + 26)) c.as_slice-2.ensures in
    let value = c.u32_at-value.ensures ∙ ap (λ l. u32_in l (c.args.at + 28)) c.as_slice-3.ensures in
    let mid = c.write_at.ensures ∙ ap (λ l. written (c.args.at + 32) c.args.text.now l) c.to_be_bytes.ensures in
    let sum = c.to_be_bytes-2.ensures ∙ ap (λ n. to_be_bytes w32 n) (c.check-sum.ensures ∙ ap (λ l. check_number (take (c.args.at + 40 + c.u16_at-key.result + c.u32_at-value.result - (c.args.at + 24)) (drop (c.args.at + 24) l)) c.args.place) c.as_slice-4.ensures) in
    let new = c.write_at-2.ensures ∙ ap (λ l. written (c.args.at + 40 + c.u16_at-key.result + c.u32_at-value.result) c.write_at.new.self l) sum in (
      rewritten c.args.at c.u16_at-key.result c.u32_at-value.result c.args.number c.args.place link c.args.text.now front b rest c.write_at.new.self c.write_at-2.new.self here spelled
          (key ∙ key_told c.args.at c.args.text.now front b c.args.place link rest here small spelled)
          (value ∙ value_told c.args.at c.args.text.now front b c.args.place link rest here small spelled) mid new,
      extent ∙ extent_told c.args.at c.args.text.now front b c.args.place link rest here small spelled,
    )

pub returns-clause-length : goal.returns-clause-length
returns-clause-length c =
    let key = c.u16_at-key.ensures ∙ ap (λ l. u16_in l (c.args.at + 26)) c.as_slice-2.ensures in
    let value = c.u32_at-value.ensures ∙ ap (λ l. u32_in l (c.args.at + 28)) c.as_slice-3.ensures in
    let room = fit c.args.at c.args.place c.args.text.now c.requires in
    let same : length c.write_at.new.self ≡ length c.args.text.now = ap length c.write_at.ensures ∙ length-written (c.args.at + 32) c.args.text.now c.to_be_bytes.result (omega (arith, ap length c.to_be_bytes.ensures)) in
    ap length c.write_at-2.ensures ∙ length-written (c.args.at + 40 + c.u16_at-key.result + c.u32_at-value.result) c.write_at.new.self c.to_be_bytes-2.result (omega (arith, ap length c.to_be_bytes-2.ensures)) ∙ same
