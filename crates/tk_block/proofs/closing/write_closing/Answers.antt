use Rattle.std.proofs.Common.{refl, ◌≡◌, ◌∙◌, ap, List, ℕ, [], ◌∷◌, ◌++◌}
use Rattle.std.specs.Int.{w32, to_be_bytes}
use Rattle.tk_model.specs.Hashes.{fnv32_of}
use Rattle.tk_block.specs.Text.{closing_text, closing_front}
use Rattle.tk_block.proofs.Cells.{end_written}
use Rattle.tk_block.proofs.closing.write_closing.Goals as goal

pub returns : goal.returns
unfolding closing_text
returns c =
    let front : c.copy_from_slice.new.self ≡ closing_front c.args.closing.now = c.copy_from_slice.ensures.after ∙ c.closing_front-front.ensures in
    let check : c.copy_from_slice-2.new.self ≡ to_be_bytes w32 (fnv32_of (closing_front c.args.closing.now)) =
    c.copy_from_slice-2.ensures.after ∙ c.to_be_bytes-check.ensures ∙ ap (λ (n : ℕ). to_be_bytes w32 n) (c.fnv32.ensures ∙ ap (λ (l : List ℕ). fnv32_of l) c.closing_front-front.ensures) in
    end_written 28 4 c.copy_from_slice.new.self (0 ∷ 0 ∷ 0 ∷ 0 ∷ []) c.copy_from_slice-2.new.self c.copy_from_slice.ensures.len refl
    ∙ ap (λ (l : List ℕ). l ++ c.copy_from_slice-2.new.self) front ∙ ap (λ (l : List ℕ). closing_front c.args.closing.now ++ l) check
