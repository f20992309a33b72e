use Rattle.std.proofs.Common.{refl, ◌≡◌, ◌∙◌, ap, List, ℕ, [], ◌∷◌, ◌++◌}
use Rattle.std.specs.Int.{w32, to_be_bytes}
use Rattle.tk_model.specs.Hashes.{fnv32_of}
use Rattle.tk_block.proofs.Cells.{end_written}
use Rattle.tk_skipfile.specs.SkipText.{header_text, header_front}
use Rattle.tk_skipfile.proofs.header.write_header.Goals as goal

pub returns : goal.returns
unfolding header_text
returns c =
    let text = header_front c.args.count c.args.generation in
    let front : c.copy_from_slice.new.self ≡ text = c.copy_from_slice.ensures.after ∙ c.header_front-front.ensures in
    let check : c.copy_from_slice-2.new.self ≡ to_be_bytes w32 (fnv32_of text) =
    c.copy_from_slice-2.ensures.after ∙ c.to_be_bytes-check.ensures ∙ ap (λ (n : ℕ). to_be_bytes w32 n) (c.fnv32.ensures ∙ ap (λ (l : List ℕ). fnv32_of l) c.header_front-front.ensures) in
    end_written 28 4 c.copy_from_slice.new.self (0 ∷ 0 ∷ 0 ∷ 0 ∷ []) c.copy_from_slice-2.new.self c.copy_from_slice.ensures.len refl
    ∙ ap (λ (l : List ℕ). l ++ c.copy_from_slice-2.new.self) front ∙ ap (λ (l : List ℕ). text ++ l) check
