-- What is laid is read, and what is appended is laid.
use Rattle.std.proofs.Common.{◌≡◌, ℕ, ◌+◌, ◌-◌, List, [], ◌∷◌, ◌++◌, drop, length, replicate, refl, sym, ◌∙◌, ap, subst, arith}
use Rattle.std.proofs.lemmas.List.{length-replicate}
use Rattle.tk_block.specs.declared.block.Body.{Body}
use Rattle.tk_block.specs.Text.{head_at}
use Rattle.tk_block.specs.Blocks.{block_text, body_at, extent_of, room_of}
use Rattle.tk_block.specs.Layout.{placed, laid, texts, first_or_none}
use Rattle.tk_block.specs.Laid.{IsBlockText, AreLaid, AppendedAreLaid, BlocksAreRead}
use Rattle.tk_block.proofs.BlockReads.{any_head, any_body, block_front, block_rest}
use Rattle.tk_block.proofs.Lengths.{length-block_with, room_fits}

is_block_text : (b : Body) (place link : ℕ) → IsBlockText (placed place b) (block_text b place link)
unfolding block_text
is_block_text b place link = record {
  link = link;
  padding = replicate (extent_of b - room_of b) 0;
  room = omega (arith, length-replicate {A = ℕ} (extent_of b - room_of b) 0, room_fits (room_of b));
  spelled = refl;
}

pub appended_are_laid : AppendedAreLaid
appended_are_laid place [] links = refl
appended_are_laid place (b ∷ bs) links =
    let link = first_or_none links in
    let rest = texts (laid (place + extent_of b) bs) (drop 1 links) in (
      refl,
      subst (λ (l : List ℕ). IsBlockText (placed place b) l) (sym (block_front b place link rest)) (is_block_text b place link),
      subst (λ (l : List ℕ). AreLaid (place + extent_of b) (laid (place + extent_of b) bs) l) (sym (block_rest b place link rest)) (appended_are_laid (place + extent_of b) bs (drop 1 links)),
    )

pub blocks_are_read : BlocksAreRead
blocks_are_read = record {
  long = λ x bytes is. ap length is.spelled ∙ length-block_with x.body x.place x.extent is.link is.padding ∙ is.room;
  head = λ x bytes rest is fits. ap (λ (l : List ℕ). head_at (l ++ rest) x.place) is.spelled ∙ any_head x.body x.place x.extent is.link is.padding rest fits;
  body = λ x bytes rest is fits. ap (λ (l : List ℕ). body_at (drop 24 (l ++ rest)) x.place) is.spelled ∙ any_body x.body x.place x.extent is.link is.padding rest fits;
}
