-- What a reader of pages tells: what is found is spelled, and what is spelled is found.
use Rattle.std.proofs.Common.{◌≡◌, ◌∙◌, sym, ap, ℕ, List, Option, Some, None, Result, Ok, Err, IfOk, IfSome}
use Rattle.std.specs.Option.{option_map}
use Rattle.tk_model.proofs.RecordTexts.{AreBytes}
use Rattle.tk_model.specs.declared.error.NoMemory.{NoMemory}
use Rattle.tk_page.specs.declared.page.Page.{Page}
use Rattle.tk_page.specs.declared.view.PageHere.{PageHere}
use Rattle.tk_page.specs.Page.{page_in, page_text, FitsPage}
use Rattle.tk_page.specs.View.{page_seen}
use Rattle.tk_page.proofs.Grammar.{page_found, page_again}

module _ {P : Type 0} (seen : P → Page) (text : List ℕ) where
  abbrev pub Tells : Result (Option P) NoMemory → Type 0
  Tells result = IfOk result (λ o. option_map seen o ≡ page_in text)

  found_by : (result : Result (Option P) NoMemory) → AreBytes text → Tells result → IfOk result (λ o. IfSome o (λ page. FitsPage (seen page) × (text ≡ page_text (seen page))))
  found_by (Ok None) bytes is = tt
  found_by (Ok (Some page)) bytes is = page_found text (seen page) bytes (sym is)
  found_by (Err e) bytes is = tt

  again_by : (result : Result (Option P) NoMemory) → Tells result → IfOk result (λ o. (page : Page) → FitsPage page → text ≡ page_text page → option_map seen o ≡ Some page)
  again_by (Ok o) is = λ page fits spelled. is ∙ ap page_in spelled ∙ page_again page fits
  again_by (Err e) is = tt

pub view_found : (text : List ℕ) (result : Result (Option PageHere) NoMemory) → AreBytes text → Tells page_seen text result → IfOk result (λ o. IfSome o (λ page. FitsPage (page_seen page) × (text ≡ page_text (page_seen page))))
view_found text result bytes is = found_by page_seen text result bytes is

pub view_again : (text : List ℕ) (result : Result (Option PageHere) NoMemory) → Tells page_seen text result → IfOk result (λ o. (page : Page) → FitsPage page → text ≡ page_text page → option_map page_seen o ≡ Some page)
view_again text result is = again_by page_seen text result is

itself : (text : List ℕ) (result : Result (Option Page) NoMemory) → IfOk result (λ o. o ≡ page_in text) → Tells (λ p. p) text result
itself text (Ok None) is = is
itself text (Ok (Some page)) is = is
itself text (Err e) is = tt

pub copy_found : (text : List ℕ) (result : Result (Option Page) NoMemory) → AreBytes text → IfOk result (λ o. o ≡ page_in text) → IfOk result (λ o. IfSome o (λ page. FitsPage page × (text ≡ page_text page)))
copy_found text result bytes is = found_by (λ p. p) text result bytes (itself text result is)

pub copy_again : (text : List ℕ) (result : Result (Option Page) NoMemory) → IfOk result (λ o. o ≡ page_in text) → IfOk result (λ o. (page : Page) → FitsPage page → text ≡ page_text page → o ≡ Some page)
copy_again text (Ok o) is = λ page fits spelled. is ∙ ap page_in spelled ∙ page_again page fits
copy_again text (Err e) is = tt
