-- Changes that fit a store fit one that takes longer values.
use Rattle.std.proofs.Common.{ℕ, ◌≤◌, List, [], ◌∷◌, arith}
use Rattle.tk_model.specs.declared.record.Change.{Change}
use Rattle.tk_model.specs.declared.record.Change.TheVariants as changes
use Rattle.tk_model.specs.Records.{AllFit}
use Rattle.tk_store.specs.Store.{AllFitWithin}

pub fits_more : (m n : ℕ) (cs : List Change) → m ≤ n → AllFitWithin m cs → AllFitWithin n cs
fits_more m n [] le fit = tt
fits_more m n (changes.Put p ∷ cs) le fit = (fit.0, omega (arith, le, fit.1), fits_more m n cs le fit.2)
fits_more m n (changes.Drop k ∷ cs) le fit = (fit.0, fits_more m n cs le fit.1)
fits_more m n (changes.Clear ∷ cs) le fit = fits_more m n cs le fit

-- what a store takes fits a file
pub fits_file : (n : ℕ) (cs : List Change) → n ≤ 33554431 → AllFitWithin n cs → AllFit cs
fits_file n [] le fit = tt
fits_file n (changes.Put p ∷ cs) le fit = (fit.0, omega (arith, le, fit.1), fits_file n cs le fit.2)
fits_file n (changes.Drop k ∷ cs) le fit = (fit.0, fits_file n cs le fit.1)
fits_file n (changes.Clear ∷ cs) le fit = fits_file n cs le fit

-- what fits a file fits a store that takes all that does
pub fits_store : (cs : List Change) → AllFit cs → AllFitWithin 33554431 cs
fits_store [] fit = tt
fits_store (changes.Put p ∷ cs) fit = (fit.0, fit.1, fits_store cs fit.2)
fits_store (changes.Drop k ∷ cs) fit = (fit.0, fits_store cs fit.1)
fits_store (changes.Clear ∷ cs) fit = fits_store cs fit
