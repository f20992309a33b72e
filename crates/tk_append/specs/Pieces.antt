-- Bytes that go to a disk in pieces.
use Rattle.std.specs.Prelude.{◌≡◌, ℕ, List, [], ◌∷◌, ◌++◌, length, Option, IsSomeAnd}
use Rattle.std.specs.Int.{w64, to_be_bytes}

-- the disk tells what was written, and that and what waits behind it are this text
abbrev pub Holds : (image : Option (List ℕ)) (at : ℕ) (waiting text : List ℕ) → Type 0
Holds image at waiting text = IsSomeAnd image (λ f. (f ++ waiting ≡ text) × (length f ≡ at))

-- numbers, each as eight bytes
abbrev pub words_text : List ℕ → List ℕ
words_text [] = []
words_text (x ∷ xs) = to_be_bytes w64 x ++ words_text xs
