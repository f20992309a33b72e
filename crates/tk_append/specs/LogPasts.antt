-- The pasts that calls of a log leave.
use Rattle.std.specs.Prelude.{◌≡◌, ◌⊎◌, List, ℕ, Option, IfSome}
use Rattle.tk_disk.specs.Past.{Past, settled_on, Writes}
use Rattle.tk_block.specs.Sizes.{closing_place}
use Rattle.tk_block.specs.Text.{closing_text}
use Rattle.tk_block.specs.declared.closing.Closing.{Closing}
use Rattle.tk_append.specs.LogParts.{with_closing}

-- as it was, or settled on what a read gives
abbrev pub Settles : (image : Option (List ℕ)) (old new : Past) → Type 0
Settles image old new = (new ≡ old) ⊎ IfSome image (λ f. new ≡ settled_on f)

-- as it was, or a closing part was written, or written and made durable
abbrev pub Marks : Closing → (image : Option (List ℕ)) (old new : Past) → Type 0
Marks c image old new = Writes closing_place (closing_text c) old new ⊎ IfSome image (λ f. new ≡ settled_on (with_closing c f))

-- as it was, or all was made durable, and then a closing part may have been written, and made durable
abbrev pub Closes : Closing → (image : Option (List ℕ)) (old new : Past) → Type 0
Closes c image old new = (new ≡ old) ⊎ IfSome image (λ f. Marks c image (settled_on f) new)
