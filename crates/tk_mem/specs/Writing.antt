-- Bytes on their way to a disk.
use Rattle.std.specs.Prelude.{ℕ, List, ◌++◌, take, Option}
use Rattle.std.specs.Option.{option_map}
use Rattle.tk_mem.specs.declared.write.Pieces.{Pieces}

-- what waits behind the bytes that were written
abbrev pub waiting : Pieces → List ℕ
waiting p = take p.used p.buffer

-- where the disk tells it, what was written, and what waits behind it
abbrev pub text_so_far : (image : Option (List ℕ)) → Pieces → Option (List ℕ)
text_so_far image p = option_map (λ f. f ++ waiting p) image

-- the same with these bytes more
abbrev pub with_more : List ℕ → Option (List ℕ) → Option (List ℕ)
with_more bytes text = option_map (λ t. t ++ bytes) text
