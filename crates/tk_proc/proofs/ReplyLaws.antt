-- Expected values and stored numbers.
use Rattle.std.proofs.Common.{◌≡◌, ℕ, ◌^◌, ◌<◌, Bool, true, false, ◌==◌, List, length, Option, Some, None, ℤ, pos, negsuc, ◌+ℤ◌, FitsSigned, w64, refl, sym, ap, ◌∙◌, rules}
use Rattle.std.proofs.lemmas.Nat.{from_be_bytes-to_be_bytes_8}
use Rattle.std.proofs.lemmas.Int.{to_z-of_z}
use Rattle.std.specs.Int.{cast_signed, cast_unsigned}
use Rattle.tk_model.specs.declared.record.Action.TheVariants.{Put}
use Rattle.tk_proc.specs.Increments.{number_in, number_bytes, is_in_64_bits, reads_alone, sum_reply, increment_at, increment_reply}

pub eight_bytes : (z : ℤ) → length (number_bytes z) ≡ 8
unfolding number_bytes
eight_bytes z = refl

fits : (z : ℤ) → is_in_64_bits z ≡ true → FitsSigned w64 z
fits (pos n) e = search rules
fits (negsuc n) e = search rules

unsigned_below : (z : ℤ) → FitsSigned w64 z → cast_unsigned w64 z < 2 ^ 64
unsigned_below z f = search rules

pub read_back : (z : ℤ) → is_in_64_bits z ≡ true → number_in (number_bytes z) ≡ z
unfolding number_in number_bytes
read_back z e =
    ap (cast_signed w64) (from_be_bytes-to_be_bytes_8 (cast_unsigned w64 z) (unsigned_below z (fits z e)))
    ∙ to_z-of_z w64 z (fits z e)

-- what a sum stores is eight bytes, and the number that it tells
abbrev IsReadAs : List ℕ → ℤ → Type 0
IsReadAs v x = (length v ≡ 8) × (number_in v ≡ x)

sum_next : (sum x : ℤ) (v : List ℕ) (b : Bool) → is_in_64_bits sum ≡ b → (sum_reply sum).action ≡ Put v → (sum_reply sum).number ≡ Some x → IsReadAs v x
sum_next sum x v true e put number =
    let bytes : number_bytes sum ≡ v = (let p = rw e at put in cc) in
    let same : sum ≡ x = (let p = rw e at number in cc) in
    (ap length (sym bytes) ∙ eight_bytes sum, ap number_in (sym bytes) ∙ read_back sum e ∙ same)
sum_next sum x v false e put number = absurd (let p = rw e at put in cc)

at_next : (n number x : ℤ) (v : List ℕ) (b : Bool) → reads_alone n ≡ b → (increment_at n number).action ≡ Put v → (increment_at n number).number ≡ Some x → IsReadAs v x
at_next n number x v true e put told = absurd (let p = rw e at put in cc)
at_next n number x v false e put told =
    sum_next (number +ℤ n) x v (is_in_64_bits (number +ℤ n)) refl (rw e at put) (rw e at told)

found_next : (n i x : ℤ) (u v : List ℕ) (b : Bool) → (length u == 8) ≡ b → (increment_reply n i (Some u)).action ≡ Put v → (increment_reply n i (Some u)).number ≡ Some x → IsReadAs v x
found_next n i x u v true e put told = at_next n (number_in u) x v (reads_alone n) refl (rw e at put) (rw e at told)
found_next n i x u v false e put told = absurd (let p = rw e at put in cc)

reply_next : (n i x : ℤ) (was : Option (List ℕ)) (v : List ℕ) → (increment_reply n i was).action ≡ Put v → (increment_reply n i was).number ≡ Some x → IsReadAs v x
reply_next n i x None v put told = at_next n i x v (reads_alone n) refl put told
reply_next n i x (Some u) v put told = found_next n i x u v (length u == 8) refl put told

from_read : (m j x : ℤ) (v : List ℕ) → IsReadAs v x → increment_reply m j (Some v) ≡ increment_at m x
from_read m j x v read = rw read.0 (ap (increment_at m) read.1)

pub next_reads : (n i m j x : ℤ) (was : Option (List ℕ)) (v : List ℕ) → (increment_reply n i was).action ≡ Put v → (increment_reply n i was).number ≡ Some x
    → increment_reply m j (Some v) ≡ increment_at m x
next_reads n i m j x was v put told = from_read m j x v (reply_next n i x was v put told)
