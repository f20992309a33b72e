-- What replies keep.
use Rattle.std.specs.Prelude.{◌≡◌, ℕ, true, List, length, Option, Some, ℤ}
use Rattle.tk_model.specs.declared.record.Action.TheVariants.{Put}
use Rattle.tk_proc.specs.Replies.{is_met}
use Rattle.tk_proc.specs.Increments.{number_in, number_bytes, is_in_64_bits, increment_at, increment_reply}
use Rattle.tk_proc.specs.declared.exchange.Expected.TheVariants as expectations

-- an expected value is met by itself alone
pub record ValuesAreMetAlone : Type 0 where
  pub alone : (x v : List ℕ) → is_met (expectations.Value x) (Some v) ≡ true → x ≡ v
  pub itself : (x : List ℕ) → is_met (expectations.Value x) (Some x) ≡ true

-- a number that was stored is read again, and an increment goes on from what the one before it stored
pub record NumbersAreReadBack : Type 0 where
  pub eight : (z : ℤ) → length (number_bytes z) ≡ 8
  pub number : (z : ℤ) → is_in_64_bits z ≡ true → number_in (number_bytes z) ≡ z
  pub next : (n i m j x : ℤ) (was : Option (List ℕ)) (v : List ℕ) → (increment_reply n i was).action ≡ Put v → (increment_reply n i was).number ≡ Some x
      → increment_reply m j (Some v) ≡ increment_at m x
