-- What an increment answers and does, by the value at its key.
use Rattle.std.specs.Prelude.{ℕ, ◌^◌, ◌-◌, nat_lt, ◌==◌, Bool, List, length, Option, Some, None, ℤ, pos, negsuc, ◌+ℤ◌, if◌then◌else◌}
use Rattle.std.specs.Int.{w64, cast_signed, cast_unsigned, from_be_bytes, to_be_bytes}
use Rattle.std.specs.Ordering.{int_eq}
use Rattle.tk_status.specs.declared.Status.{Status}
use Rattle.tk_status.specs.declared.Status.TheVariants.{Success, InvalidArgument, Infeasible}
use Rattle.tk_model.specs.declared.record.Action.{Action}
use Rattle.tk_model.specs.declared.record.Action.TheVariants.{Keep, Put}

-- the number that eight bytes are: signed, in two's complement, the highest byte first
unfoldable pub number_in : List ℕ → ℤ
number_in v = cast_signed w64 (from_be_bytes w64 v)

-- the eight bytes of a number
unfoldable pub number_bytes : ℤ → List ℕ
number_bytes z = to_be_bytes w64 (cast_unsigned w64 z)

-- from -2^63 to 2^63 - 1
abbrev pub is_in_64_bits : ℤ → Bool
is_in_64_bits (pos n) = nat_lt n (2 ^ 63)
is_in_64_bits (negsuc n) = nat_lt n (2 ^ 63)

-- -2^63: the number that is not added, so that an increment by it reads alone
abbrev pub reads_alone : ℤ → Bool
reads_alone n = int_eq n (negsuc (2 ^ 63 - 1))

-- what an increment answers, and what becomes of the record
pub record NumberReply : Type 0 where
  pub status : Status
  pub number : Option ℤ
  pub action : Action

-- at a number that is read
abbrev pub read_reply : ℤ → NumberReply
read_reply number = record { status = Success; number = Some number; action = Keep }

-- at a sum: it is put, if it is in 64 bits
abbrev pub sum_reply : ℤ → NumberReply
sum_reply sum =
    if is_in_64_bits sum then record { status = Success; number = Some sum; action = Put (number_bytes sum) }
    else record { status = Infeasible; number = None; action = Keep }

-- at the number of a record
abbrev pub increment_at : (n number : ℤ) → NumberReply
increment_at n number = if reads_alone n then read_reply number else sum_reply (number +ℤ n)

abbrev pub increment_reply : (n initial : ℤ) → Option (List ℕ) → NumberReply
increment_reply n initial None = increment_at n initial
increment_reply n initial (Some v) =
    if length v == 8 then increment_at n (number_in v)
    else record { status = InvalidArgument; number = None; action = Keep }

-- what a counter holds: what it adds, where it begins, and its last answer
pub record Counting : Type 0 where
  pub by : ℤ
  pub initial : ℤ
  pub status : Status
  pub number : Option ℤ

-- a counter behind a call
abbrev pub counting_after : Counting → NumberReply → Counting
counting_after c r = record { by = c.by; initial = c.initial; status = r.status; number = r.number }
