-- Where a key stands in a list of records.
use Rattle.std.specs.Prelude.{◌≡◌, ℕ, ◌<◌, ◌≤◌, List, length, None, slice_get, slice_set, insert, remove}
use Rattle.std.specs.Option.{option_map}
use Rattle.tk_model.specs.Records.{find, put, without}
use Rattle.tk_model.specs.declared.record.Order.{Order}
use Rattle.tk_model.specs.declared.record.Pair.{Pair}

-- the record at this place is the key's
pub record StandsAt (k : List ℕ) (m : List Pair) (i : ℕ) : Type 0 where
  pub inside : i < length m
  pub value : find k m ≡ option_map (λ (p : Pair). p.value) (slice_get m i)
  pub rest : without k m ≡ remove m i

-- no record is the key's
pub record StandsNowhere (k : List ℕ) (m : List Pair) : Type 0 where
  pub value : find k m ≡ None
  pub rest : without k m ≡ m

-- a record of the key takes the place of this one
pub record GoesAt (o : Order) (k : List ℕ) (m : List Pair) (i : ℕ) : Type 0 where
  pub inside : i < length m
  pub replaced : (new : Pair) → new.key ≡ k → put o new m ≡ slice_set m i new

-- a record of the key goes in front of this one
pub record GoesBefore (o : Order) (k : List ℕ) (m : List Pair) (i : ℕ) : Type 0 where
  pub inside : i ≤ length m
  pub inserted : (new : Pair) → new.key ≡ k → put o new m ≡ insert m i new
