-- A set that has the keys of records.
use Rattle.std.specs.Prelude.{◌≡◌, ℕ, List, length}
use Rattle.std.specs.Option.{is_some}
use Rattle.std.specs.Str.{bytes_eq}
use Rattle.std.specs.Global.{Vec}
use Rattle.std.specs.HashSet.{HashSet, hash_set_len, contains_by}
use Rattle.tk_model.specs.Records.{find, Rising}
use Rattle.tk_model.specs.declared.record.Order.TheVariants.{Hash}
use Rattle.tk_model.specs.declared.record.Pair.{Pair}

-- the set has the keys of these records
pub record HasKeys {S : Type 0} (keys : HashSet (Vec ℕ) S) (pairs : List Pair) : Type 0 where
  pub rising : Rising Hash pairs
  pub count : hash_set_len keys ≡ length pairs
  pub each : (k : List ℕ) → contains_by (λ v. bytes_eq k v.items) keys ≡ is_some (find k pairs)
