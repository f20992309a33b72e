-- An order, and records.
use Rattle.std.specs.Prelude.{List}
use Rattle.tk_model.specs.declared.record.Order.{Order}
use Rattle.tk_model.specs.declared.record.Pair.{Pair}

pub record OrderedRecords : Type 0 where
  pub order : Order
  pub pairs : List Pair
