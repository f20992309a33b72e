-- What each order of keys keeps.
use Rattle.std.specs.Prelude.{◌≡◌, ℕ, List}
use Rattle.std.specs.Cmp.{IsTotalOrder}
use Rattle.std.specs.declared.cmp.Ordering.TheVariants.{Equal}
use Rattle.tk_model.specs.Orders.{key_cmp}
use Rattle.tk_model.specs.declared.record.Order.{Order}

-- a total order, in which only keys of the same bytes are equal
pub record OrdersKeys (o : Order) : Type 0 where
  pub total : IsTotalOrder (key_cmp o)
  pub apart : (a b : List ℕ) → key_cmp o a b ≡ Equal → a ≡ b
