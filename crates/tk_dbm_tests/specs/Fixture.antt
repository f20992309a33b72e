-- What tests and measurements ask of a store that a database is made of.
use Rattle.std.specs.Prelude.{◌≡◌, ℕ, false, List, []}
use Rattle.tk_model.specs.declared.record.Group.{Group}
use Rattle.tk_store.specs.Store.{First, StoreView}

-- it was just opened
pub record IsOpened {T : Type 0} (stands : T → First → List Group → ℕ → Type 0) (store_view : T → StoreView) (s : T) : Type 0 where
  pub first : First
  pub stands_now : stands s first [] 0
  pub unclosed : (store_view s).closed ≡ false
