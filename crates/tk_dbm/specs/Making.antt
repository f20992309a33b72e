-- What a database asks of the stores that it is made of.
use Rattle.std.specs.Prelude.{◌≡◌, ◌≤◌, ◌^◌, ℕ, Bool, true, List, Contains}
use Rattle.tk_model.specs.declared.record.Pair.{Pair}
use Rattle.tk_model.specs.declared.record.Group.{Group}
use Rattle.tk_store.specs.Store.{First, StoreView, StoreConstants}
use Rattle.tk_core.specs.Covers.{IsFrame}
use Rattle.tk_locks.specs.Homes.{homes_of}
use Rattle.tk_locks.specs.Made.{Fresh, frame_of}
use Rattle.tk_locks.specs.Rule.{Ground}

-- The stores have one order, stand for no groups yet, and each has the records of its shard alone. A database that may write needs stores that were opened for writing.
pub record MayMake {T : Type 0} (law : List Pair → Bool) (stands : T → First → List Group → ℕ → Type 0) (store_view : T → StoreView) (constants : T → StoreConstants)
    (stores : List T) (stripes base : ℕ) (writable : Bool) : Type 0 where
  pub sizes : IsFrame (frame_of constants stores stripes base)
  pub below : base ≤ 2 ^ 62
  pub fresh : Fresh law stands store_view constants (frame_of constants stores stripes base) (homes_of stores)
  pub writes : writable ≡ true → (x : T) → Contains stores x → (constants x).writable ≡ true

-- what the database is told then
abbrev pub ground_for : {T : Type 0} → (T → StoreConstants) → List T → ℕ → ℕ → Ground T
ground_for constants stores stripes base = record { frame = frame_of constants stores stripes base; start = homes_of stores }
