-- The stores of a new database are those that it is made of.
use Rattle.std.proofs.Common.{◌≡◌, ℕ, zero, suc, Bool, List, [], ◌∷◌, Contains, Some, None, sym, ap, subst, arith}
use mathlib.Core.Option.{some, some-injective, some-ne-none}
use lib.ListN.{get_elem?}
use Rattle.tk_model.specs.declared.record.Pair.{Pair}
use Rattle.tk_model.specs.declared.record.Group.{Group}
use Rattle.tk_store.specs.Store.{First, StoreView, StoreConstants}
use Rattle.tk_locks.specs.declared.home.Home.{Home}
use Rattle.tk_locks.specs.Homes.{homes_of}
use Rattle.tk_locks.specs.Made.{Fresh}
use Rattle.tk_locks.specs.Rule.{Ground}
use Rattle.tk_dbm.specs.Setting.{IsWritable}
use Rattle.tk_dbm.specs.Making.{MayMake, ground_for}

home_in : {T : Type 0} (xs : List T) (i : ℕ) (h : Home T) → get_elem? (homes_of xs) i ≡ some (Some h) → Contains xs h.store
home_in [] i h e = absurd (some-ne-none (Some h) (sym e))
home_in {T} (x ∷ xs) zero h e = let same : Some (record { store = x; broken = None }) ≡ Some h = some-injective (Some (record { store = x; broken = None })) (Some h) e in
    let q : ◌≡◌ {A = Home T} (record { store = x; broken = None }) h = cc (same) in (0, omega arith, ap (λ (z : Home T). z.store) q)
home_in (x ∷ xs) (suc i) h e = let t = home_in xs i h e in (suc t.0, let low = t.1 in omega arith, t.2)

module _ {T : Type 0} (law : List Pair → Bool) (stands : T → First → List Group → ℕ → Type 0) (store_view : T → StoreView) (constants : T → StoreConstants) (stores : List T) (stripes base : ℕ) (writable : Bool) (may : MayMake law stands store_view constants stores stripes base writable) where
  pub made_fresh : (g : Ground T) → g ≡ ground_for constants stores stripes base → Fresh law stands store_view constants g.frame g.start
  made_fresh g e = subst (λ (z : Ground T). Fresh law stands store_view constants z.frame z.start) (sym e) may.fresh

  pub made_writable : (g : Ground T) → g ≡ ground_for constants stores stripes base → IsWritable constants g writable
  made_writable g e = subst (λ (z : Ground T). IsWritable constants z writable) (sym e) (λ w i h at. may.writes w h.store (home_in stores i h at))
