-- A store that is out, after a group was reserved in it or made.
use Rattle.std.proofs.Common.{◌≡◌, ℕ, ◌≤◌, Bool, false, List, [], ◌∷◌, ◌++◌, length, length-append, Option, None, Result, Ok, Err, OnOk, is_some, sym, ap, ◌∙◌, subst, arith}
use Rattle.tk_model.specs.declared.record.Pair.{Pair}
use Rattle.tk_model.specs.declared.record.Group.{Group}
use Rattle.tk_model.specs.declared.record.Change.{Change}
use Rattle.tk_model.specs.declared.record.Entry.{Entry}
use Rattle.tk_store.specs.declared.error.StoreError.{StoreError}
use Rattle.tk_store.specs.declared.error.StoreError.TheVariants as errors
use Rattle.tk_store.specs.Store.{First, StoreView, StoreConstants, groups_made_by, Keeps, SameContents, UnlessFault, floor_after}
use Rattle.tk_core.specs.Rule.{groups_of, hard_groups}
use Rattle.tk_locks.specs.declared.home.Home.{Home}
use Rattle.tk_locks.specs.Made.{Fresh}
use Rattle.tk_locks.specs.Steps.{MayMark}
use Rattle.tk_locks.specs.Rule.{Ground, count_at, good_of, next_fits, records_in}
use Rattle.tk_locks.specs.View.{View}
use Rattle.tk_dbm.specs.Parts.{IsOut, IsReady}
use Rattle.tk_dbm.proofs.Goods.{stays, grows, next_stays, next_on}

module _ {T : Type 0} (law : List Pair → Bool) (stands : T → First → List Group → ℕ → Type 0) (store_view : T → StoreView) (constants : T → StoreConstants) (faults : T → ℕ) (g : Ground T) (fresh : Fresh law stands store_view constants g.frame g.start) (i : ℕ) where
  abbrev Out : View → Home T → Type 0
  Out v h = IsOut law stands store_view constants faults g i v h

  pub reserved_out : (v : View) (h : Home T) (y : T) → h.broken ≡ None → Out v h → {U : Type 0} (r : Result U StoreError) → UnlessFault r (Keeps stands h.store y) → UnlessFault r (SameContents (store_view h.store) (store_view y)) → constants y ≡ constants h.store → faults h.store ≤ faults y
      → UnlessFault r (Out v (record { store = y; broken = h.broken }))
  reserved_out v h y whole out r keeps same same_constant later = by_result r keeps same
    where
      still : Keeps stands h.store y → SameContents (store_view h.store) (store_view y) → Out v (record { store = y; broken = h.broken })
      still keeps same = record {
        low = out.low;
        holds = out.holds;
        owed = λ _. stays law stands store_view constants g fresh i out.low h.store y _ _ keeps same_constant same.map same.closed (out.owed whole);
        stays = out.stays;
        counted = let a = out.counted in omega arith;
        follows = λ _. next_stays law stands store_view constants g fresh i out.low h.store y _ same_constant same.floor (out.follows whole);
      }

      by_result : {U : Type 0} (r : Result U StoreError) → UnlessFault r (Keeps stands h.store y) → UnlessFault r (SameContents (store_view h.store) (store_view y)) → UnlessFault r (Out v (record { store = y; broken = h.broken }))
      by_result (Ok u) a b = still a b
      by_result (Err errors.Fault) a b = tt
      by_result (Err (errors.Full size need limit)) a b = still a b
      by_result (Err errors.NoMemory) a b = still a b

  pub applied_out : (number : ℕ) (v : View) (x y : T) (b : Option ℕ) → b ≡ None → (reserved : T → List Change → Type 0) (ready : IsReady law stands store_view constants faults g reserved i number v x) {U : Type 0} (r : Result U StoreError)
      → ((first : First) (since : List Group) (hard : ℕ) → stands x first since hard → OnOk r (stands y first (since ++ groups_made_by (constants x) number ready.changes) hard))
      → OnOk r ((store_view y).floor ≡ floor_after (store_view x).floor (groups_made_by (constants x) number ready.changes))
      → constants y ≡ constants x → is_some (store_view y).map ≡ is_some (store_view x).map → (store_view y).closed ≡ false → faults x ≤ faults y → OnOk r (Out v (record { store = y; broken = b }))
  applied_out number v x y b whole reserved ready (Err z) more floor same_constant same_told ajar later = tt
  applied_out number v x y b whole reserved ready (Ok u) more floor same_constant same_told ajar later = record {
    low = ready.low;
    holds = ready.holds;
    owed = λ _. subst (λ (es : List Entry). good_of stands store_view constants g i y (groups_of g.frame (records_in g.frame.order store_view g.start) es i) (hard_groups g.frame (records_in g.frame.order store_view g.start) es i)) (sym ready.base)
        (grows law stands store_view constants g fresh i ready.low x y ready.log ready.entry number ready.changes ready.good_then ready.number_is ready.some ready.soft ready.told more same_constant same_told ajar);
    stays = subst (MayMark g.frame (count_at faults g.start) i v) (sym whole) ready.stays;
    counted = let a = ready.counted in omega arith;
    follows = λ _. subst (next_fits store_view constants g y) (sym (ap (λ (es : List Entry). length es) ready.base ∙ length-append ready.log (ready.entry ∷ [])))
        (next_on law stands store_view constants g fresh i ready.low y (store_view x).floor number (length ready.log) ready.changes (constants x) ready.some ready.number_is floor);
  }
