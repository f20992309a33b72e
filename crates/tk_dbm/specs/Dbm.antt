-- A database and its passes, by what they show.
use Rattle.std.specs.Prelude.{◌≡◌, ℕ, Bool, true, List, []}
use Rattle.tk_model.specs.declared.record.Pair.{Pair}
use Rattle.tk_model.specs.declared.record.Entry.{Entry}
use Rattle.tk_model.specs.declared.record.Group.{Group}
use Rattle.tk_store.specs.Store.{First, StoreView, StoreConstants}
use Rattle.tk_core.specs.Needs.{KeepsLaw}
use Rattle.tk_locks.specs.Calls as locks
use Rattle.tk_locks.specs.Made.{Fresh}
use Rattle.tk_locks.specs.Rule.{Ground}
use Rattle.tk_locks.specs.View.{View}
use Rattle.tk_dbm.specs.Setting.{Setting, setting_of, IsWritable}
use Rattle.tk_dbm.specs.declared.dbm.Dbm.{Dbm}
use Rattle.tk_dbm.specs.declared.pass.Pass.{Pass}

abbrev pub view : Pass → View
view p = locks.view p.token

-- the pass counts its own allowance
abbrev pub IsCounted : Pass → Type 0
IsCounted p = locks.IsCounted p.token

module _ {T : Type 0} where
  -- what the database was told when it was made
  abbrev pub its : Dbm T → Ground T
  its d = locks.its d.table

  -- calls may write
  abbrev pub writes : Dbm T → Bool
  writes d = d.writable

  abbrev pub setting : (List Pair → Bool) → (T → StoreView) → (T → ℕ) → Dbm T → Setting
  setting law store_view faults d = setting_of law store_view faults (its d) (writes d)

  -- the pass is one of this database, which was made of such stores as it asks for, and holds these locks
  pub record IsPassAt (law : List Pair → Bool) (stands : T → First → List Group → ℕ → Type 0) (store_view : T → StoreView) (constants : T → StoreConstants) (locks_held : List ℕ) (d : Dbm T) (p : Pass) : Type 0 where
    pub own : locks.IsPassOf d.table p.token
    pub held : (view p).caller.held ≡ locks_held
    pub breaking : (view p).caller.breaking ≡ []
    pub fresh : Fresh law stands store_view constants (its d).frame (its d).start
    pub writable : IsWritable constants (its d) (writes d)

  -- it holds no lock
  abbrev pub IsIdleOf : (List Pair → Bool) → (T → First → List Group → ℕ → Type 0) → (T → StoreView) → (T → StoreConstants) → Dbm T → Pass → Type 0
  IsIdleOf law stands store_view constants d p = IsPassAt law stands store_view constants [] d p

-- each entry that a call can make leads from each map that meets the law to one that does
abbrev pub AllKeepLaw : Setting → (List Pair → Entry) → Type 0
AllKeepLaw s entry = (m : List Pair) → KeepsLaw s.frame (λ n. s.law n ≡ true) (entry m)
