-- What the contracts say of seats.
use Rattle.std.specs.Prelude.{◌≡◌, ℕ, true, [], ◌∷◌, Option, slice_index_or}
use Rattle.atomic_table.specs.declared.shared.Seat.{Seat}
use Rattle.tk_locks.specs.declared.home.Home.{Home}
use Rattle.tk_locks.specs.declared.table.LockTable.{LockTable}
use Rattle.tk_core.specs.declared.frame.Frame.{Frame}
use Rattle.tk_core.specs.Caller.{Caller}
use Rattle.tk_core.specs.Covers.{store_lock}
use Rattle.tk_core.specs.Lists.{has}
use Rattle.tk_locks.specs.declared.pass.Pass.{Pass}
use Rattle.tk_locks.specs.Rule.{Ground, ground_of}
use Rattle.tk_locks.specs.View.{View, nobody}

module _ {T : Type 0} where
  abbrev pub at : Seat (Option (Home T)) View → View
  at p = p.me.0

  abbrev pub IsSeatOf : LockTable T → Seat (Option (Home T)) View → Type 0
  IsSeatOf t p = (p.table_id ≡ t.table.shared.table_id) × (p.me.1 ≡ [])

  abbrev pub IsSameSeat : Seat (Option (Home T)) View → Seat (Option (Home T)) View → Type 0
  IsSameSeat p q = (q.table_id ≡ p.table_id) × (q.me.1 ≡ [])

abbrev pub view : Pass → View
view p = slice_index_or p.badge.views 0 nobody

-- it counts its own allowance
abbrev pub IsCounted : Pass → Type 0
IsCounted p = p.left ≡ (view p).caller.allowance

-- each store whose lock it holds is out with it
abbrev pub AllOut : Frame → Caller → Type 0
AllOut f c = (i : ℕ) → has (store_lock f i) c.held ≡ true → has i c.out ≡ true

-- what a pass is at rest
pub record IsPass (f : Frame) (p : Pass) : Type 0 where
  pub one : p.badge.views ≡ view p ∷ []
  pub left : IsCounted p
  pub live : (view p).caller.live ≡ true
  pub all_out : AllOut f (view p).caller

module _ {T : Type 0} where
  abbrev pub its : LockTable T → Ground T
  its t = ground_of t.table.shared.key

  abbrev pub IsPassOf : LockTable T → Pass → Type 0
  IsPassOf t p = (p.badge.table_id ≡ t.table.shared.table_id) × IsPass (its t).frame p
