-- What a call of one record answers and does, by the value at its key.
use Rattle.std.specs.Prelude.{ℕ, Bool, true, false, List, ◌++◌, Option, Some, None, if◌then◌else◌}
use Rattle.tk_status.specs.declared.Status.{Status}
use Rattle.tk_status.specs.declared.Status.TheVariants.{Success, NotFound, Infeasible, Duplication}
use Rattle.tk_model.specs.Orders.{same_bytes}
use Rattle.tk_model.specs.declared.record.Action.{Action}
use Rattle.tk_model.specs.declared.record.Action.TheVariants.{Keep, Put, Drop}
use Rattle.tk_proc.specs.declared.exchange.Expected.{Expected}
use Rattle.tk_proc.specs.declared.exchange.Expected.TheVariants as expectations
use Rattle.tk_proc.specs.declared.exchange.Desired.{Desired}
use Rattle.tk_proc.specs.declared.exchange.Desired.TheVariants as wishes

pub record Reply : Type 0 where
  pub status : Status
  pub value : Option (List ℕ)
  pub action : Action

abbrev pub get_reply : Option (List ℕ) → Reply
get_reply (Some v) = record { status = Success; value = Some v; action = Keep }
get_reply None = record { status = NotFound; value = None; action = Keep }

abbrev pub set_reply : (value : List ℕ) (overwrite : Bool) → Option (List ℕ) → Reply
set_reply x overwrite None = record { status = Success; value = None; action = Put x }
set_reply x true (Some v) = record { status = Success; value = None; action = Put x }
set_reply x false (Some v) = record { status = Duplication; value = None; action = Keep }

abbrev pub remove_reply : Option (List ℕ) → Reply
remove_reply (Some v) = record { status = Success; value = None; action = Drop }
remove_reply None = record { status = NotFound; value = None; action = Keep }

-- what an adder holds: its value, and whether it found one
pub record Adding : Type 0 where
  pub value : List ℕ
  pub found : Bool

abbrev pub append_reply : (value delimiter : List ℕ) → Option (List ℕ) → Reply
append_reply x d (Some v) = record { status = Success; value = None; action = Put (v ++ d ++ x) }
append_reply x d None = record { status = Success; value = None; action = Put x }

-- what an appender holds: its value, and what stands between the old one and that
pub record Appending : Type 0 where
  pub value : List ℕ
  pub delimiter : List ℕ

-- a record is as expected: absent, there with any value, or there with this value alone
abbrev pub is_met : Expected → Option (List ℕ) → Bool
is_met expectations.Absent None = true
is_met expectations.Absent (Some v) = false
is_met expectations.Any None = false
is_met expectations.Any (Some v) = true
is_met (expectations.Value x) None = false
is_met (expectations.Value x) (Some v) = same_bytes x v

-- what becomes of a record that was as expected
abbrev pub desired_action : Desired → Action
desired_action wishes.Remove = Drop
desired_action wishes.Leave = Keep
desired_action (wishes.Value x) = Put x

abbrev pub exchange_reply : Expected → Desired → Option (List ℕ) → Reply
exchange_reply e d was = record {
  status = (if is_met e was then Success else Infeasible);
  value = was;
  action = (if is_met e was then desired_action d else Keep);
}

-- what an exchanger holds: what it expects and desires, and the value that it found
pub record Exchanging : Type 0 where
  pub expected : Expected
  pub desired : Desired
  pub found : Option (List ℕ)
