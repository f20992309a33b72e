-- Each row says yes or no, and a call that doesn't write keeps what is there.
use Rattle.std.proofs.Common.{◌≡◌, inl, inr, ℕ, Bool, true, false, List, length, ◌==◌, Option, Some, None, ℤ, ◌+ℤ◌, if◌then◌else◌, refl}
use Rattle.tk_status.specs.declared.Status.TheVariants.{Success, InvalidArgument, Infeasible}
use Rattle.tk_model.specs.declared.record.Action.TheVariants.{Keep, Put}
use Rattle.tk_proc.specs.Replies.{is_met}
use Rattle.tk_proc.specs.Increments.{NumberReply, number_in, number_bytes, reads_alone, is_in_64_bits, sum_reply, increment_at, read_reply}
use Rattle.tk_proc.specs.declared.exchange.Expected.{Expected}
use Rattle.tk_proc.specs.declared.exchange.Desired.{Desired}
use Rattle.tk_derived.specs.Rows.{get_row, set_row, remove_row, append_row, exchange_row, increment_row}
use Rattle.tk_derived.proofs.Replied.{IsReply}

pub get_keeps : (was : Option (List ℕ)) → Keep ≡ (get_row was).action
get_keeps (Some v) = refl
get_keeps None = refl

pub get_replies : (was : Option (List ℕ)) → IsReply (get_row was).status
get_replies (Some v) = inl refl
get_replies None = inr refl

pub set_replies : (x : List ℕ) (overwrite : Bool) (was : Option (List ℕ)) → IsReply (set_row x overwrite was).status
set_replies x overwrite None = inl refl
set_replies x true (Some v) = inl refl
set_replies x false (Some v) = inr refl

pub remove_replies : (was : Option (List ℕ)) → IsReply (remove_row was).status
remove_replies (Some v) = inl refl
remove_replies None = inr refl

pub append_succeeds : (x d : List ℕ) (was : Option (List ℕ)) → Success ≡ (append_row x d was).status
append_succeeds x d (Some v) = refl
append_succeeds x d None = refl

pub append_replies : (x d : List ℕ) (was : Option (List ℕ)) → IsReply (append_row x d was).status
append_replies x d (Some v) = inl refl
append_replies x d None = inl refl

pub exchange_replies : (e : Expected) (d : Desired) (was : Option (List ℕ)) → IsReply (exchange_row e d was).status
exchange_replies e d was = go (is_met e was)
  where
    go : (b : Bool) → IsReply (if b then Success else Infeasible)
    go true = inl refl
    go false = inr refl

sum_replies : (z : ℤ) → IsReply (sum_reply z).status
sum_replies z = go (is_in_64_bits z)
  where
    go : (b : Bool) → let r : NumberReply = if b then record { status = Success; number = Some z; action = Put (number_bytes z) } else record { status = Infeasible; number = None; action = Keep } in IsReply r.status
    go true = inl refl
    go false = inr refl

at_replies : (n z : ℤ) → IsReply (increment_at n z).status
at_replies n z = go (reads_alone n)
  where
    go : (b : Bool) → let r : NumberReply = if b then read_reply z else sum_reply (z +ℤ n) in IsReply r.status
    go true = inl refl
    go false = sum_replies (z +ℤ n)

pub increment_replies : (n initial : ℤ) (was : Option (List ℕ)) → IsReply (increment_row n initial was).status
increment_replies n initial None = at_replies n initial
increment_replies n initial (Some v) = go (length v == 8)
  where
    go : (b : Bool) → let r : NumberReply = if b then increment_at n (number_in v) else record { status = InvalidArgument; number = None; action = Keep } in IsReply r.status
    go true = at_replies n (number_in v)
    go false = inr refl
