-- What each call of a script replies, by the records at its point and by its worker's iterator.
use Rattle.std.specs.Prelude.{ℕ, Bool, true, false, ◌&&◌, if◌then◌else◌, List, [], ◌∷◌, ◌++◌, length, map, Option, Some, None, is_some, option_map, decimal, ℤ}
use Rattle.std.specs.Fmt.{signed_decimal}
use Rattle.tk_status.specs.declared.Status.TheVariants as statuses
use Rattle.tk_model.specs.Orders.{same_bytes}
use Rattle.tk_model.specs.Records.{find, named}
use Rattle.tk_model.specs.declared.record.Order.{Order}
use Rattle.tk_model.specs.declared.record.Way.TheVariants.{Up, Down}
use Rattle.tk_model.specs.declared.record.Bound.TheVariants.{Edge}
use Rattle.tk_model.specs.declared.record.Action.{Action}
use Rattle.tk_model.specs.declared.record.Action.TheVariants.{Keep, Put, Drop}
use Rattle.tk_model.specs.declared.record.Pair.{Pair}
use Rattle.tk_model.specs.declared.record.Touch.{Touch}
use Rattle.tk_model.specs.declared.record.Entry.{Entry}
use Rattle.tk_model.specs.declared.record.Entry.TheVariants as entries
use Rattle.tk_proc.specs.Replies.{get_reply, set_reply, remove_reply, append_reply, exchange_reply, is_met, desired_action}
use Rattle.tk_proc.specs.Increments.{increment_reply}
use Rattle.tk_proc.specs.Runs.{first_long, touches_by, keys_of}
use Rattle.tk_calls.specs.declared.call.Call.{Call}
use Rattle.tk_calls.specs.declared.call.Call.TheVariants as calls
use Rattle.tk_calls.specs.declared.call.Position.{Position}
use Rattle.tk_calls.specs.declared.call.ExpectedPair.{ExpectedPair}
use Rattle.tk_calls.specs.declared.call.DesiredPair.{DesiredPair}
use Rattle.tk_calls.specs.declared.call.Op.{Op}
use Rattle.tk_calls.specs.declared.call.Op.TheVariants as ops
use Rattle.tk_calls.specs.declared.call.MultiStep.{MultiStep}
use Rattle.tk_calls.specs.declared.call.Step.{Step}
use Rattle.tk_calls.specs.declared.call.Step.TheVariants as steps
use Rattle.tk_calls.specs.declared.call.Plan.{Plan}
use Rattle.tk_calls.specs.declared.call.LineReply.{LineReply}
use Rattle.tk_calls.specs.Planned.{plan, planned, planned_reply, key_reply, unless_too_long, fields_unless_long}
use Rattle.tk_calls.specs.Iterators.{found_or_not, pair_fields, search_reply, found_action, next_reply, previous_reply, iter_get_reply, iter_set_reply, iter_remove_reply, jump_reply, bound_of}

-- several keys

abbrev pub all_there : List (List ℕ) → List Pair → Bool
all_there [] m = true
all_there (k ∷ ks) m = is_some (find k m) && all_there ks m

abbrev pub keep : List ℕ → Plan
keep k = plan k (steps.Always Keep)

abbrev pub get_multi_reply : Order → Position → List (List ℕ) → List Pair → LineReply
get_multi_reply o p ks m = planned_reply o p (found_or_not (all_there ks m)) (map (λ k. find k m) ks) (map keep ks) m

-- all expectations are tried on the records before the call

abbrev pub all_met : List ExpectedPair → List Pair → Bool
all_met [] m = true
all_met (e ∷ es) m = is_met e.form (find e.key m) && all_met es m

abbrev pub expected_plan : ExpectedPair → Plan
expected_plan e = keep e.key

abbrev pub desired_plan : (met : Bool) → DesiredPair → Plan
desired_plan met d = plan d.key (steps.Always (if met then desired_action d.form else Keep))

abbrev pub exchange_multi_reply : Order → Position → List ExpectedPair → List DesiredPair → List Pair → LineReply
exchange_multi_reply o p es ds m =
    planned_reply o p (if all_met es m then statuses.Success else statuses.Infeasible) [] (map expected_plan es ++ map (desired_plan (all_met es m)) ds) m

-- a record gets another key: what becomes of the old one depends on the new one, so it is touched twice

abbrev pub dropped_unless : (copying : Bool) → Action
dropped_unless true = Keep
dropped_unless false = Drop

abbrev pub moved : (from to : List ℕ) → (put drop : Action) → List Plan
moved a b put drop = keep a ∷ plan b (steps.Always put) ∷ plan a (steps.Always drop) ∷ []

abbrev pub rekeyed : Order → Position → (from to : List ℕ) → (overwrite copying : Bool) → Option (List ℕ) → (there : Bool) → List Pair → LineReply
rekeyed o p a b overwrite copying None there m = planned_reply o p statuses.NotFound [] (moved a b Keep Keep) m
rekeyed o p a b false copying (Some v) true m = planned_reply o p statuses.Duplication [] (moved a b Keep Keep) m
rekeyed o p a b true copying (Some v) true m = planned_reply o p statuses.Success [] (moved a b (Put v) (dropped_unless copying)) m
rekeyed o p a b overwrite copying (Some v) false m = planned_reply o p statuses.Success [] (moved a b (Put v) (dropped_unless copying)) m

abbrev pub rekey_reply : Order → Position → (from to : List ℕ) → (overwrite copying : Bool) → List Pair → LineReply
rekey_reply o p a b overwrite copying m =
    if same_bytes a b then planned_reply o p (found_or_not (is_some (find a m))) [] (keep a ∷ []) m
    else rekeyed o p a b overwrite copying (find a m) (is_some (find b m)) m

-- several steps

abbrev pub op_step : Op → Step
op_step ops.Get = steps.Get
op_step (ops.Set v) = steps.Set v
op_step (ops.Add v) = steps.Add v
op_step (ops.Append v) = steps.Append v []
op_step ops.Remove = steps.Remove

abbrev pub multi_plan : MultiStep → Plan
multi_plan t = plan t.key (op_step t.op)

abbrev pub multi_reply : Order → Position → List MultiStep → List Pair → LineReply
multi_reply o p ts m = planned_reply o p statuses.Success (map (λ t. t.was) (planned o (map multi_plan ts) m)) (map multi_plan ts) m

-- every record

abbrev pub each_touch : List ℕ → Pair → Touch
each_touch v p = record { key = p.key; was = Some p.value; action = (append_reply v [] (Some p.value)).action }

abbrev pub each_reply : Position → List ℕ → List Pair → LineReply
each_reply p v m = record {
  status = unless_too_long (first_long (map (each_touch v) m)) statuses.Success;
  fields = fields_unless_long (first_long (map (each_touch v) m)) (Some (decimal (length m)) ∷ []);
  entry = entries.Each (touches_by (first_long (map (each_touch v) m)) (keys_of m) m (map (each_touch v) m));
  position = p;
}

abbrev pub pop_reply : Position → Option Pair → LineReply
pop_reply p found = record { status = found_or_not (is_some found); fields = pair_fields found; entry = entries.Next Up Edge found (found_action found Drop); position = p }

abbrev pub plain_reply : Position → List (Option (List ℕ)) → Entry → LineReply
plain_reply p fields e = record { status = statuses.Success; fields = fields; entry = e; position = p }

abbrev pub number_field : Option ℤ → Option (List ℕ)
number_field n = option_map signed_decimal n

-- the reply of a call on these records, with its worker's iterator here
unfoldable pub reply_of : Order → Call → Position → List Pair → LineReply
reply_of o (calls.Get k) p m = key_reply o p (get_reply (find k m)).status ((get_reply (find k m)).value ∷ []) k steps.Get m
reply_of o (calls.GetMulti ks) p m = get_multi_reply o p ks m
reply_of o (calls.Set k v) p m = key_reply o p (set_reply v true (find k m)).status [] k (steps.Set v) m
reply_of o (calls.Add k v) p m = key_reply o p (set_reply v false (find k m)).status [] k (steps.Add v) m
reply_of o (calls.Remove k) p m = key_reply o p (remove_reply (find k m)).status [] k steps.Remove m
reply_of o (calls.Append k v d) p m = key_reply o p (append_reply v d (find k m)).status [] k (steps.Append v d) m
reply_of o (calls.CompareExchange k e d) p m = key_reply o p (exchange_reply e d (find k m)).status ((exchange_reply e d (find k m)).value ∷ []) k (steps.Exchange e d) m
reply_of o (calls.CompareExchangeMulti es ds) p m = exchange_multi_reply o p es ds m
reply_of o (calls.Increment k n i) p m = key_reply o p (increment_reply n i (find k m)).status (number_field (increment_reply n i (find k m)).number ∷ []) k (steps.Increment n i) m
reply_of o (calls.Rekey a b overwrite copying) p m = rekey_reply o p a b overwrite copying m
reply_of o calls.Pop p m = pop_reply p (named o Up Edge m)
reply_of o (calls.Multi ts) p m = multi_reply o p ts m
reply_of o (calls.Each v) p m = each_reply p v m
reply_of o calls.Count p m = plain_reply p (Some (decimal (length m)) ∷ []) (entries.Count (length m))
reply_of o calls.Clear p m = plain_reply p [] entries.Clear
reply_of o (calls.Sync hard) p m = plain_reply p [] (entries.Sync hard)
reply_of o calls.First p m = search_reply o Up Edge m
reply_of o calls.Last p m = search_reply o Down Edge m
reply_of o calls.Next p m = next_reply o p m
reply_of o calls.Previous p m = previous_reply o p m
reply_of o calls.IterRemove p m = iter_remove_reply o p m
reply_of o (calls.Jump k) p m = jump_reply o k m
reply_of o (calls.Lower k inclusive) p m = search_reply o Down (bound_of inclusive k) m
reply_of o (calls.Upper k inclusive) p m = search_reply o Up (bound_of inclusive k) m
reply_of o calls.IterGet p m = iter_get_reply o p m
reply_of o (calls.IterSet v) p m = iter_set_reply o v p m
