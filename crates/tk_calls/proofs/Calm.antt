-- Which statuses replies have, and that calls say what they saw.
use Rattle.std.proofs.Common.{◌≡◌, ℕ, Bool, true, false, List, [], ◌∷◌, map, Option, Some, None, refl, ap, ◌∙◌, ◌&&◌}
use Rattle.std.specs.Prelude.{ℤ, ◌+ℤ◌, ◌++◌, is_some, if◌then◌else◌, ◌==◌, length}
use Rattle.tk_status.specs.declared.Status.{Status}
use Rattle.tk_status.specs.declared.Status.TheVariants as statuses
use Rattle.tk_model.specs.Orders.{same_bytes}
use Rattle.tk_model.specs.Records.{find, named}
use Rattle.tk_model.specs.Entries.{all_were, same_value, touched, stored}
use Rattle.tk_model.proofs.KeyOrders.{same_itself}
use Rattle.tk_model.specs.declared.record.Order.{Order}
use Rattle.tk_model.specs.declared.record.Way.TheVariants.{Up}
use Rattle.tk_model.specs.declared.record.Bound.TheVariants.{Edge, Over, From}
use Rattle.tk_model.specs.declared.record.Action.{Action}
use Rattle.tk_model.specs.declared.record.Action.TheVariants.{Keep, Put, Drop}
use Rattle.tk_model.specs.declared.record.Pair.{Pair}
use Rattle.tk_proc.specs.Replies.{get_reply, set_reply, remove_reply, exchange_reply, append_reply, is_met}
use Rattle.tk_proc.specs.Increments.{NumberReply, number_in, number_bytes, is_in_64_bits, reads_alone, read_reply, sum_reply, increment_at, increment_reply}
use Rattle.tk_proc.specs.Runs.{first_long, is_long, status_unless_long}
use Rattle.tk_calls.specs.declared.call.Call.TheVariants as calls
use Rattle.tk_calls.specs.declared.call.LineReply.{LineReply}
use Rattle.tk_calls.specs.declared.call.Plan.{Plan}
use Rattle.tk_calls.specs.declared.call.Position.{Position}
use Rattle.tk_calls.specs.declared.call.Position.TheVariants.{Nowhere, At, After}
use Rattle.tk_calls.specs.declared.call.Step.{Step}
use Rattle.tk_calls.specs.declared.call.Step.TheVariants as steps
use Rattle.tk_calls.specs.Planned.{plan, plan_touch, planned, planned_reply, key_reply, unless_too_long}
use Rattle.tk_calls.specs.Iterators.{is_unordered, found_or_not, found_status, value_fields, removed_place, there_place, search_reply, next_reply, previous_reply, iter_get_reply, iter_set_reply, iter_remove_reply, jump_reply}
use Rattle.tk_calls.specs.Replies.{keep, all_there, all_met, expected_plan, desired_plan, multi_plan, moved, dropped_unless, rekeyed, rekey_reply, each_touch, reply_of}
use Rattle.tk_calls.specs.ReplyLaws.{is_reply, RepliesAreCalm, RepliesSayWhatStandsThere}

unless_calm : (x : Option ℕ) (st : Status) → is_reply st ≡ true → is_reply (unless_too_long x st) ≡ true
unless_calm None st h = h
unless_calm (Some n) st h = refl

found : (b : Bool) → is_reply (found_or_not b) ≡ true
found true = refl
found false = refl

met : (b : Bool) → is_reply (if b then statuses.Success else statuses.Infeasible) ≡ true
met true = refl
met false = refl

got : (was : Option (List ℕ)) → is_reply (get_reply was).status ≡ true
got None = refl
got (Some v) = refl

put : (x : List ℕ) (overwrite : Bool) (was : Option (List ℕ)) → is_reply (set_reply x overwrite was).status ≡ true
put x ow None = refl
put x true (Some v) = refl
put x false (Some v) = refl

appended : (x d : List ℕ) (was : Option (List ℕ)) → is_reply (append_reply x d was).status ≡ true
appended x d None = refl
appended x d (Some v) = refl

gone : (was : Option (List ℕ)) → is_reply (remove_reply was).status ≡ true
gone None = refl
gone (Some v) = refl

short_is : (a : Action) → is_reply (status_unless_long a) ≡ true
short_is a = by_case (is_long a)
  where
    by_case : (b : Bool) → is_reply (if b then statuses.TooLong (stored a) else statuses.Success) ≡ true
    by_case true = refl
    by_case false = refl

found_is : (f : Option Pair) (a : Action) → is_reply (found_status f a) ≡ true
found_is None a = refl
found_is (Some p) a = short_is a

abbrev is_number_reply : NumberReply → Bool
is_number_reply r = is_reply r.status

abbrev is_line_reply : LineReply → Bool
is_line_reply r = is_reply r.status

sum_is : (z : ℤ) → is_reply (sum_reply z).status ≡ true
sum_is z = by_case (is_in_64_bits z)
  where
    by_case : (b : Bool) → is_number_reply (if b then record { status = statuses.Success; number = Some z; action = Put (number_bytes z) } else record { status = statuses.Infeasible; number = None; action = Keep }) ≡ true
    by_case true = refl
    by_case false = refl

at_is : (n z : ℤ) → is_reply (increment_at n z).status ≡ true
at_is n z = by_case (reads_alone n) (sum_is (z +ℤ n))
  where
    by_case : (b : Bool) → is_reply (sum_reply (z +ℤ n)).status ≡ true → is_number_reply (if b then read_reply z else sum_reply (z +ℤ n)) ≡ true
    by_case true h = refl
    by_case false h = h

counted_is : (n i : ℤ) (was : Option (List ℕ)) → is_reply (increment_reply n i was).status ≡ true
counted_is n i None = at_is n i
counted_is n i (Some v) = by_case (length v == 8) (at_is n (number_in v))
  where
    by_case : (b : Bool) → is_reply (increment_at n (number_in v)).status ≡ true → is_number_reply (if b then increment_at n (number_in v) else record { status = statuses.InvalidArgument; number = None; action = Keep }) ≡ true
    by_case true h = h
    by_case false h = refl

planned_calm : (o : Order) (p : Position) (st : Status) (fields : List (Option (List ℕ))) (ps : List Plan) (m : List Pair) → is_reply st ≡ true → is_reply (planned_reply o p st fields ps m).status ≡ true
planned_calm o p st fields ps m h = unless_calm (first_long (planned o ps m)) st h

key_calm : (o : Order) (p : Position) (st : Status) (fields : List (Option (List ℕ))) (k : List ℕ) (step : Step) (m : List Pair) → is_reply st ≡ true → is_reply (key_reply o p st fields k step m).status ≡ true
key_calm o p st fields k step m h = planned_calm o p st fields (plan k step ∷ []) m h

rekeyed_calm : (o : Order) (p : Position) (a b : List ℕ) (ow copying : Bool) (v : Option (List ℕ)) (there : Bool) (m : List Pair) → is_reply (rekeyed o p a b ow copying v there m).status ≡ true
rekeyed_calm o p a b ow copying None there m = planned_calm o p statuses.NotFound [] (moved a b Keep Keep) m refl
rekeyed_calm o p a b false copying (Some v) true m = planned_calm o p statuses.Duplication [] (moved a b Keep Keep) m refl
rekeyed_calm o p a b true copying (Some v) true m = planned_calm o p statuses.Success [] (moved a b (Put v) (dropped_unless copying)) m refl
rekeyed_calm o p a b ow copying (Some v) false m = planned_calm o p statuses.Success [] (moved a b (Put v) (dropped_unless copying)) m refl

rekey_calm : (o : Order) (p : Position) (a b : List ℕ) (ow copying : Bool) (m : List Pair) → is_reply (rekey_reply o p a b ow copying m).status ≡ true
rekey_calm o p a b ow copying m = by_case (same_bytes a b) (planned_calm o p (found_or_not (is_some (find a m))) [] (keep a ∷ []) m (found (is_some (find a m)))) (rekeyed_calm o p a b ow copying (find a m) (is_some (find b m)) m)
  where
    by_case : (t : Bool) → is_reply (planned_reply o p (found_or_not (is_some (find a m))) [] (keep a ∷ []) m).status ≡ true → is_reply (rekeyed o p a b ow copying (find a m) (is_some (find b m)) m).status ≡ true
        → is_line_reply (if t then planned_reply o p (found_or_not (is_some (find a m))) [] (keep a ∷ []) m else rekeyed o p a b ow copying (find a m) (is_some (find b m)) m) ≡ true
    by_case true h k = h
    by_case false h k = k

jump_calm : (o : Order) (k : List ℕ) (m : List Pair) → is_reply (jump_reply o k m).status ≡ true
jump_calm o k m = by_case (is_unordered o) (key_calm o (there_place k (find k m)) (get_reply (find k m)).status [] k steps.Get m (got (find k m)))
  where
    by_case : (t : Bool) → is_reply (key_reply o (there_place k (find k m)) (get_reply (find k m)).status [] k steps.Get m).status ≡ true
        → is_line_reply (if t then key_reply o (there_place k (find k m)) (get_reply (find k m)).status [] k steps.Get m else search_reply o Up (From k) m) ≡ true
    by_case true h = h
    by_case false h = refl

next_calm : (o : Order) (p : Position) (m : List Pair) → is_reply (next_reply o p m).status ≡ true
next_calm o Nowhere m = refl
next_calm o (At k) m = refl
next_calm o (After k) m = found_is (named o Up (Over k) m) Keep

previous_calm : (o : Order) (p : Position) (m : List Pair) → is_reply (previous_reply o p m).status ≡ true
previous_calm o Nowhere m = refl
previous_calm o (At k) m = refl
previous_calm o (After k) m = refl

iter_get_calm : (o : Order) (p : Position) (m : List Pair) → is_reply (iter_get_reply o p m).status ≡ true
iter_get_calm o Nowhere m = refl
iter_get_calm o (At k) m = key_calm o (At k) (get_reply (find k m)).status (value_fields k (find k m)) k steps.Get m (got (find k m))
iter_get_calm o (After k) m = found_is (named o Up (Over k) m) Keep

iter_set_calm : (o : Order) (v : List ℕ) (p : Position) (m : List Pair) → is_reply (iter_set_reply o v p m).status ≡ true
iter_set_calm o v Nowhere m = refl
iter_set_calm o v (At k) m = key_calm o (At k) (found_or_not (is_some (find k m))) [] k (steps.Replace v) m (found (is_some (find k m)))
iter_set_calm o v (After k) m = found_is (named o Up (Over k) m) (Put v)

iter_remove_calm : (o : Order) (p : Position) (m : List Pair) → is_reply (iter_remove_reply o p m).status ≡ true
iter_remove_calm o Nowhere m = refl
iter_remove_calm o (At k) m = key_calm o (removed_place k (find k m)) (remove_reply (find k m)).status [] k steps.Remove m (gone (find k m))
iter_remove_calm o (After k) m = found_is (named o Up (Over k) m) Drop

pub calm : RepliesAreCalm
unfolding reply_of
calm o (calls.Get k) p m = key_calm o p (get_reply (find k m)).status ((get_reply (find k m)).value ∷ []) k steps.Get m (got (find k m))
calm o (calls.GetMulti ks) p m = planned_calm o p (found_or_not (all_there ks m)) (map (λ k. find k m) ks) (map keep ks) m (found (all_there ks m))
calm o (calls.Set k v) p m = key_calm o p (set_reply v true (find k m)).status [] k (steps.Set v) m (put v true (find k m))
calm o (calls.Add k v) p m = key_calm o p (set_reply v false (find k m)).status [] k (steps.Add v) m (put v false (find k m))
calm o (calls.Remove k) p m = key_calm o p (remove_reply (find k m)).status [] k steps.Remove m (gone (find k m))
calm o (calls.Append k x d) p m = key_calm o p (append_reply x d (find k m)).status [] k (steps.Append x d) m (appended x d (find k m))
calm o (calls.CompareExchange k e d) p m = key_calm o p (exchange_reply e d (find k m)).status ((exchange_reply e d (find k m)).value ∷ []) k (steps.Exchange e d) m (met (is_met e (find k m)))
calm o (calls.CompareExchangeMulti es ds) p m = planned_calm o p (if all_met es m then statuses.Success else statuses.Infeasible) [] (map expected_plan es ++ map (desired_plan (all_met es m)) ds) m (met (all_met es m))
calm o (calls.Increment k n i) p m = unless_calm (first_long (planned o (plan k (steps.Increment n i) ∷ []) m)) (increment_reply n i (find k m)).status (counted_is n i (find k m))
calm o (calls.Rekey a b ow copying) p m = rekey_calm o p a b ow copying m
calm o calls.Pop p m = found (is_some (named o Up Edge m))
calm o (calls.Multi ts) p m = planned_calm o p statuses.Success (map (λ t. t.was) (planned o (map multi_plan ts) m)) (map multi_plan ts) m refl
calm o (calls.Each v) p m = unless_calm (first_long (map (each_touch v) m)) statuses.Success refl
calm o calls.Count p m = refl
calm o calls.Clear p m = refl
calm o (calls.Sync hard) p m = refl
calm o calls.First p m = refl
calm o calls.Last p m = refl
calm o calls.Next p m = next_calm o p m
calm o calls.Previous p m = previous_calm o p m
calm o calls.IterRemove p m = iter_remove_calm o p m
calm o (calls.Jump k) p m = jump_calm o k m
calm o (calls.Lower k inclusive) p m = refl
calm o (calls.Upper k inclusive) p m = refl
calm o calls.IterGet p m = iter_get_calm o p m
calm o (calls.IterSet v) p m = iter_set_calm o v p m

value_same : (v : Option (List ℕ)) → same_value v v ≡ true
value_same None = refl
value_same (Some v) = same_itself v

pub seen_all : RepliesSayWhatStandsThere
seen_all o [] m = refl
seen_all o (p ∷ ps) m =
    ap (λ (b : Bool). b && all_were o (planned o ps (touched o p.key (plan_touch p m).action m)) (touched o p.key (plan_touch p m).action m)) (value_same (find p.key m))
    ∙ seen_all o ps (touched o p.key (plan_touch p m).action m)
