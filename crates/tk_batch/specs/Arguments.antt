-- The arguments of each call, as the bytes of its fields.
use Rattle.std.specs.Prelude.{ℕ, ◌*◌, ◌+◌, ◌==◌, ◌&&◌, nat_le, nat_lt, Bool, true, false, if◌then◌else◌, List, [], ◌∷◌, length, take, drop, ℤ, Option, Some, None, codes}
use Rattle.std.specs.Str.{bytes_eq}
use Rattle.tk_proc.specs.declared.exchange.Expected.{Expected}
use Rattle.tk_proc.specs.declared.exchange.Expected.TheVariants as expectations
use Rattle.tk_proc.specs.declared.exchange.Desired.{Desired}
use Rattle.tk_proc.specs.declared.exchange.Desired.TheVariants as wishes
use Rattle.tk_calls.specs.declared.call.Call.{Call}
use Rattle.tk_calls.specs.declared.call.Call.TheVariants as calls
use Rattle.tk_calls.specs.declared.call.ExpectedPair.{ExpectedPair}
use Rattle.tk_calls.specs.declared.call.DesiredPair.{DesiredPair}
use Rattle.tk_calls.specs.declared.call.Op.{Op}
use Rattle.tk_calls.specs.declared.call.Op.TheVariants as ops
use Rattle.tk_calls.specs.declared.call.MultiStep.{MultiStep}
use Rattle.tk_batch.specs.Numbers.{number_in, at_most, signed_in}

abbrev pub is_word : List ℕ → List ℕ → Bool
is_word word f = bytes_eq f word

abbrev pub is_key : List ℕ → Bool
is_key k = nat_le (length k) 65535

abbrev pub is_value : List ℕ → Bool
is_value v = nat_le (length v) 16777215

abbrev pub all_keys : List (List ℕ) → Bool
all_keys [] = true
all_keys (k ∷ ks) = is_key k && all_keys ks

-- `absent`, `any`, or `=` and a value
abbrev pub expected_value : List ℕ → Option Expected
expected_value [] = None
expected_value (c ∷ v) = if (c == 61) && is_value v then Some (expectations.Value v) else None

abbrev pub expected_in : List ℕ → Option Expected
expected_in f = if is_word (codes "absent") f then Some expectations.Absent else (if is_word (codes "any") f then Some expectations.Any else expected_value f)

-- `remove`, `leave`, or `=` and a value
abbrev pub desired_value : List ℕ → Option Desired
desired_value [] = None
desired_value (c ∷ v) = if (c == 61) && is_value v then Some (wishes.Value v) else None

abbrev pub desired_in : List ℕ → Option Desired
desired_in f = if is_word (codes "remove") f then Some wishes.Remove else (if is_word (codes "leave") f then Some wishes.Leave else desired_value f)

-- a flag is `0` or `1`
abbrev pub flag_in : List ℕ → Option Bool
flag_in f = if is_word (codes "0") f then Some false else (if is_word (codes "1") f then Some true else None)

-- calls without an argument
abbrev pub no_args : Call → List (List ℕ) → Option Call
no_args c [] = Some c
no_args c (a ∷ args) = None

-- calls of one key

abbrev pub get_in : List (List ℕ) → Option Call
get_in (k ∷ []) = if is_key k then Some (calls.Get k) else None
get_in args = None

abbrev pub remove_in : List (List ℕ) → Option Call
remove_in (k ∷ []) = if is_key k then Some (calls.Remove k) else None
remove_in args = None

abbrev pub set_in : List (List ℕ) → Option Call
set_in (k ∷ v ∷ []) = if is_key k && is_value v then Some (calls.Set k v) else None
set_in args = None

abbrev pub add_in : List (List ℕ) → Option Call
add_in (k ∷ v ∷ []) = if is_key k && is_value v then Some (calls.Add k v) else None
add_in args = None

-- a delimiter has no limit of its own
abbrev pub append_in : List (List ℕ) → Option Call
append_in (k ∷ v ∷ d ∷ []) = if is_key k && is_value v then Some (calls.Append k v d) else None
append_in args = None

abbrev pub exchange_by : List ℕ → Option Expected → Option Desired → Option Call
exchange_by k None d = None
exchange_by k (Some e) None = None
exchange_by k (Some e) (Some d) = if is_key k then Some (calls.CompareExchange k e d) else None

abbrev pub exchange_in : List (List ℕ) → Option Call
exchange_in (k ∷ e ∷ d ∷ []) = exchange_by k (expected_in e) (desired_in d)
exchange_in args = None

abbrev pub increment_by : List ℕ → Option ℤ → Option ℤ → Option Call
increment_by k None i = None
increment_by k (Some n) None = None
increment_by k (Some n) (Some i) = if is_key k then Some (calls.Increment k n i) else None

abbrev pub increment_in : List (List ℕ) → Option Call
increment_in (k ∷ n ∷ i ∷ []) = increment_by k (signed_in n) (signed_in i)
increment_in args = None

-- calls of several keys: at most 256

abbrev pub get_multi_in : List (List ℕ) → Option Call
get_multi_in ks = if nat_lt 0 (length ks) && nat_le (length ks) 256 && all_keys ks then Some (calls.GetMulti ks) else None

-- keys, each with a form behind it
abbrev pub with_form : {F P : Type 0} → (make : List ℕ → F → P) → List ℕ → Option F → Option (List P) → Option (List P)
with_form make k None rest = None
with_form make k (Some f) None = None
with_form make k (Some f) (Some ps) = if is_key k then Some (make k f ∷ ps) else None

abbrev pub pairs_in : {F P : Type 0} → (make : List ℕ → F → P) → (read : List ℕ → Option F) → List (List ℕ) → Option (List P)
pairs_in make read [] = Some []
pairs_in make read (k ∷ []) = None
pairs_in make read (k ∷ f ∷ fs) = with_form make k (read f) (pairs_in make read fs)

abbrev pub expected_pair : List ℕ → Expected → ExpectedPair
expected_pair k e = record { key = k; form = e }

abbrev pub desired_pair : List ℕ → Desired → DesiredPair
desired_pair k d = record { key = k; form = d }

abbrev pub expected_pairs : List (List ℕ) → Option (List ExpectedPair)
expected_pairs fields = pairs_in expected_pair expected_in fields

abbrev pub desired_pairs : List (List ℕ) → Option (List DesiredPair)
desired_pairs fields = pairs_in desired_pair desired_in fields

-- at most 256 pairs of each, and one at least
abbrev pub exchange_multi_by : Option (List ExpectedPair) → Option (List DesiredPair) → Option Call
exchange_multi_by None ds = None
exchange_multi_by (Some es) None = None
exchange_multi_by (Some es) (Some ds) = if nat_le (length ds) 256 && nat_lt 0 (length es + length ds) then Some (calls.CompareExchangeMulti es ds) else None

abbrev pub exchange_multi_of : Option ℕ → List (List ℕ) → Option Call
exchange_multi_of None args = None
exchange_multi_of (Some m) args = if nat_le (2 * m) (length args) then exchange_multi_by (expected_pairs (take (2 * m) args)) (desired_pairs (drop (2 * m) args)) else None

-- how many pairs are expected, those, and then those that are desired
abbrev pub exchange_multi_in : List (List ℕ) → Option Call
exchange_multi_in [] = None
exchange_multi_in (m ∷ args) = exchange_multi_of (at_most 256 (number_in m)) args

-- a step that takes no value has an empty one
abbrev pub no_value : Op → List ℕ → Option Op
no_value op [] = Some op
no_value op (b ∷ bs) = None

abbrev pub op_in : (name value : List ℕ) → Option Op
op_in name v =
    if is_word (codes "get") name then no_value ops.Get v
    else (if is_word (codes "set") name then (if is_value v then Some (ops.Set v) else None)
    else (if is_word (codes "add") name then (if is_value v then Some (ops.Add v) else None)
    else (if is_word (codes "append") name then (if is_value v then Some (ops.Append v) else None)
    else (if is_word (codes "remove") name then no_value ops.Remove v
    else None))))

abbrev pub with_step : List ℕ → Option Op → Option (List MultiStep) → Option (List MultiStep)
with_step k None rest = None
with_step k (Some op) None = None
with_step k (Some op) (Some ts) = if is_key k then Some (record { op = op; key = k } ∷ ts) else None

abbrev pub multi_steps : List (List ℕ) → Option (List MultiStep)
multi_steps [] = Some []
multi_steps (name ∷ []) = None
multi_steps (name ∷ k ∷ []) = None
multi_steps (name ∷ k ∷ v ∷ fs) = with_step k (op_in name v) (multi_steps fs)

abbrev pub multi_by : Option (List MultiStep) → Option Call
multi_by None = None
multi_by (Some ts) = if nat_lt 0 (length ts) && nat_le (length ts) 256 then Some (calls.Multi ts) else None

abbrev pub multi_in : List (List ℕ) → Option Call
multi_in args = multi_by (multi_steps args)

abbrev pub rekey_by : (from to flags : List ℕ) → Option Call
rekey_by a b f =
    if is_word (codes "-") f then Some (calls.Rekey a b false false)
    else (if is_word (codes "o") f then Some (calls.Rekey a b true false)
    else (if is_word (codes "c") f then Some (calls.Rekey a b false true)
    else (if is_word (codes "oc") f then Some (calls.Rekey a b true true)
    else None)))

abbrev pub rekey_in : List (List ℕ) → Option Call
rekey_in (a ∷ b ∷ f ∷ []) = if is_key a && is_key b then rekey_by a b f else None
rekey_in args = None

-- calls of all records

abbrev pub each_in : List (List ℕ) → Option Call
each_in (v ∷ []) = if is_value v then Some (calls.Each v) else None
each_in args = None

abbrev pub sync_in : List (List ℕ) → Option Call
sync_in (f ∷ []) = if is_word (codes "hard") f then Some (calls.Sync true) else (if is_word (codes "soft") f then Some (calls.Sync false) else None)
sync_in args = None

-- calls of the iterator

abbrev pub jump_in : List (List ℕ) → Option Call
jump_in (k ∷ []) = if is_key k then Some (calls.Jump k) else None
jump_in args = None

abbrev pub lower_by : List ℕ → Option Bool → Option Call
lower_by k None = None
lower_by k (Some inclusive) = if is_key k then Some (calls.Lower k inclusive) else None

abbrev pub lower_in : List (List ℕ) → Option Call
lower_in (k ∷ f ∷ []) = lower_by k (flag_in f)
lower_in args = None

abbrev pub upper_by : List ℕ → Option Bool → Option Call
upper_by k None = None
upper_by k (Some inclusive) = if is_key k then Some (calls.Upper k inclusive) else None

abbrev pub upper_in : List (List ℕ) → Option Call
upper_in (k ∷ f ∷ []) = upper_by k (flag_in f)
upper_in args = None

abbrev pub iter_set_in : List (List ℕ) → Option Call
iter_set_in (v ∷ []) = if is_value v then Some (calls.IterSet v) else None
iter_set_in args = None
