-- Lines as they are written: a script is made of these.
use Rattle.std.specs.Prelude.{◌≡◌, ℕ, ◌+◌, ◌<◌, ◌≤◌, ◌&&◌, nat_lt, nat_le, Bool, true, false, not, List, [], ◌∷◌, ◌++◌, length, Some, decimal, codes}
use Rattle.std.specs.Fmt.{signed_decimal}
use Rattle.std.specs.List.{flat_map}
use Rattle.tk_flat.specs.Escapes.{escaped, unescaped}
use Rattle.tk_proc.specs.Increments.{is_in_64_bits}
use Rattle.tk_proc.specs.declared.exchange.Expected.{Expected}
use Rattle.tk_proc.specs.declared.exchange.Expected.TheVariants as expectations
use Rattle.tk_proc.specs.declared.exchange.Desired.{Desired}
use Rattle.tk_proc.specs.declared.exchange.Desired.TheVariants as wishes
use Rattle.tk_calls.specs.declared.call.Call.{Call}
use Rattle.tk_calls.specs.declared.call.Call.TheVariants as calls
use Rattle.tk_calls.specs.declared.call.ExpectedPair.{ExpectedPair}
use Rattle.tk_calls.specs.declared.call.DesiredPair.{DesiredPair}
use Rattle.tk_calls.specs.declared.call.Op.{Op}
use Rattle.tk_calls.specs.declared.call.Op.TheVariants as ops
use Rattle.tk_calls.specs.declared.call.MultiStep.{MultiStep}
use Rattle.tk_calls.specs.Calls.{is_of_iterator}
use Rattle.tk_batch.specs.declared.line.Line.{Line}
use Rattle.tk_batch.specs.declared.line.ScriptRules.{ScriptRules}
use Rattle.tk_batch.specs.Arguments.{is_key, is_value, all_keys}
use Rattle.tk_batch.specs.Script.{line_in}

-- fields with a TAB behind each but the last
abbrev pub joined : List ℕ → List (List ℕ) → List ℕ
joined f [] = escaped f
joined f (g ∷ gs) = escaped f ++ (9 ∷ joined g gs)

-- a TAB before each field
abbrev pub tabbed : List (List ℕ) → List ℕ
tabbed fields = flat_map (λ f. 9 ∷ escaped f) fields

abbrev pub expected_word : Expected → List ℕ
expected_word expectations.Absent = codes "absent"
expected_word expectations.Any = codes "any"
expected_word (expectations.Value v) = 61 ∷ v

abbrev pub desired_word : Desired → List ℕ
desired_word wishes.Remove = codes "remove"
desired_word wishes.Leave = codes "leave"
desired_word (wishes.Value v) = 61 ∷ v

abbrev pub mode_word : (hard : Bool) → List ℕ
mode_word true = codes "hard"
mode_word false = codes "soft"

abbrev pub flag_word : Bool → List ℕ
flag_word true = codes "1"
flag_word false = codes "0"

abbrev pub rekey_word : (overwrite copying : Bool) → List ℕ
rekey_word false false = codes "-"
rekey_word true false = codes "o"
rekey_word false true = codes "c"
rekey_word true true = codes "oc"

abbrev pub op_word : Op → List ℕ
op_word ops.Get = codes "get"
op_word (ops.Set v) = codes "set"
op_word (ops.Add v) = codes "add"
op_word (ops.Append v) = codes "append"
op_word ops.Remove = codes "remove"

abbrev pub op_value : Op → List ℕ
op_value ops.Get = []
op_value (ops.Set v) = v
op_value (ops.Add v) = v
op_value (ops.Append v) = v
op_value ops.Remove = []

abbrev pub expected_fields : List ExpectedPair → List (List ℕ)
expected_fields [] = []
expected_fields (e ∷ es) = e.key ∷ expected_word e.form ∷ expected_fields es

abbrev pub desired_fields : List DesiredPair → List (List ℕ)
desired_fields [] = []
desired_fields (d ∷ ds) = d.key ∷ desired_word d.form ∷ desired_fields ds

abbrev pub step_fields : List MultiStep → List (List ℕ)
step_fields [] = []
step_fields (t ∷ ts) = op_word t.op ∷ t.key ∷ op_value t.op ∷ step_fields ts

abbrev pub name_of : Call → List ℕ
name_of (calls.Get k) = codes "get"
name_of (calls.GetMulti ks) = codes "getmulti"
name_of (calls.Set k v) = codes "set"
name_of (calls.Add k v) = codes "add"
name_of (calls.Remove k) = codes "remove"
name_of (calls.Append k v d) = codes "append"
name_of (calls.CompareExchange k e d) = codes "cas"
name_of (calls.CompareExchangeMulti es ds) = codes "casmulti"
name_of (calls.Increment k n i) = codes "increment"
name_of (calls.Rekey a b overwrite copying) = codes "rekey"
name_of calls.Pop = codes "pop"
name_of (calls.Multi ts) = codes "multi"
name_of (calls.Each v) = codes "each"
name_of calls.Count = codes "count"
name_of calls.Clear = codes "clear"
name_of (calls.Sync hard) = codes "sync"
name_of calls.First = codes "first"
name_of calls.Last = codes "last"
name_of calls.Next = codes "next"
name_of calls.Previous = codes "previous"
name_of calls.IterRemove = codes "iremove"
name_of (calls.Jump k) = codes "jump"
name_of (calls.Lower k inclusive) = codes "lower"
name_of (calls.Upper k inclusive) = codes "upper"
name_of calls.IterGet = codes "iget"
name_of (calls.IterSet v) = codes "iset"

abbrev pub args_of : Call → List (List ℕ)
args_of (calls.Get k) = k ∷ []
args_of (calls.GetMulti ks) = ks
args_of (calls.Set k v) = k ∷ v ∷ []
args_of (calls.Add k v) = k ∷ v ∷ []
args_of (calls.Remove k) = k ∷ []
args_of (calls.Append k v d) = k ∷ v ∷ d ∷ []
args_of (calls.CompareExchange k e d) = k ∷ expected_word e ∷ desired_word d ∷ []
args_of (calls.CompareExchangeMulti es ds) = decimal (length es) ∷ (expected_fields es ++ desired_fields ds)
args_of (calls.Increment k n i) = k ∷ signed_decimal n ∷ signed_decimal i ∷ []
args_of (calls.Rekey a b overwrite copying) = a ∷ b ∷ rekey_word overwrite copying ∷ []
args_of (calls.Multi ts) = step_fields ts
args_of (calls.Each v) = v ∷ []
args_of (calls.Sync hard) = mode_word hard ∷ []
args_of (calls.Jump k) = k ∷ []
args_of (calls.Lower k inclusive) = k ∷ flag_word inclusive ∷ []
args_of (calls.Upper k inclusive) = k ∷ flag_word inclusive ∷ []
args_of (calls.IterSet v) = v ∷ []
args_of c = []

-- the fields of a line
abbrev pub words_of : Line → List (List ℕ)
words_of l = decimal l.worker ∷ name_of l.call ∷ args_of l.call

-- the text of a line, without its LF
unfoldable pub line_body : Line → List ℕ
line_body l = joined (decimal l.worker) (name_of l.call ∷ args_of l.call)

-- calls within the limits

abbrev pub expected_fits : Expected → Bool
expected_fits expectations.Absent = true
expected_fits expectations.Any = true
expected_fits (expectations.Value v) = is_value v

abbrev pub desired_fits : Desired → Bool
desired_fits wishes.Remove = true
desired_fits wishes.Leave = true
desired_fits (wishes.Value v) = is_value v

abbrev pub all_expected_fit : List ExpectedPair → Bool
all_expected_fit [] = true
all_expected_fit (e ∷ es) = is_key e.key && (expected_fits e.form && all_expected_fit es)

abbrev pub all_desired_fit : List DesiredPair → Bool
all_desired_fit [] = true
all_desired_fit (d ∷ ds) = is_key d.key && (desired_fits d.form && all_desired_fit ds)

abbrev pub all_steps_fit : List MultiStep → Bool
all_steps_fit [] = true
all_steps_fit (t ∷ ts) = is_key t.key && (is_value (op_value t.op) && all_steps_fit ts)

abbrev pub is_within : Call → Bool
is_within (calls.Get k) = is_key k
is_within (calls.GetMulti ks) = nat_lt 0 (length ks) && nat_le (length ks) 256 && all_keys ks
is_within (calls.Set k v) = is_key k && is_value v
is_within (calls.Add k v) = is_key k && is_value v
is_within (calls.Remove k) = is_key k
is_within (calls.Append k v d) = is_key k && is_value v
is_within (calls.CompareExchange k e d) = is_key k && (expected_fits e && desired_fits d)
is_within (calls.CompareExchangeMulti es ds) = nat_le (length es) 256 && (nat_le (length ds) 256 && nat_lt 0 (length es + length ds) && (all_expected_fit es && all_desired_fit ds))
is_within (calls.Increment k n i) = is_key k && (is_in_64_bits n && is_in_64_bits i)
is_within (calls.Rekey a b overwrite copying) = is_key a && is_key b
is_within (calls.Multi ts) = nat_lt 0 (length ts) && nat_le (length ts) 256 && all_steps_fit ts
is_within (calls.Each v) = is_value v
is_within (calls.Jump k) = is_key k
is_within (calls.Lower k inclusive) = is_key k
is_within (calls.Upper k inclusive) = is_key k
is_within (calls.IterSet v) = is_value v
is_within c = true

-- a line that the rules take
pub record Takes (r : ScriptRules) (l : Line) : Type 0 where
  pub worker : l.worker < r.workers
  pub workers : r.workers ≤ 64
  pub within : is_within l.call ≡ true
  pub iterators : (is_of_iterator l.call && not r.iterators) ≡ false

-- a field is read as it was written
abbrev pub IsBack : List ℕ → Type 0
IsBack f = unescaped (escaped f) ≡ Some f

abbrev pub AllBack : List (List ℕ) → Type 0
AllBack [] = Unit {0}
AllBack (f ∷ fs) = IsBack f × AllBack fs

-- a line is read as it was written, wherever the rules take it
abbrev pub IsReadBack : Line → Type 0
IsReadBack l = (r : ScriptRules) → Takes r l → line_in r (line_body l) ≡ Some l

-- a line whose fields are read as they were written is read so too
abbrev pub LinesAreReadBack : Type 0
LinesAreReadBack = (r : ScriptRules) (l : Line) → Takes r l → AllBack (words_of l) → line_in r (line_body l) ≡ Some l
