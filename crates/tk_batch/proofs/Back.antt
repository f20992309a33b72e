-- Lines that were written are read back.
use Rattle.std.proofs.Common.{◌≡◌, ℕ, ◌≤◌, ◌+◌, ◌-◌, ◌*◌, Bool, true, false, nat_lt, nat_le, ◌&&◌, List, [], ◌∷◌, ◌++◌, length, length-append, take, drop, Option, Some, None, refl, sym, ap, ◌∙◌, subst, append_assoc, arith}
use Rattle.std.specs.Prelude.{decimal, if◌then◌else◌}
use Rattle.std.specs.Fmt.{signed_decimal}
use Rattle.std.proofs.lemmas.List.Splits.{slice_split_at, slice_split_none}
use Rattle.std.proofs.lemmas.Bool.{le-leb}
use Rattle.std.proofs.lemmas.Bool.Decides.{nat_tests}
use Rattle.std.proofs.Math.Seq.{take-append_seam, drop-append_seam}
use Rattle.tk_flat.specs.Escapes.{escaped}
use Rattle.tk_flat.specs.Tsv.{is_tab, fields_of}
use Rattle.tk_flat.proofs.LinesBack.{no_tab}
use Rattle.tk_proc.specs.declared.exchange.Expected.{Expected}
use Rattle.tk_proc.specs.declared.exchange.Expected.TheVariants as expectations
use Rattle.tk_proc.specs.declared.exchange.Desired.{Desired}
use Rattle.tk_proc.specs.declared.exchange.Desired.TheVariants as wishes
use Rattle.tk_proc.specs.Increments.{is_in_64_bits}
use Rattle.tk_calls.specs.declared.call.Call.{Call}
use Rattle.tk_calls.specs.declared.call.Call.TheVariants as calls
use Rattle.tk_calls.specs.declared.call.ExpectedPair.{ExpectedPair}
use Rattle.tk_calls.specs.declared.call.DesiredPair.{DesiredPair}
use Rattle.tk_calls.specs.declared.call.Op.{Op}
use Rattle.tk_calls.specs.declared.call.Op.TheVariants as ops
use Rattle.tk_calls.specs.declared.call.MultiStep.{MultiStep}
use Rattle.tk_batch.specs.declared.line.Line.{Line}
use Rattle.tk_batch.specs.Numbers.{number_in, at_most, signed_in}
use Rattle.tk_batch.specs.Arguments.{is_key, is_value, expected_in, desired_in, with_form, expected_pair, desired_pair, expected_pairs, desired_pairs, exchange_by, exchange_multi_by, exchange_multi_of, increment_by, op_in, with_step, multi_steps, multi_by}
use Rattle.tk_batch.specs.Script.{followed, all_unescaped, call_in, taken, line_by, line_from, line_in}
use Rattle.tk_batch.specs.Written.{joined, expected_word, desired_word, op_word, op_value, expected_fields, desired_fields, step_fields, name_of, args_of, line_body, expected_fits, desired_fits, all_expected_fit, all_desired_fit, all_steps_fit, is_within, tabbed, IsBack, AllBack, IsReadBack, LinesAreReadBack}
use Rattle.tk_batch.proofs.Numerals.{small_read, signed_read}
use Rattle.tk_batch.proofs.Tabs.{joined_tabbed}

fields_joined : (f : List ℕ) (fs : List (List ℕ)) → AllBack (f ∷ fs) → all_unescaped (fields_of (joined f fs)) ≡ Some (f ∷ fs)
fields_joined f [] h = ap all_unescaped (slice_split_none is_tab (escaped f) (no_tab f)) ∙ ap (λ (t : Option (List ℕ)). followed t (Some [])) h.0
fields_joined f (g ∷ gs) h =
    ap all_unescaped (slice_split_at is_tab (escaped f) 9 (joined g gs) (no_tab f) refl)
    ∙ (ap (λ (t : Option (List ℕ)). followed t (all_unescaped (fields_of (joined g gs)))) h.0
    ∙ ap (followed (Some f)) (fields_joined g gs h.1))

both : (b a : Bool) → (b && a) ≡ true → (b ≡ true) × (a ≡ true)
both true a e = (refl, e)
both false a e = absurd cc

-- forms

expected_back : (e : Expected) → expected_fits e ≡ true → expected_in (expected_word e) ≡ Some e
expected_back expectations.Absent h = refl
expected_back expectations.Any h = refl
expected_back (expectations.Value v) h = ap (λ (b : Bool). if b then Some (expectations.Value v) else None) h

desired_back : (d : Desired) → desired_fits d ≡ true → desired_in (desired_word d) ≡ Some d
desired_back wishes.Remove h = refl
desired_back wishes.Leave h = refl
desired_back (wishes.Value v) h = ap (λ (b : Bool). if b then Some (wishes.Value v) else None) h

expected_all : (es : List ExpectedPair) → all_expected_fit es ≡ true → expected_pairs (expected_fields es) ≡ Some es
expected_all [] h = refl
expected_all (e ∷ es) h =
    let k = both (is_key e.key) (expected_fits e.form && all_expected_fit es) h in
    let f = both (expected_fits e.form) (all_expected_fit es) k.1 in
    ap (λ (t : Option Expected). with_form expected_pair e.key t (expected_pairs (expected_fields es))) (expected_back e.form f.0)
    ∙ ap (with_form expected_pair e.key (Some e.form)) (expected_all es f.1)
    ∙ ap (λ (b : Bool). if b then Some (e ∷ es) else None) k.0

desired_all : (ds : List DesiredPair) → all_desired_fit ds ≡ true → desired_pairs (desired_fields ds) ≡ Some ds
desired_all [] h = refl
desired_all (d ∷ ds) h =
    let k = both (is_key d.key) (desired_fits d.form && all_desired_fit ds) h in
    let f = both (desired_fits d.form) (all_desired_fit ds) k.1 in
    ap (λ (t : Option Desired). with_form desired_pair d.key t (desired_pairs (desired_fields ds))) (desired_back d.form f.0)
    ∙ ap (with_form desired_pair d.key (Some d.form)) (desired_all ds f.1)
    ∙ ap (λ (b : Bool). if b then Some (d ∷ ds) else None) k.0

expected_length : (es : List ExpectedPair) → length (expected_fields es) ≡ 2 * length es
expected_length [] = refl
expected_length (e ∷ es) = omega (arith, expected_length es)

exchange_multi_back : (es : List ExpectedPair) (ds : List DesiredPair) → is_within (calls.CompareExchangeMulti es ds) ≡ true
    → exchange_multi_of (at_most 256 (number_in (decimal (length es)))) (expected_fields es ++ desired_fields ds) ≡ Some (calls.CompareExchangeMulti es ds)
exchange_multi_back es ds h =
    let few = both (nat_le (length es) 256) ((nat_le (length ds) 256 && nat_lt 0 (length es + length ds)) && (all_expected_fit es && all_desired_fit ds)) h in
    let some = both (nat_le (length ds) 256 && nat_lt 0 (length es + length ds)) (all_expected_fit es && all_desired_fit ds) few.1 in
    let fit = both (all_expected_fit es) (all_desired_fit ds) some.1 in
    let low : length es ≤ 256 = (let t = few.0 in grind (arith, nat_tests)) in
    let args : List (List ℕ) = expected_fields es ++ desired_fields ds in
    let twice : 2 * length es ≡ length (expected_fields es) = sym (expected_length es) in
    let enough : nat_le (2 * length es) (length args) ≡ true = le-leb (2 * length es) (length args) (omega (arith, expected_length es, length-append (expected_fields es) (desired_fields ds))) in
    let front : take (2 * length es) args ≡ expected_fields es = ap (λ (n : ℕ). take n args) twice ∙ take-append_seam (expected_fields es) (desired_fields ds) in
    let end : drop (2 * length es) args ≡ desired_fields ds = ap (λ (n : ℕ). drop n args) twice ∙ drop-append_seam (expected_fields es) (desired_fields ds) in
    ap (λ (m : Option ℕ). exchange_multi_of m args) (small_read 256 (length es) low (omega (arith, low)))
    ∙ ap (λ (b : Bool). if b then exchange_multi_by (expected_pairs (take (2 * length es) args)) (desired_pairs (drop (2 * length es) args)) else None) enough
    ∙ ap (λ (t : List (List ℕ)). exchange_multi_by (expected_pairs t) (desired_pairs (drop (2 * length es) args))) front
    ∙ ap (λ (t : List (List ℕ)). exchange_multi_by (expected_pairs (expected_fields es)) (desired_pairs t)) end
    ∙ ap (λ (t : Option (List ExpectedPair)). exchange_multi_by t (desired_pairs (desired_fields ds))) (expected_all es fit.0)
    ∙ ap (exchange_multi_by (Some es)) (desired_all ds fit.1)
    ∙ ap (λ (b : Bool). if b then Some (calls.CompareExchangeMulti es ds) else None) some.0

-- steps

op_back : (op : Op) → is_value (op_value op) ≡ true → op_in (op_word op) (op_value op) ≡ Some op
op_back ops.Get h = refl
op_back (ops.Set v) h = ap (λ (b : Bool). if b then Some (ops.Set v) else None) h
op_back (ops.Add v) h = ap (λ (b : Bool). if b then Some (ops.Add v) else None) h
op_back (ops.Append v) h = ap (λ (b : Bool). if b then Some (ops.Append v) else None) h
op_back ops.Remove h = refl

steps_all : (ts : List MultiStep) → all_steps_fit ts ≡ true → multi_steps (step_fields ts) ≡ Some ts
steps_all [] h = refl
steps_all (t ∷ ts) h =
    let k = both (is_key t.key) (is_value (op_value t.op) && all_steps_fit ts) h in
    let f = both (is_value (op_value t.op)) (all_steps_fit ts) k.1 in
    ap (λ (o : Option Op). with_step t.key o (multi_steps (step_fields ts))) (op_back t.op f.0)
    ∙ ap (with_step t.key (Some t.op)) (steps_all ts f.1)
    ∙ ap (λ (b : Bool). if b then Some (t ∷ ts) else None) k.0

-- calls

rekey_back : (a b : List ℕ) (overwrite copying : Bool) → is_within (calls.Rekey a b overwrite copying) ≡ true → call_in (name_of (calls.Rekey a b overwrite copying)) (args_of (calls.Rekey a b overwrite copying)) ≡ Some (calls.Rekey a b overwrite copying)
rekey_back a b true true h = ap (λ (t : Bool). if t then Some (calls.Rekey a b true true) else None) h
rekey_back a b true false h = ap (λ (t : Bool). if t then Some (calls.Rekey a b true false) else None) h
rekey_back a b false true h = ap (λ (t : Bool). if t then Some (calls.Rekey a b false true) else None) h
rekey_back a b false false h = ap (λ (t : Bool). if t then Some (calls.Rekey a b false false) else None) h

exchange_back : (k : List ℕ) (e : Expected) (d : Desired) → is_within (calls.CompareExchange k e d) ≡ true → exchange_by k (expected_in (expected_word e)) (desired_in (desired_word d)) ≡ Some (calls.CompareExchange k e d)
exchange_back k e d h =
    let key = both (is_key k) (expected_fits e && desired_fits d) h in
    let fit = both (expected_fits e) (desired_fits d) key.1 in
    ap (λ (t : Option Expected). exchange_by k t (desired_in (desired_word d))) (expected_back e fit.0)
    ∙ ap (exchange_by k (Some e)) (desired_back d fit.1)
    ∙ ap (λ (b : Bool). if b then Some (calls.CompareExchange k e d) else None) key.0

call_read : (c : Call) → is_within c ≡ true → call_in (name_of c) (args_of c) ≡ Some c
call_read (calls.Get k) h = ap (λ (b : Bool). if b then Some (calls.Get k) else None) h
call_read (calls.GetMulti ks) h = ap (λ (b : Bool). if b then Some (calls.GetMulti ks) else None) h
call_read (calls.Set k v) h = ap (λ (b : Bool). if b then Some (calls.Set k v) else None) h
call_read (calls.Add k v) h = ap (λ (b : Bool). if b then Some (calls.Add k v) else None) h
call_read (calls.Remove k) h = ap (λ (b : Bool). if b then Some (calls.Remove k) else None) h
call_read (calls.Append k v d) h = ap (λ (b : Bool). if b then Some (calls.Append k v d) else None) h
call_read (calls.CompareExchange k e d) h = exchange_back k e d h
call_read (calls.CompareExchangeMulti es ds) h = exchange_multi_back es ds h
call_read (calls.Increment k n i) h =
    let key = both (is_key k) (is_in_64_bits n && is_in_64_bits i) h in
    let fit = both (is_in_64_bits n) (is_in_64_bits i) key.1 in
    ap (λ t. increment_by k t (signed_in (signed_decimal i))) (signed_read n fit.0)
    ∙ ap (increment_by k (Some n)) (signed_read i fit.1)
    ∙ ap (λ (b : Bool). if b then Some (calls.Increment k n i) else None) key.0
call_read (calls.Rekey a b overwrite copying) h = rekey_back a b overwrite copying h
call_read calls.Pop h = refl
call_read (calls.Multi ts) h =
    let all = both (nat_lt 0 (length ts) && nat_le (length ts) 256) (all_steps_fit ts) h in
    ap multi_by (steps_all ts all.1) ∙ ap (λ (b : Bool). if b then Some (calls.Multi ts) else None) all.0
call_read (calls.Each v) h = ap (λ (b : Bool). if b then Some (calls.Each v) else None) h
call_read calls.Count h = refl
call_read calls.Clear h = refl
call_read (calls.Sync true) h = refl
call_read (calls.Sync false) h = refl
call_read calls.First h = refl
call_read calls.Last h = refl
call_read calls.Next h = refl
call_read calls.Previous h = refl
call_read calls.IterRemove h = refl
call_read (calls.Jump k) h = ap (λ (b : Bool). if b then Some (calls.Jump k) else None) h
call_read (calls.Lower k true) h = ap (λ (b : Bool). if b then Some (calls.Lower k true) else None) h
call_read (calls.Lower k false) h = ap (λ (b : Bool). if b then Some (calls.Lower k false) else None) h
call_read (calls.Upper k true) h = ap (λ (b : Bool). if b then Some (calls.Upper k true) else None) h
call_read (calls.Upper k false) h = ap (λ (b : Bool). if b then Some (calls.Upper k false) else None) h
call_read calls.IterGet h = refl
call_read (calls.IterSet v) h = ap (λ (b : Bool). if b then Some (calls.IterSet v) else None) h

pub read_back : LinesAreReadBack
unfolding line_in line_body
read_back r l takes back =
    ap (line_from r) (fields_joined (decimal l.worker) (name_of l.call ∷ args_of l.call) back)
    ∙ (ap (λ (w : Option ℕ). line_by w (taken r.iterators (call_in (name_of l.call) (args_of l.call)))) (small_read (r.workers - 1) l.worker (omega (arith, takes.worker)) (omega (arith, takes.worker, takes.workers)))
    ∙ (ap (λ (c : Option Call). line_by (Some l.worker) (taken r.iterators c)) (call_read l.call takes.within)
    ∙ ap (λ (b : Bool). line_by (Some l.worker) (if b then None else Some l.call)) takes.iterators))

-- a line that was put together
pub written : (l : Line) (old a b c : List ℕ) → a ≡ old ++ escaped (decimal l.worker) → b ≡ a ++ tabbed (name_of l.call ∷ args_of l.call) → c ≡ b ++ 10 ∷ [] → c ≡ old ++ (line_body l ++ 10 ∷ [])
unfolding line_body
written l old a b c first more last =
    let words : List ℕ = tabbed (name_of l.call ∷ args_of l.call) in
    last
    ∙ ap (λ (t : List ℕ). t ++ 10 ∷ []) (more ∙ ap (λ (t : List ℕ). t ++ words) first)
    ∙ ap (λ (t : List ℕ). t ++ 10 ∷ []) (append_assoc old (escaped (decimal l.worker)) words)
    ∙ append_assoc old (escaped (decimal l.worker) ++ words) (10 ∷ [])
    ∙ ap (λ (t : List ℕ). old ++ (t ++ 10 ∷ [])) (sym (joined_tabbed (decimal l.worker) (name_of l.call ∷ args_of l.call)))

pub is_read_back : (l : Line) (digits : List ℕ) → digits ≡ decimal l.worker → IsBack digits → AllBack (name_of l.call ∷ args_of l.call) → IsReadBack l
is_read_back l digits is worker call = λ r takes. read_back r l takes (subst IsBack is worker, call)
