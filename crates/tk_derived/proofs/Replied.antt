-- From what the database and the processor tell to the call's row.
use Rattle.std.proofs.Common.{◌≡◌, ◌⊎◌, inl, inr, ◌&&◌, ℕ, Bool, true, false, List, [], ◌∷◌, Option, Some, None, is_some, unwrap_or, if◌then◌else◌, refl, sym, ap, ◌∙◌, subst, ⊎_elim}
use Rattle.std.proofs.Math.Path.{fun_ext}
use Rattle.tk_status.specs.declared.Status.{Status}
use Rattle.tk_status.specs.declared.Status.TheVariants as statuses
use Rattle.tk_model.specs.Records.{find}
use Rattle.tk_model.specs.Entries.{stored}
use Rattle.tk_model.specs.declared.record.Action.{Action}
use Rattle.tk_model.specs.declared.record.Action.TheVariants.{Keep}
use Rattle.tk_model.specs.declared.record.Pair.{Pair}
use Rattle.tk_model.specs.declared.record.Entry.{Entry}
use Rattle.tk_model.specs.declared.record.Entry.TheVariants as entries
use Rattle.tk_proc.specs.Runs.{counted, is_long, unless_long, status_unless_long, touches_by, status_by}
use Rattle.tk_core.proofs.Facts.{by_bool}
use Rattle.tk_locks.specs.View.{View}
use Rattle.tk_dbm.specs.declared.answer.Answer.{Answer}
use Rattle.tk_dbm.specs.Setting.{Setting, records_at, AllTell, uses_key}
use Rattle.tk_dbm.specs.Calls.{Called, is_system}
use Rattle.tk_dbm.specs.Dbm.{AllKeepLaw}
use Rattle.tk_dbm.specs.OneKey.{one, key_entry, key_status, Turned}
use Rattle.tk_derived.specs.Rows.{Row, row_entry, row_status, made_status}
use Rattle.tk_derived.specs.Derived.{Derived, IsTold, is_no, is_mute}
use Rattle.tk_derived.specs.Answering.{succeeded, answered, is_success}

success_is : (st : Status) → is_success st ≡ true → st ≡ statuses.Success
success_is statuses.Success e = refl
success_is (statuses.System faults) e = absurd (cc (e))
success_is statuses.NotImplemented e = absurd (cc (e))
success_is statuses.Precondition e = absurd (cc (e))
success_is statuses.InvalidArgument e = absurd (cc (e))
success_is statuses.NotFound e = absurd (cc (e))
success_is statuses.Infeasible e = absurd (cc (e))
success_is statuses.Duplication e = absurd (cc (e))
success_is (statuses.Broken faults) e = absurd (cc (e))
success_is statuses.NoMemory e = absurd (cc (e))
success_is (statuses.Full size need limit) e = absurd (cc (e))
success_is statuses.Limit e = absurd (cc (e))
success_is (statuses.TooLong length) e = absurd (cc (e))

first_true : (a b : Bool) → (a && b) ≡ true → a ≡ true
first_true true b e = refl
first_true false b e = e

second_true : (a b : Bool) → (a && b) ≡ true → b ≡ true
second_true true b e = e
second_true false b e = absurd (cc (e))

-- a row that says yes or no, and nothing else
abbrev pub IsReply : Status → Type 0
IsReply st = (st ≡ statuses.Success) ⊎ (is_no st ≡ true)

system_mute : (st : Status) → is_system st ≡ true → is_mute st ≡ true
system_mute statuses.Success e = e
system_mute (statuses.System faults) e = refl
system_mute statuses.NotImplemented e = e
system_mute statuses.Precondition e = e
system_mute statuses.InvalidArgument e = e
system_mute statuses.NotFound e = e
system_mute statuses.Infeasible e = e
system_mute statuses.Duplication e = e
system_mute (statuses.Broken faults) e = e
system_mute statuses.NoMemory e = e
system_mute (statuses.Full size need limit) e = e
system_mute statuses.Limit e = e
system_mute (statuses.TooLong length) e = refl

-- the value wasn't too long
short : (r : Row) → statuses.Success ≡ status_unless_long r.action → (if is_long r.action then statuses.TooLong (stored r.action) else r.status) ≡ r.status
short r e = go (is_long r.action) e
  where
    go : (b : Bool) → statuses.Success ≡ (if b then statuses.TooLong (stored r.action) else statuses.Success) → (if b then statuses.TooLong (stored r.action) else r.status) ≡ r.status
    go true e = absurd (cc (e))
    go false e = refl

no_system : (st : Status) → st ≡ statuses.Success → is_system st ≡ true → ⊥
no_system st e h = let f : is_system statuses.Success ≡ true = subst (λ z. is_system z ≡ true) e h in cc

-- the call succeeded, and its processor doesn't say no
row_is : (made : Answer) (st : Status) (r : Row) (n : ℕ) → made.number ≡ Some n → (succeeded made && is_no st) ≡ false → st ≡ r.status → IsReply r.status
    → made.status ≡ status_unless_long r.action → made.status ≡ (if is_long r.action then statuses.TooLong (stored r.action) else r.status)
row_is made st r n e never is fair h = go (is_long r.action) h
  where
    counts : made.status ≡ statuses.Success → succeeded made ≡ true
    counts s = ap (λ (z : Option ℕ). is_some z && is_success made.status) e ∙ ap is_success s

    go : (b : Bool) → made.status ≡ (if b then statuses.TooLong (stored r.action) else statuses.Success) → made.status ≡ (if b then statuses.TooLong (stored r.action) else r.status)
    go true h = h
    go false h = ⊎_elim (λ (y : r.status ≡ statuses.Success). h ∙ sym y)
        (λ (y : is_no r.status ≡ true). let t : (succeeded made && is_no st) ≡ true = ap (λ (z : Bool). z && is_no st) (counts h) ∙ ap is_no is ∙ y in absurd (cc)) fair

same_number : (made : Answer) (st : Status) → (answered made st).number ≡ made.number
same_number made st = go (succeeded made && is_no st)
  where
    go : (b : Bool) → (if b then record { status = st; number = made.number } else made).number ≡ made.number
    go true = refl
    go false = refl

no_number : (made : Answer) → made.number ≡ None → succeeded made ≡ false
no_number made e = ap (λ (z : Option ℕ). is_some z && is_success made.status) e

-- a no is loud, and so is success
loud_no : (st : Status) → is_no st ≡ true → is_mute st ≡ true → ⊥
loud_no statuses.Success e f = cc
loud_no (statuses.System faults) e f = cc
loud_no statuses.NotImplemented e f = cc
loud_no statuses.Precondition e f = cc
loud_no statuses.InvalidArgument e f = cc
loud_no statuses.NotFound e f = cc
loud_no statuses.Infeasible e f = cc
loud_no statuses.Duplication e f = cc
loud_no (statuses.Broken faults) e f = cc
loud_no statuses.NoMemory e f = cc
loud_no (statuses.Full size need limit) e f = cc
loud_no statuses.Limit e f = cc
loud_no (statuses.TooLong length) e f = cc

not_success : (made : Answer) → is_mute made.status ≡ true → succeeded made ≡ false
not_success made e = by_bool (succeeded made) (λ h. let s = success_is made.status (second_true (is_some made.number) (is_success made.status) h) in
    let t : is_mute statuses.Success ≡ true = subst (λ z. is_mute z ≡ true) s e in absurd (cc)) (λ h. h)

no_success : (made : Answer) (st : Status) → is_mute (answered made st).status ≡ true → succeeded made ≡ false
no_success made st e = go (succeeded made && is_no st) refl e
  where
    go : (b : Bool) → (succeeded made && is_no st) ≡ b → is_mute (if b then record { status = st; number = made.number } else made).status ≡ true → succeeded made ≡ false
    go true h e = absurd (loud_no st (second_true (succeeded made) (is_no st) h) e)
    go false h e = not_success made e

not_counted : (made : Answer) (st : Status) → succeeded made ≡ false → answered made st ≡ made
not_counted made st e = ap (λ (b : Bool). if b && is_no st then record { status = st; number = made.number } else made) e

-- success says nothing more than the database did
pub success_is_made : (made : Answer) → answered made statuses.Success ≡ made
success_is_made made = go (succeeded made)
  where
    go : (b : Bool) → (if b && false then record { status = statuses.Success; number = made.number } else made) ≡ made
    go true = refl
    go false = refl

loud_system : (made : Answer) (st : Status) → succeeded made ≡ false → is_mute (answered made st).status ≡ false → is_system made.status ≡ true → ⊥
loud_system made st never loud h = let f : is_mute made.status ≡ false = ap (λ (z : Answer). is_mute z.status) (sym (not_counted made st never)) ∙ loud in
    let t = system_mute made.status h in cc

loud_success : (made : Answer) (st : Status) (n : ℕ) (act : Action) → made.number ≡ Some n → succeeded made ≡ false → is_mute (answered made st).status ≡ false → made.status ≡ status_unless_long act → ⊥
loud_success made st n act e never loud h = go (is_long act) h
  where
    f : is_mute made.status ≡ false
    f = ap (λ (z : Answer). is_mute z.status) (sym (not_counted made st never)) ∙ loud

    go : (b : Bool) → made.status ≡ (if b then statuses.TooLong (stored act) else statuses.Success) → ⊥
    go true h = let t : is_mute made.status ≡ true = ap is_mute h in cc
    go false h = let t : succeeded made ≡ true = ap (λ (z : Option ℕ). is_some z && is_success made.status) e ∙ ap is_success h in cc

module _ {P : Type 0} (acts : P → List ℕ → Option (List ℕ) → Action) (turns : P → List ℕ → Option (List ℕ) → P) (s : Setting)
    (writes : Bool) (p : P) (key : List ℕ) (row : Option (List ℕ) → Row) (same : (was : Option (List ℕ)) → counted writes (acts p key was) ≡ (row was).action) where
  abbrev done : List Pair → Action
  done m = counted writes (acts p key (find key m))

  entry_at : (m : List Pair) → key_entry acts turns s writes p key m ≡ row_entry key row m
  entry_at m = go (is_long (done m)) ∙ ap (λ z. one key (find key m) (unless_long z)) (same (find key m))
    where
      go : (b : Bool) → entries.Proc (touches_by (if b then Some (stored (done m)) else None) (key ∷ []) m (record { key = key; was = find key m; action = done m } ∷ []))
          ≡ one key (find key m) (if b then Keep else done m)
      go true = refl
      go false = refl

  status_at : (m : List Pair) → key_status acts turns s writes p key m ≡ made_status key row m
  status_at m = go (is_long (done m)) ∙ ap status_unless_long (same (find key m))
    where
      go : (b : Bool) → status_by (if b then Some (stored (done m)) else None) ≡ (if b then statuses.TooLong (stored (done m)) else statuses.Success)
      go true = refl
      go false = refl

  pub law_at : AllKeepLaw s (row_entry key row) → AllKeepLaw s (key_entry acts turns s writes p key)
  law_at law = subst (AllKeepLaw s) (sym (fun_ext entry_at)) law

  -- what the processor is behind a call with a number
  pub turned_at : (w : View) (number : Option ℕ) (q : P) → Turned acts turns s p key w number q → (n : ℕ) → number ≡ Some n → AllTell s (uses_key s key) → q ≡ turns p key (find key (records_at s w.caller n))
  turned_at w number q t n e all = subst (λ (z : Option ℕ). Turned acts turns s p key w z q) e t all

  module _ (full : List Entry → Entry → ℕ → ℕ → ℕ → Type 0) (room : List Entry → Entry → Type 0) (v : View) (made : Answer) (w : View)
      (called : Called s full room writes (uses_key s key) (key_status acts turns s writes p key) (key_entry acts turns s writes p key) v made w)
      (fair : (was : Option (List ℕ)) → IsReply (row was).status) where
    called_at : Called s full room writes (uses_key s key) (made_status key row) (row_entry key row) v made w
    called_at = subst (λ (e : List Pair → Entry). Called s full room writes (uses_key s key) (made_status key row) e v made w) (fun_ext entry_at)
        (subst (λ (t : List Pair → Status). Called s full room writes (uses_key s key) t (key_entry acts turns s writes p key) v made w) (fun_ext status_at) called)

    -- the records before the call, and the row there
    abbrev here : ℕ → Row
    here n = row (find key (records_at s w.caller n))

    -- a no counts only of a call that succeeded, whose value wasn't too long
    no_there : (st : Status) (n : ℕ) → made.number ≡ Some n → AllTell s (uses_key s key) → made.status ≡ statuses.Success → st ≡ (here n).status
        → (st ≡ row_status key row (records_at s w.caller n)) ⊎ (is_system st ≡ true)
    no_there st n e all success is = ⊎_elim
        (λ (h : made.status ≡ status_unless_long (here n).action). inl (is ∙ sym (short (here n) (sym success ∙ h))))
        (λ (h : is_system made.status ≡ true). absurd (no_system made.status success h)) (called_at.ends.status_is n e all)

    same_there : (st : Status) (n : ℕ) → made.number ≡ Some n → AllTell s (uses_key s key) → (succeeded made && is_no st) ≡ false → st ≡ (here n).status
        → (made.status ≡ row_status key row (records_at s w.caller n)) ⊎ (is_system made.status ≡ true)
    same_there st n e all never is = ⊎_elim
        (λ (h : made.status ≡ status_unless_long (here n).action). inl (row_is made st (here n) n e never is (fair (find key (records_at s w.caller n))) h))
        (λ (h : is_system made.status ≡ true). inr h) (called_at.ends.status_is n e all)

    pub derives : (st : Status) → ((n : ℕ) → made.number ≡ Some n → AllTell s (uses_key s key) → st ≡ (here n).status)
        → Derived s full room writes key row v (answered made st) w
    derives st is = go (succeeded made && is_no st) refl
      where
        go : (b : Bool) → (succeeded made && is_no st) ≡ b → Derived s full room writes key row v (if b then record { status = st; number = made.number } else made) w
        go true e = record {
          inner = made.status;
          called = called_at;
          status = inr (record {
            success = success_is made.status (second_true (is_some made.number) (is_success made.status) (first_true (succeeded made) (is_no st) e));
            number = first_true (is_some made.number) (is_success made.status) (first_true (succeeded made) (is_no st) e);
            no = second_true (succeeded made) (is_no st) e;
          });
          replied = λ n h all. no_there st n h all (success_is made.status (second_true (is_some made.number) (is_success made.status) (first_true (succeeded made) (is_no st) e))) (is n h all);
        }
        go false e = record {
          inner = made.status;
          called = called_at;
          status = inl refl;
          replied = λ n h all. same_there st n h all e (is n h all);
        }

    -- what is told where the database succeeded, and nothing else
    pub tells : {A : Type 0} (value : Option (List ℕ) → Option A) (st : Status) (old new : A)
        → (succeeded made ≡ false → new ≡ old)
        → ((n : ℕ) → made.number ≡ Some n → AllTell s (uses_key s key) → succeeded made ≡ true → new ≡ unwrap_or (value (find key (records_at s w.caller n))) old)
        → IsTold s key value (answered made st) w old new
    tells value st old new still told = record {
      unnumbered = λ e. still (no_number made (sym (same_number made st) ∙ e));
      mute = λ e. still (no_success made st e);
      told = λ n e loud all. told n (sym (same_number made st) ∙ e) all (by_bool (succeeded made) (λ h. h) (λ h. absurd (⊎_elim
          (λ (t : made.status ≡ status_unless_long (here n).action). loud_success made st n (here n).action (sym (same_number made st) ∙ e) h loud t)
          (λ (t : is_system made.status ≡ true). loud_system made st h loud t) (called_at.ends.status_is n (sym (same_number made st) ∙ e) all))));
    }
