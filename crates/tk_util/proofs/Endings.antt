-- How a command ends, by its call and by giving its disk back.
use Rattle.std.proofs.Common.{◌≡◌, ◌≢◌, ℕ, Bool, true, false, List, [], refl, sym, ◌∙◌, ap, subst, inl, inr, if◌then◌else◌}
use Rattle.std.specs.Prelude.{Option, Some, None, IsSome, IfSome, IfNone, OnSome, IfOk, Result, Ok, Err, ◌⊎◌, ◌==◌}
use Rattle.tk_disk.specs.Folder.{or_empty, SameBut}
use Rattle.tk_disk.specs.Disk.{Rose}
use Rattle.tk_disk.specs.declared.disk.DiskError.{DiskError}
use Rattle.tk_status.specs.declared.Status.{Status}
use Rattle.tk_status.specs.declared.finish.Finish.{Finish}
use Rattle.tk_status.specs.Finish.{ended, refused_at, answered, ended_by}
use Rattle.tk_status.specs.Statuses.{number_of}
use Rattle.tk_proc.specs.Replies.{Reply, get_reply}
use Rattle.tk_util.specs.declared.call.Stop.{Stop}
use Rattle.tk_util.specs.declared.call.Stop.TheVariants as stops
use Rattle.tk_model.specs.declared.error.OpenError.TheVariants.{NotADatabase}
use Rattle.tk_append.specs.Opening.{first_fault}
use Rattle.tk_util.specs.Calls.{RefusedAt, HoldsDatabase}
use Rattle.tk_util.specs.Ran.{Replied, RanCall, IsClear, value_in}
use Rattle.tk_util.specs.Done.{IsMade, CallDone}
use Rattle.tk_util.specs.Ends.{call_end}

pub from_none : {T : Type 0} {P : Type 0} (o : Option T) → o ≡ None → IfNone o P → P
from_none {P = P} o is p = subst (λ x. IfNone x P) is p

pub from_some : {T : Type 0} (P : T → Type 0) (o : Option T) (d : T) → o ≡ Some d → IfSome o P → P d
from_some P o d is p = subst (λ x. IfSome x P) is p

pub on_some : {T : Type 0} {P : Type 0} (o : Option T) (d : T) → o ≡ Some d → OnSome o P → P
on_some {P = P} o d is p = subst (λ x. OnSome x P) is p

pub two_names : {A : Type 0} (name : List ℕ) (a b c : List ℕ → A) → SameBut name a b → SameBut name b c → SameBut name a c
two_names name a b c first second = λ m ne. second m ne ∙ first m ne

pub there : (before : Option (List ℕ)) → IsSome before → before ≡ Some (or_empty before)
there None some = absurd (cc some)
there (Some f) some = refl

pub has_bytes : (before : Option (List ℕ)) → or_empty before ≢ [] → before ≡ Some (or_empty before)
has_bytes None some = absurd (some refl)
has_bytes (Some f) some = refl

by_number : (b : Bool) (n k : ℕ) → k ≢ 0 → k ≢ 6 → (if b then ended 0 else answered n).status ≡ k → ⊥
by_number true n k zero six e = zero (sym e)
by_number false n k zero six e = six (sym e)

-- a call's status ends with 0 or 6
pub other_status : (s : Status) (finish : Finish) (k : ℕ) → k ≢ 0 → k ≢ 6 → finish ≡ ended_by s → finish.status ≡ k → ⊥
other_status s finish k zero six is e = by_number (number_of s == 0) (number_of s) k zero six (ap (λ (x : Finish). x.status) (sym is) ∙ e)

-- a finish of another status
pub not_status : (finish other : Finish) (k : ℕ) → finish ≡ other → other.status ≢ k → finish.status ≡ k → ⊥
not_status finish other k is ne e = ne (ap (λ (x : Finish). x.status) (sym is) ∙ e)

module _ (writable : Bool) (reply : Option (List ℕ) → Reply) (key : List ℕ) (before after o1 : Option (List ℕ)) (finish : Finish) (some : before ≡ Some (or_empty before)) (given_is : after ≡ o1) where
  replied : (was : Option (List ℕ)) (s : Status) → IsMade writable reply key (or_empty before) o1 was → s ≡ (reply was).status → finish ≡ ended_by s → Replied writable reply key (or_empty before) after finish
  replied was s m e is = record {
    holds = m.holds;
    ends = is ∙ ap ended_by (e ∙ ap (λ (w : Option (List ℕ)). (reply w).status) m.was_is);
    room = m.room;
    after_is = given_is ∙ m.after_is;
  }

  -- one that ended with a fault
  fault_end : finish ≡ ended 4 → RanCall writable reply key before after finish
  fault_end is = record {
    done = λ e. absurd (not_status finish (ended 4) 0 is (λ h. cc h) e);
    answers = λ e. absurd (not_status finish (ended 4) 6 is (λ h. cc h) e);
    refused = λ e. absurd (not_status finish (ended 4) 3 is (λ h. cc h) e);
    no_memory = λ e. absurd (not_status finish (ended 4) 5 is (λ h. cc h) e);
  }

  pub ran : (answer : Result Status Stop) (given : Result (Unit {0}) DiskError) → CallDone writable reply key (or_empty before) o1 answer → finish ≡ call_end answer given → RanCall writable reply key before after finish
  ran (Ok s) (Ok g) done is =
      let r = replied done.0 s done.1 done.2 is in
      record {
        done = λ e. r;
        answers = λ e. inl r;
        refused = λ e. absurd (other_status s finish 3 (λ h. cc h) (λ h. cc h) is e);
        no_memory = λ e. absurd (other_status s finish 5 (λ h. cc h) (λ h. cc h) is e);
      }
  ran (Ok s) (Err e) done is = fault_end is
  ran (Err (stops.Refused place)) given done is = record {
    done = λ e. absurd (not_status finish (refused_at 0 place) 0 is (λ h. cc h) e);
    answers = λ e. absurd (not_status finish (refused_at 0 place) 6 is (λ h. cc h) e);
    refused = λ e. record {
      at = subst (λ (n : ℕ). RefusedAt writable (or_empty before) n) (sym (ap (λ (x : Finish). x.place) is)) done.0;
      ends = is ∙ ap (λ (n : ℕ). refused_at 0 n) (sym (ap (λ (x : Finish). x.place) is));
      after_is = given_is ∙ done.1 ∙ sym some;
    };
    no_memory = λ e. absurd (not_status finish (refused_at 0 place) 5 is (λ h. cc h) e);
  }
  ran (Err stops.Full) (Ok g) done is = record {
    done = λ e. absurd (not_status finish (answered 21) 0 is (λ h. cc h) e);
    answers = λ e. inr (record { holds = done.holds; ends = is; full = done.full; after_is = given_is ∙ done.after_is });
    refused = λ e. absurd (not_status finish (answered 21) 3 is (λ h. cc h) e);
    no_memory = λ e. absurd (not_status finish (answered 21) 5 is (λ h. cc h) e);
  }
  ran (Err stops.Full) (Err e) done is = fault_end is
  ran (Err stops.Fault) given done is = fault_end is
  ran (Err stops.NoMemory) (Ok g) done is = record {
    done = λ e. absurd (not_status finish (ended 5) 0 is (λ h. cc h) e);
    answers = λ e. absurd (not_status finish (ended 5) 6 is (λ h. cc h) e);
    refused = λ e. absurd (not_status finish (ended 5) 3 is (λ h. cc h) e);
    no_memory = λ e. given_is ∙ done ∙ sym some;
  }
  ran (Err stops.NoMemory) (Err e) done is = fault_end is

pub told_call : (o0 : Option (List ℕ)) (f : List ℕ) (P : List ℕ → Type 0) → o0 ≡ Some f → IfSome o0 P → P f
told_call None f P is p = absurd (cc)
told_call (Some g) f P is p = subst P (cc is) p

-- an absent file is refused
pub ran_absent : (writable : Bool) (reply : Option (List ℕ) → Reply) (key : List ℕ) (before after : Option (List ℕ)) (finish : Finish) → RefusedAt writable [] 0 → before ≡ None → after ≡ before → finish ≡ refused_at 0 0 → RanCall writable reply key before after finish
ran_absent writable reply key before after finish at none same is =
    let empty : [] ≡ or_empty before = ap or_empty (sym none) in
    record {
      done = λ e. absurd (not_status finish (refused_at 0 0) 0 is (λ h. cc h) e);
      answers = λ e. absurd (not_status finish (refused_at 0 0) 6 is (λ h. cc h) e);
      refused = λ e. record {
        at = subst (λ (f : List ℕ). RefusedAt writable f finish.place) empty (subst (λ (n : ℕ). RefusedAt writable [] n) (sym (ap (λ (x : Finish). x.place) is)) at);
        ends = is ∙ ap (λ (n : ℕ). refused_at 0 n) (sym (ap (λ (x : Finish). x.place) is));
        after_is = same;
      };
      no_memory = λ e. absurd (not_status finish (refused_at 0 0) 5 is (λ h. cc h) e);
    }

-- nothing was done, for a fault or want of memory
pub ran_stopped : (writable : Bool) (reply : Option (List ℕ) → Reply) (key : List ℕ) (before after : Option (List ℕ)) (finish : Finish) → (finish ≡ ended 4) ⊎ (finish ≡ ended 5) → after ≡ before → RanCall writable reply key before after finish
ran_stopped writable reply key before after finish (inl is) same = record {
  done = λ e. absurd (not_status finish (ended 4) 0 is (λ h. cc h) e);
  answers = λ e. absurd (not_status finish (ended 4) 6 is (λ h. cc h) e);
  refused = λ e. absurd (not_status finish (ended 4) 3 is (λ h. cc h) e);
  no_memory = λ e. same;
}
ran_stopped writable reply key before after finish (inr is) same = record {
  done = λ e. absurd (not_status finish (ended 5) 0 is (λ h. cc h) e);
  answers = λ e. absurd (not_status finish (ended 5) 6 is (λ h. cc h) e);
  refused = λ e. absurd (not_status finish (ended 5) 3 is (λ h. cc h) e);
  no_memory = λ e. same;
}

-- an empty file has no header
pub empty_refused : (writable : Bool) → RefusedAt writable [] 0
unfolding first_fault
empty_refused writable = record { cause = NotADatabase; fault = refl; place_is = refl }

-- the end of a call doesn't say that a file is there
pub never_there : (answer : Result Status Stop) (given : Result (Unit {0}) DiskError) (finish : Finish) → finish ≡ call_end answer given → finish.status ≡ 7 → ⊥
never_there (Ok s) (Ok g) finish is e = other_status s finish 7 (λ h. cc h) (λ h. cc h) is e
never_there (Ok s) (Err x) finish is e = not_status finish (ended 4) 7 is (λ h. cc h) e
never_there (Err (stops.Refused place)) given finish is e = not_status finish (refused_at 0 place) 7 is (λ h. cc h) e
never_there (Err stops.Full) (Ok g) finish is e = not_status finish (answered 21) 7 is (λ h. cc h) e
never_there (Err stops.Full) (Err x) finish is e = not_status finish (ended 4) 7 is (λ h. cc h) e
never_there (Err stops.Fault) given finish is e = not_status finish (ended 4) 7 is (λ h. cc h) e
never_there (Err stops.NoMemory) (Ok g) finish is e = not_status finish (ended 5) 7 is (λ h. cc h) e
never_there (Err stops.NoMemory) (Err x) finish is e = not_status finish (ended 4) 7 is (λ h. cc h) e

-- a value that was found is one
is_found : (value : Option (List ℕ)) (s : Status) (finish : Finish) → s ≡ (get_reply value).status → finish ≡ ended_by s → finish.status ≡ 0 → IsSome value
is_found None s finish replied is e = absurd (not_status finish (answered 7) 0 (is ∙ ap ended_by replied) (λ h. cc h) e)
is_found (Some v) s finish replied is e = refl

-- a look-up that ended well found the value of the file
pub found_call : (key : List ℕ) (f : List ℕ) (o1 value : Option (List ℕ)) (answer : Result Status Stop) (given : Result (Unit {0}) DiskError) (finish : Finish)
    → IfOk answer (λ s. IsMade false get_reply key f o1 value × (s ≡ (get_reply value).status)) → finish ≡ call_end answer given → finish.status ≡ 0 → (h : HoldsDatabase false f) × (value ≡ value_in h.groups key) × IsSome value
found_call key f o1 value (Ok s) (Ok g) finish made is e = (made.0.holds, made.0.was_is, is_found value s finish made.1 is e)
found_call key f o1 value (Ok s) (Err x) finish made is e = absurd (not_status finish (ended 4) 0 is (λ h. cc h) e)
found_call key f o1 value (Err (stops.Refused place)) given finish made is e = absurd (not_status finish (refused_at 0 place) 0 is (λ h. cc h) e)
found_call key f o1 value (Err stops.Full) (Ok g) finish made is e = absurd (not_status finish (answered 21) 0 is (λ h. cc h) e)
found_call key f o1 value (Err stops.Full) (Err x) finish made is e = absurd (not_status finish (ended 4) 0 is (λ h. cc h) e)
found_call key f o1 value (Err stops.Fault) given finish made is e = absurd (not_status finish (ended 4) 0 is (λ h. cc h) e)
found_call key f o1 value (Err stops.NoMemory) (Ok g) finish made is e = absurd (not_status finish (ended 5) 0 is (λ h. cc h) e)
found_call key f o1 value (Err stops.NoMemory) (Err x) finish made is e = absurd (not_status finish (ended 4) 0 is (λ h. cc h) e)

clear_answer : (b : Bool) (n : ℕ) → IsClear (if b then ended 0 else answered n).status
clear_answer true n = inl refl
clear_answer false n = inr (inr (inr refl))

-- the end of a call, where its disk is given back, is no fault unless the call's answer is one
pub no_fault : {R : Finish → Type 0} {P : Type 0} (C : ℕ → Type 0) → ((status : ℕ) → IsClear status → C status) → (answer : Result Status Stop) → (answer ≡ Err stops.Fault → P) → ((finish : Finish) → finish ≡ call_end answer (Ok tt) → R finish)
    → ((end : Finish) × C end.status × R end) ⊎ P
no_fault C clear (Ok s) fault ran = inl (ended_by s, clear (ended_by s).status (clear_answer (number_of s == 0) (number_of s)), ran (ended_by s) refl)
no_fault C clear (Err (stops.Refused place)) fault ran = inl (refused_at 0 place, clear 3 (inr (inl refl)), ran (refused_at 0 place) refl)
no_fault C clear (Err stops.Full) fault ran = inl (answered 21, clear 6 (inr (inr (inr refl))), ran (answered 21) refl)
no_fault C clear (Err stops.Fault) fault ran = inr (fault refl)
no_fault C clear (Err stops.NoMemory) fault ran = inl (ended 5, clear 5 (inr (inr (inl refl))), ran (ended 5) refl)

pub rose_moved : (p q old new : ℕ) → p ≡ old → new ≡ q → Rose p q → Rose old new
rose_moved p q old new first last rose = subst (λ (n : ℕ). Rose n new) first (subst (λ (n : ℕ). Rose p n) (sym last) rose)
