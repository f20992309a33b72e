-- `set` on a file that has bytes.
use Rattle.std.proofs.Common.{◌≡◌, ◌≢◌, ℕ, true, List, [], refl, sym, ◌∙◌, ap, subst}
use Rattle.std.specs.Prelude.{Option, Some, None, IfSome, OnOk, Result, Ok, Err}
use Rattle.tk_disk.specs.declared.disk.DiskError.{DiskError}
use Rattle.tk_status.specs.declared.Status.{Status}
use Rattle.tk_status.specs.declared.Status.TheVariants.{Success}
use Rattle.tk_status.specs.declared.finish.Finish.{Finish}
use Rattle.tk_status.specs.Finish.{ended, refused_at, answered}
use Rattle.tk_util.specs.declared.call.Stop.{Stop}
use Rattle.tk_util.specs.declared.call.Stop.TheVariants as stops
use Rattle.tk_util.specs.Done.{FreshAnswer, CallDone, SetDone}
use Rattle.tk_util.specs.Ends.{call_end}
use Rattle.tk_util.proofs.Endings.{not_status, other_status}
use Rattle.tk_proc.specs.Replies.{set_reply}

memory_left : (value key f : List ℕ) (after : Option (List ℕ)) (answer : Result Status Stop) → CallDone true (set_reply value true) key f after answer → answer ≡ Err stops.NoMemory → after ≡ Some f
memory_left value key f after answer done is = subst (λ (a : Result Status Stop). CallDone true (set_reply value true) key f after a) is done

-- a call on a file that has bytes
pub set_moved : (key value : List ℕ) (o m after : Option (List ℕ)) (answer : Result Status Stop) → IfSome o (λ f. f ≢ []) → IfSome o (λ f. f ≢ [] → m ≡ o) → IfSome m (λ f. CallDone true (set_reply value true) key f after answer) → IfSome o (λ f. SetDone key value f after answer)
set_moved key value None m after answer some same done = tt
set_moved key value (Some f) m after answer some same done =
    let call : CallDone true (set_reply value true) key f after answer = subst (λ (x : Option (List ℕ)). IfSome x (λ f. CallDone true (set_reply value true) key f after answer)) (same some) done in
    record { fresh = λ empty. absurd (some empty); fresh_ends = λ empty. absurd (some empty); more = λ _. call; no_memory = memory_left value key f after answer call }

-- a command that ended well made its call
pub ok_fresh : (answer : Result Status Stop) (given : Result (Unit {0}) DiskError) (finish : Finish) (P : Type 0) → finish ≡ call_end answer given → finish.status ≡ 0 → OnOk answer P → P
ok_fresh (Ok s) given finish P is e p = p
ok_fresh (Err (stops.Refused place)) given finish P is e p = absurd (not_status finish (refused_at 0 place) 0 is (λ h. cc h) e)
ok_fresh (Err stops.Full) (Ok g) finish P is e p = absurd (not_status finish (answered 21) 0 is (λ h. cc h) e)
ok_fresh (Err stops.Full) (Err x) finish P is e p = absurd (not_status finish (ended 4) 0 is (λ h. cc h) e)
ok_fresh (Err stops.Fault) given finish P is e p = absurd (not_status finish (ended 4) 0 is (λ h. cc h) e)
ok_fresh (Err stops.NoMemory) (Ok g) finish P is e p = absurd (not_status finish (ended 5) 0 is (λ h. cc h) e)
ok_fresh (Err stops.NoMemory) (Err x) finish P is e p = absurd (not_status finish (ended 4) 0 is (λ h. cc h) e)

success_end : (given : Result (Unit {0}) DiskError) (finish : Finish) (k : ℕ) → k ≢ 0 → k ≢ 4 → finish ≡ call_end (Ok Success) given → finish.status ≡ k → ⊥
success_end (Ok g) finish k zero four is e = not_status finish (ended 0) k is (λ h. zero (sym h)) e
success_end (Err x) finish k zero four is e = not_status finish (ended 4) k is (λ h. four (sym h)) e

-- on an empty file the end is none of a refusal or of a full file
pub fresh_end : (answer : Result Status Stop) (given : Result (Unit {0}) DiskError) (finish : Finish) → FreshAnswer answer → finish ≡ call_end answer given → (finish.status ≢ 3) × (finish.status ≢ 6)
fresh_end (Ok s) given finish fresh is =
    let well : finish ≡ call_end (Ok Success) given = is ∙ ap (λ (x : Status). call_end (Ok x) given) fresh in
    (success_end given finish 3 (λ h. cc h) (λ h. cc h) well, success_end given finish 6 (λ h. cc h) (λ h. cc h) well)
fresh_end (Err (stops.Refused place)) given finish fresh is = absurd fresh
fresh_end (Err stops.Full) given finish fresh is = absurd fresh
fresh_end (Err stops.Fault) given finish fresh is = (not_status finish (ended 4) 3 is (λ h. cc h), not_status finish (ended 4) 6 is (λ h. cc h))
fresh_end (Err stops.NoMemory) (Ok g) finish fresh is = (not_status finish (ended 5) 3 is (λ h. cc h), not_status finish (ended 5) 6 is (λ h. cc h))
fresh_end (Err stops.NoMemory) (Err x) finish fresh is = (not_status finish (ended 4) 3 is (λ h. cc h), not_status finish (ended 4) 6 is (λ h. cc h))

-- want of memory is of the call
pub memory_end : (answer : Result Status Stop) (given : Result (Unit {0}) DiskError) (finish : Finish) → finish ≡ call_end answer given → finish.status ≡ 5 → answer ≡ Err stops.NoMemory
memory_end (Ok s) (Ok g) finish is e = absurd (other_status s finish 5 (λ h. cc h) (λ h. cc h) is e)
memory_end (Ok s) (Err x) finish is e = absurd (not_status finish (ended 4) 5 is (λ h. cc h) e)
memory_end (Err (stops.Refused place)) given finish is e = absurd (not_status finish (refused_at 0 place) 5 is (λ h. cc h) e)
memory_end (Err stops.Full) (Ok g) finish is e = absurd (not_status finish (answered 21) 5 is (λ h. cc h) e)
memory_end (Err stops.Full) (Err x) finish is e = absurd (not_status finish (ended 4) 5 is (λ h. cc h) e)
memory_end (Err stops.Fault) given finish is e = absurd (not_status finish (ended 4) 5 is (λ h. cc h) e)
memory_end (Err stops.NoMemory) given finish is e = refl
