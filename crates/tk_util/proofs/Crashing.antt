-- What a crash leaves, by the end of a call.
use Rattle.std.proofs.Common.{◌≡◌, ◌≢◌, ℕ, List, refl, sym, ◌∙◌, subst, inl, inr}
use Rattle.std.specs.Prelude.{Option, Some, None, IfSome, Result, Ok, Err, ◌⊎◌}
use Rattle.tk_model.specs.declared.error.OpenError.{OpenError}
use Rattle.tk_model.specs.declared.error.OpenError.TheVariants as errors
use Rattle.tk_disk.specs.Past.{Past}
use Rattle.tk_disk.specs.Crash.{Within, Only}
use Rattle.tk_disk.specs.declared.disk.DiskError.{DiskError}
use Rattle.tk_status.specs.declared.Status.{Status}
use Rattle.tk_status.specs.declared.finish.Finish.{Finish}
use Rattle.tk_status.specs.Finish.{ended_by}
use Rattle.tk_hash.specs.declared.store.HashStore.{HashStore}
use Rattle.tk_hash.specs.Hash.{HashUntouched, hash_disk}
use Rattle.tk_util.specs.declared.call.Stop.{Stop}
use Rattle.tk_util.specs.declared.call.Stop.TheVariants as stops
use Rattle.tk_util.specs.Calls.{IsStill, StopTells}
use Rattle.tk_util.specs.Done.{CrashDone, with_status}
use Rattle.tk_util.specs.Ends.{call_end}
use Rattle.tk_util.proofs.Endings.{other_status, told_call}

pub crash_with : (r a : Result Status Stop) (s : Status) (left leaves : List ℕ → Type 0) (after : Option (List ℕ)) → CrashDone r left leaves after → a ≡ with_status r s → CrashDone a left leaves after
crash_with (Ok v) a s left leaves after done is = subst (λ (x : Result Status Stop). CrashDone x left leaves after) (sym is) done
crash_with (Err stop) a s left leaves after done is = subst (λ (x : Result Status Stop). CrashDone x left leaves after) (sym is) done

-- behind a step that leaves no more, where the call was refused
pub crash_behind : (answer : Result Status Stop) (left mid leaves : List ℕ → Type 0) (after : Option (List ℕ)) → ((place : ℕ) → answer ≡ Err (stops.Refused place) → Within left mid) → CrashDone answer mid leaves after → CrashDone answer left leaves after
crash_behind (Ok status) left mid leaves after first done = done
crash_behind (Err (stops.Refused place)) left mid leaves after first done = λ c l. first place refl c (done c l)
crash_behind (Err stops.Full) left mid leaves after first done = done
crash_behind (Err stops.Fault) left mid leaves after first done = tt
crash_behind (Err stops.NoMemory) left mid leaves after first done = tt

crash_fault : (stop : Stop) (left leaves : List ℕ → Type 0) (after : Option (List ℕ)) → stop ≡ stops.Fault → CrashDone (Err stop) left leaves after
crash_fault stop left leaves after is = subst (λ (x : Stop). CrashDone (Err x) left leaves after) (sym is) tt

-- a file that was not opened
pub crash_unopened : (cause : OpenError) (stop : Stop) (left leaves : List ℕ → Type 0) (after : Option (List ℕ)) → StopTells cause stop → ((cause ≡ errors.Fault → ⊥) → Within left leaves) → CrashDone (Err stop) left leaves after
crash_unopened errors.NotADatabase stop left leaves after is still = subst (λ (x : Stop). CrashDone (Err x) left leaves after) (sym is) (still (λ h. cc h))
crash_unopened (errors.BrokenAt place) stop left leaves after is still = subst (λ (x : Stop). CrashDone (Err x) left leaves after) (sym is) (still (λ h. cc h))
crash_unopened errors.Fault stop left leaves after is still = crash_fault stop left leaves after is
crash_unopened errors.NoMemory stop left leaves after is still = subst (λ (x : Stop). CrashDone (Err x) left leaves after) (sym is) tt

module _ {D : Type 0} (image : D → Option (List ℕ)) (may_leave : D → List ℕ → Type 0) (past : D → Past) where
  -- and one that was
  pub crash_opened : (answer : Result Status Stop) (left mid : List ℕ → Type 0) (last back : D) → ((place : ℕ) → answer ≡ Err (stops.Refused place) → ⊥) → back ≡ last → CrashDone answer mid (may_leave last) (image last) → CrashDone answer left (may_leave back) (image back)
  crash_opened answer left mid last back taken is done =
      subst (λ (d : D). CrashDone answer left (may_leave d) (image d)) (sym is) (crash_behind answer left mid (may_leave last) (image last) (λ place e. absurd (taken place e)) done)

  pub still_opened : (disk mid last back : D) → image mid ≡ image disk → Within (may_leave disk) (may_leave mid) → back ≡ last → IsStill (image mid) (image last) (may_leave mid) (may_leave last) → IsStill (image disk) (image back) (may_leave disk) (may_leave back)
  still_opened disk mid last back same within is still =
      subst (λ (d : D). IsStill (image disk) (image d) (may_leave disk) (may_leave d)) (sym is) (record { same = still.same ∙ same; crash = λ c l. within c (still.crash c l) })

  module _ (moment : D → ℕ) (left_since : D → ℕ → List ℕ → Type 0) (left_with : D → ℕ → Past × List ℕ → Type 0) where
    -- a store that was read at most, and then closed
    pub still_twice : (s t u : HashStore D) → HashUntouched image may_leave past moment left_since left_with s t → HashUntouched image may_leave past moment left_since left_with t u → IsStill (image (hash_disk s)) (image (hash_disk u)) (may_leave (hash_disk s)) (may_leave (hash_disk u))
    still_twice s t u first second = record { same = second.same ∙ first.same; crash = λ c l. first.still.crash c (second.still.crash c l) }

-- what is left by a status
abbrev pub CrashEnd : (status : ℕ) (left leaves : List ℕ → Type 0) (after : Option (List ℕ)) → Type 0
CrashEnd status left leaves after = (status ≡ 3 → Within left leaves) × ((status ≡ 0) ⊎ (status ≡ 6) → IfSome after (λ f. Only f leaves))

no_answer : (status : ℕ) → status ≢ 0 → status ≢ 6 → (status ≡ 0) ⊎ (status ≡ 6) → ⊥
no_answer status zero six (inl e) = zero e
no_answer status zero six (inr e) = six e

module _ (left leaves : List ℕ → Type 0) (after : Option (List ℕ)) where
  not_done : (status : ℕ) → status ≢ 3 → status ≢ 0 → status ≢ 6 → CrashEnd status left leaves after
  not_done status three zero six = ((λ e. absurd (three e)), (λ either. absurd (no_answer status zero six either)))

  by_call : (answer : Result Status Stop) (given : Result (Unit {0}) DiskError) → CrashDone answer left leaves after → CrashEnd (call_end answer given).status left leaves after
  by_call (Ok s) (Ok g) done = ((λ e. absurd (other_status s (ended_by s) 3 (λ h. cc h) (λ h. cc h) refl e)), (λ either. done))
  by_call (Ok s) (Err x) done = not_done 4 (λ h. cc h) (λ h. cc h) (λ h. cc h)
  by_call (Err (stops.Refused place)) given done = ((λ e. done), (λ either. absurd (no_answer 3 (λ h. cc h) (λ h. cc h) either)))
  by_call (Err stops.Full) (Ok g) done = ((λ e. absurd (cc e)), (λ either. done))
  by_call (Err stops.Full) (Err x) done = not_done 4 (λ h. cc h) (λ h. cc h) (λ h. cc h)
  by_call (Err stops.Fault) given done = not_done 4 (λ h. cc h) (λ h. cc h) (λ h. cc h)
  by_call (Err stops.NoMemory) (Ok g) done = not_done 5 (λ h. cc h) (λ h. cc h) (λ h. cc h)
  by_call (Err stops.NoMemory) (Err x) done = not_done 4 (λ h. cc h) (λ h. cc h) (λ h. cc h)

  crash_end : (answer : Result Status Stop) (given : Result (Unit {0}) DiskError) (finish : Finish) → finish ≡ call_end answer given → CrashDone answer left leaves after → CrashEnd finish.status left leaves after
  crash_end answer given finish is done = subst (λ (x : Finish). CrashEnd x.status left leaves after) (sym is) (by_call answer given done)

-- a refusal, through a folder
pub still_through : (answer : Result Status Stop) (given : Result (Unit {0}) DiskError) (finish : Finish) (left first last leaves : List ℕ → Type 0) (o : Option (List ℕ))
    → Within left first → CrashDone answer first last o → Within last leaves → finish ≡ call_end answer given → finish.status ≡ 3 → Within left leaves
still_through answer given finish left first last leaves o taken done back is e = λ c l. taken c ((crash_end first last o answer given finish is done).0 e c (back c l))

pub only_moved : (after o : Option (List ℕ)) (last leaves : List ℕ → Type 0) → after ≡ o → Within last leaves → IfSome o (λ f. Only f last) → IfSome after (λ f. Only f leaves)
only_moved None o last leaves is back only = tt
only_moved (Some f) o last leaves is back only = λ c l. told_call o f (λ g. Only g last) (sym is) only c (back c l)

-- an answer, through a folder
pub durable_through : (answer : Result Status Stop) (given : Result (Unit {0}) DiskError) (finish : Finish) (first last leaves : List ℕ → Type 0) (after o : Option (List ℕ))
    → CrashDone answer first last o → Within last leaves → after ≡ o → finish ≡ call_end answer given → (finish.status ≡ 0) ⊎ (finish.status ≡ 6) → IfSome after (λ f. Only f leaves)
durable_through answer given finish first last leaves after o done back here is either = only_moved after o last leaves here back ((crash_end first last o answer given finish is done).1 either)
