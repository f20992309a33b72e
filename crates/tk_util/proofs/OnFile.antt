-- A command on its file, by its call and by giving the disk back.
use Rattle.std.proofs.Common.{◌≡◌, ◌≢◌, ℕ, Bool, true, false, List, refl, sym, ◌∙◌, ap, subst, inl, inr}
use Rattle.std.specs.Prelude.{Option, Some, None, IsSome, IfSome, IfOk, Result, Ok, Err, ◌⊎◌}
use Rattle.tk_disk.specs.Disk.{Rose}
use Rattle.tk_disk.specs.Folder.{or_empty}
use Rattle.tk_disk.specs.declared.disk.DiskError.{DiskError}
use Rattle.std.proofs.lemmas.Option.{IfSome_then}
use Rattle.tk_proc.specs.Replies.{Reply, get_reply, set_reply, remove_reply}
use Rattle.tk_status.specs.declared.Status.{Status}
use Rattle.tk_status.specs.declared.finish.Finish.{Finish}
use Rattle.tk_status.specs.Finish.{ended, refused_at}
use Rattle.tk_util.specs.declared.call.Stop.{Stop}
use Rattle.tk_util.specs.declared.call.Stop.TheVariants as stops
use Rattle.tk_util.specs.declared.words.FileCommand.{FileCommand}
use Rattle.tk_util.specs.declared.words.FileCommand.TheVariants as asked
use Rattle.tk_util.specs.Asked.{file_said, set_said}
use Rattle.tk_util.specs.Done.{IsMade, CallDone, GetDone, SetDone, FreshAnswer, CommandDone, NotTaken, RanOnFile, counted_answer}
use Rattle.tk_util.specs.Ends.{call_end}
use Rattle.tk_util.specs.Ran.{RanSet, RanFile, EndsClearly, IsClear, IsClearEnd, IsRunStatus, RoseOf, OnlyFile, file_of, creates, set_text}
use Rattle.tk_util.specs.Words.{SetWords}
use Rattle.tk_util.specs.World.{World}
use Rattle.tk_util.proofs.Endings.{ran, ran_absent, ran_stopped, empty_refused, there, has_bytes, told_call, found_call, not_status}
use Rattle.tk_util.proofs.Names.{all_same}
use Rattle.tk_util.proofs.SetEndings.{ok_fresh, fresh_end, memory_end}

abbrev file_in : FileCommand → List ℕ
file_in a = file_of (file_said a)

module _ (before after : World) (answer : Result Status Stop) (given : Result (Unit {0}) DiskError) (finish : Finish) (is : finish ≡ call_end answer given) (o0 o1 : Option (List ℕ)) where
  set_done : (c : SetWords) → SetDone c.key c.value (or_empty (before.files c.file)) o1 answer → after.files c.file ≡ o1 → OnlyFile c.file before after → RanSet c before after finish
  set_done c done back only = record {
    fresh = λ empty e. back ∙ ok_fresh answer given finish (o1 ≡ Some (set_text c.key c.value)) is e (done.fresh empty);
    fresh_ends = λ empty. fresh_end answer given finish (done.fresh_ends empty) is;
    more = λ bytes. ran true (set_reply c.value true) c.key (before.files c.file) (after.files c.file) o1 finish (has_bytes (before.files c.file) bytes) back answer given (done.more bytes) is;
    no_memory = λ e. ap or_empty (back ∙ done.no_memory (memory_end answer given finish is e));
    only = only;
  }

  -- the call was made
  pub on_file_done : (a : FileCommand) (value : Option (List ℕ)) → (creates (file_said a) ≡ false → IsSome (before.files (file_in a))) → o0 ≡ Some (or_empty (before.files (file_in a)))
      → IfSome o0 (λ f. CommandDone a f o1 value answer) → after.files (file_in a) ≡ o1 → OnlyFile (file_in a) before after → RanOnFile a before after value finish
  on_file_done (asked.Get c) value present taken call back only =
      let f : List ℕ = or_empty (before.files c.file.now) in
      let some : before.files c.file.now ≡ Some f = there (before.files c.file.now) (present refl) in
      let got : GetDone c.key.now f o1 value answer = told_call o0 f (λ g. GetDone c.key.now g o1 value answer) taken call in
      record {
        call = ran false get_reply c.key.now (before.files c.file.now) (after.files c.file.now) o1 finish some back answer given got.call is;
        files = all_same before.files after.files c.file.now only.others (back ∙ got.still ∙ sym some);
        found = λ e. found_call c.key.now f o1 value answer given finish got.found is e;
      }
  on_file_done (asked.Set c) value present taken call back only =
      let done : SetDone c.key.now c.value.now (or_empty (before.files c.file.now)) o1 answer × (value ≡ None) =
      told_call o0 (or_empty (before.files c.file.now)) (λ g. SetDone c.key.now c.value.now g o1 answer × (value ≡ None)) taken call in
      (set_done (set_said c) done.0 back only, done.1)
  on_file_done (asked.Remove c) value present taken call back only =
      let f : List ℕ = or_empty (before.files c.file.now) in
      let done : CallDone true remove_reply c.key.now f o1 answer × (value ≡ None) = told_call o0 f (λ g. CallDone true remove_reply c.key.now g o1 answer × (value ≡ None)) taken call in (
        record {
          call = ran true remove_reply c.key.now (before.files c.file.now) (after.files c.file.now) o1 finish (there (before.files c.file.now) (present refl)) back answer given done.0 is;
          only = only;
        },
        done.1,
      )

-- a call's end without a fault is one of its command
pub clear_end : (a : FileCommand) (status : ℕ) → IsClear status → IsClearEnd (file_said a) status
clear_end (asked.Get c) status clear = clear
clear_end (asked.Set c) status clear = clear
clear_end (asked.Remove c) status clear = clear

-- a fault of its disk
pub rose_of : (a : FileCommand) (old new : List ℕ → ℕ) → Rose (old (file_in a)) (new (file_in a)) → RoseOf (file_said a) old new
rose_of (asked.Get c) old new rose = rose
rose_of (asked.Set c) old new rose = rose
rose_of (asked.Remove c) old new rose = rose

-- it ends with one of its statuses
pub run_status : (a : FileCommand) (finish : Finish) → (finish.status ≡ 4) ⊎ IsClear finish.status → IsRunStatus (file_said a) finish.status
run_status a finish (inl fault) = inl fault
run_status a finish (inr clear) = inr (clear_end a finish.status clear)

-- what it did to its file
pub file_ran : (a : FileCommand) (before after : World) (value : Option (List ℕ)) (finish : Finish) → RanOnFile a before after value finish → RanFile (file_said a) before after finish
file_ran (asked.Get c) before after value finish done = done.call
file_ran (asked.Set c) before after value finish done = done.0
file_ran (asked.Remove c) before after value finish done = done.0.call

module _ (before after : World) where
  stopped_set : (c : SetWords) (finish : Finish) → (finish ≡ ended 4) ⊎ (finish ≡ ended 5) → after.files c.file ≡ before.files c.file → OnlyFile c.file before after → RanSet c before after finish
  stopped_set c finish why same only =
      let other : (k : ℕ) → k ≢ 4 → k ≢ 5 → finish.status ≡ k → ⊥ = λ k four five. elim why [ inl is ↦ not_status finish (ended 4) k is (λ h. four (sym h)) | inr is ↦ not_status finish (ended 5) k is (λ h. five (sym h)) ] in
      record {
        fresh = λ empty e. absurd (other 0 (λ h. cc h) (λ h. cc h) e);
        fresh_ends = λ empty. (other 3 (λ h. cc h) (λ h. cc h), other 6 (λ h. cc h) (λ h. cc h));
        more = λ bytes. ran_stopped true (set_reply c.value true) c.key (before.files c.file) (after.files c.file) finish why same;
        no_memory = λ e. ap or_empty same;
        only = only;
      }

  stopped : (a : FileCommand) (value : Option (List ℕ)) (finish : Finish) → (finish ≡ ended 4) ⊎ (finish ≡ ended 5) → value ≡ None → after.files (file_in a) ≡ before.files (file_in a) → OnlyFile (file_in a) before after → RanOnFile a before after value finish
  stopped (asked.Get c) value finish why none same only = record {
    call = ran_stopped false get_reply c.key.now (before.files c.file.now) (after.files c.file.now) finish why same;
    files = all_same before.files after.files c.file.now only.others same;
    found = λ e. absurd (elim why [ inl is ↦ not_status finish (ended 4) 0 is (λ h. cc h) e | inr is ↦ not_status finish (ended 5) 0 is (λ h. cc h) e ]);
  }
  stopped (asked.Set c) value finish why none same only = (stopped_set (set_said c) finish why same only, none)
  stopped (asked.Remove c) value finish why none same only = (record { call = ran_stopped true remove_reply c.key.now (before.files c.file.now) (after.files c.file.now) finish why same; only = only }, none)

  absent : (a : FileCommand) (value : Option (List ℕ)) (finish : Finish) → finish ≡ refused_at 0 0 → creates (file_said a) ≡ false → before.files (file_in a) ≡ None → value ≡ None → after.files (file_in a) ≡ before.files (file_in a) → OnlyFile (file_in a) before after
      → RanOnFile a before after value finish
  absent (asked.Get c) value finish is may gone none same only = record {
    call = ran_absent false get_reply c.key.now (before.files c.file.now) (after.files c.file.now) finish (empty_refused false) gone same is;
    files = all_same before.files after.files c.file.now only.others same;
    found = λ e. absurd (not_status finish (refused_at 0 0) 0 is (λ h. cc h) e);
  }
  absent (asked.Set c) value finish is may gone none same only = absurd (cc may)
  absent (asked.Remove c) value finish is may gone none same only = (record { call = ran_absent true remove_reply c.key.now (before.files c.file.now) (after.files c.file.now) finish (empty_refused true) gone same is; only = only }, none)

  module _ (a : FileCommand) (tells : Bool) (value : Option (List ℕ)) (told : tells ≡ true) (none : value ≡ None) (same : after.files (file_in a) ≡ before.files (file_in a)) (only : OnlyFile (file_in a) before after) where
    -- the disk was not taken
    pub not_taken : (stop : Stop) (finish : Finish) → NotTaken (creates (file_said a)) tells (before.files (file_in a)) stop → finish ≡ call_end (Err stop) (Ok tt) → RanOnFile a before after value finish
    not_taken (stops.Refused place) finish why is = absent a value finish (is ∙ ap (λ (n : ℕ). refused_at 0 n) why.0) why.1 (why.2 told) none same only
    not_taken stops.Full finish why is = absurd why
    not_taken stops.Fault finish why is = stopped a value finish (inl is) none same only
    not_taken stops.NoMemory finish why is = stopped a value finish (inr is) none same only

    -- that is as an end without a fault
    pub not_taken_settled : (stop : Stop) → NotTaken (creates (file_said a)) tells (before.files (file_in a)) stop → EndsClearly (file_said a) before after
    not_taken_settled (stops.Refused place) why = (refused_at 0 place, clear_end a 3 (inr (inl refl)), file_ran a before after value (refused_at 0 place) (not_taken (stops.Refused place) (refused_at 0 place) why refl))
    not_taken_settled stops.Full why = absurd why
    not_taken_settled stops.Fault why = (ended 5, clear_end a 5 (inr (inr (inl refl))), file_ran a before after value (ended 5) (stopped a value (ended 5) (inr refl) none same only))
    not_taken_settled stops.NoMemory why = (ended 5, clear_end a 5 (inr (inr (inl refl))), file_ran a before after value (ended 5) (stopped a value (ended 5) (inr refl) none same only))

counted_call : (writable : Bool) (reply : Option (List ℕ) → Reply) (key f : List ℕ) (after : Option (List ℕ)) (stands : Bool) (answer : Result Status Stop) → CallDone writable reply key f after answer → CallDone writable reply key f after (counted_answer stands answer)
counted_call writable reply key f after true answer done = done
counted_call writable reply key f after false (Ok s) done = done
counted_call writable reply key f after false (Err (stops.Refused place)) done = done
counted_call writable reply key f after false (Err stops.Full) done = tt
counted_call writable reply key f after false (Err stops.Fault) done = tt
counted_call writable reply key f after false (Err stops.NoMemory) done = tt

counted_found : (A : Status → Type 0) (stands : Bool) (answer : Result Status Stop) → IfOk answer A → IfOk (counted_answer stands answer) A
counted_found A true answer found = found
counted_found A false (Ok s) found = found
counted_found A false (Err (stops.Refused place)) found = tt
counted_found A false (Err stops.Full) found = tt
counted_found A false (Err stops.Fault) found = tt
counted_found A false (Err stops.NoMemory) found = tt

counted_fresh : (stands : Bool) (answer : Result Status Stop) → FreshAnswer answer → FreshAnswer (counted_answer stands answer)
counted_fresh true answer fresh = fresh
counted_fresh false (Ok s) fresh = fresh
counted_fresh false (Err (stops.Refused place)) fresh = fresh
counted_fresh false (Err stops.Full) fresh = tt
counted_fresh false (Err stops.Fault) fresh = tt
counted_fresh false (Err stops.NoMemory) fresh = tt

counted_memory : (stands : Bool) (answer : Result Status Stop) → counted_answer stands answer ≡ Err stops.NoMemory → answer ≡ Err stops.NoMemory
counted_memory true answer is = is
counted_memory false (Ok s) is = absurd (cc is)
counted_memory false (Err (stops.Refused place)) is = is
counted_memory false (Err stops.Full) is = absurd (cc is)
counted_memory false (Err stops.Fault) is = absurd (cc is)
counted_memory false (Err stops.NoMemory) is = refl

counted_set : (key value f : List ℕ) (after : Option (List ℕ)) (stands : Bool) (answer : Result Status Stop) → SetDone key value f after answer → SetDone key value f after (counted_answer stands answer)
counted_set key value f after stands answer done = record {
  fresh = λ empty. counted_found (λ _. after ≡ Some (set_text key value)) stands answer (done.fresh empty);
  fresh_ends = λ empty. counted_fresh stands answer (done.fresh_ends empty);
  more = λ bytes. counted_call true (set_reply value true) key f after stands answer (done.more bytes);
  no_memory = λ is. done.no_memory (counted_memory stands answer is);
}

counted_done : (a : FileCommand) (f : List ℕ) (after value : Option (List ℕ)) (stands : Bool) (answer : Result Status Stop) → CommandDone a f after value answer → CommandDone a f after value (counted_answer stands answer)
counted_done (asked.Get c) f after value stands answer done = record {
  call = counted_call false get_reply c.key.now f after stands answer done.call;
  found = counted_found (λ s. IsMade false get_reply c.key.now f after value × (s ≡ (get_reply value).status)) stands answer done.found;
  still = done.still;
}
counted_done (asked.Set c) f after value stands answer done = (counted_set c.key.now c.value.now f after stands answer done.0, done.1)
counted_done (asked.Remove c) f after value stands answer done = (counted_call true remove_reply c.key.now f after stands answer done.0, done.1)

-- the same, with the answer by the disk's count
pub on_file_counted : {D : Type 0} (image : D → Option (List ℕ)) (a : FileCommand) (o value : Option (List ℕ)) (d : D) (answer last : Result Status Stop) (stands : Bool) → last ≡ counted_answer stands answer
    → IfSome o (λ f. CommandDone a f (image d) value answer) → IfSome o (λ f. CommandDone a f (image d) value last)
on_file_counted image a o value d answer last stands is done = IfSome_then o done (λ f x. subst (λ (r : Result Status Stop). CommandDone a f (image d) value r) (sym is) (counted_done a f (image d) value stands answer x))
