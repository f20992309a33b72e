-- What the steps of `restore` do.
use Rattle.std.proofs.Common.{◌≡◌, ◌≢◌, ◌⊎◌, ◌==◌, ◌≤◌, ◌^◌, ℕ, Bool, true, false, true≢false, List, [], ◌∷◌, length, refl, sym, ◌∙◌, ap, subst, inl, inr, arith, if◌then◌else◌}
use Rattle.std.specs.Prelude.{nat_lt, Option, Some, None, IsSome, IfSome, IfOk, IfErr, IsSomeAnd, Result, Ok, Err}
use Rattle.std.proofs.lemmas.Bool.{eq-eqb, ne_eqb}
use Rattle.std.proofs.lemmas.Bool.Decides.{nat_tests, eqb_tells}
use Rattle.tk_model.specs.declared.error.OpenError.{OpenError}
use Rattle.tk_model.specs.declared.error.OpenError.TheVariants as errors
use Rattle.tk_block.specs.Text.{static_at, is_static}
use Rattle.tk_block.proofs.Grammar.{statics}
use Rattle.tk_block.specs.declared.head.StaticHead.{StaticHead}
use Rattle.tk_append.specs.Log.{TellsCause}
use Rattle.tk_disk.specs.Folder.{or_empty, SameBut}
use Rattle.tk_disk.specs.declared.disk.DiskError.{DiskError}
use Rattle.tk_restore.specs.Reading.{IsReadFrom}
use Rattle.tk_restore.specs.Restoration.{IsRestoredFrom, IsAppending, IsWhole, restored_file, restored_records, restored_size, refusal, refused_by}
use Rattle.tk_restore.specs.declared.restore.Restoration.{Restoration}
use Rattle.tk_restore.proofs.Whole.{restored_open, file_length}
use Rattle.tk_status.specs.declared.finish.Finish.{Finish}
use Rattle.tk_status.specs.Finish.{ended, refused_at, exists_at, answered}
use Rattle.tk_util.specs.Calls.{StopTells}
use Rattle.tk_util.specs.Done.{NotTaken, counted_answer}
use Rattle.tk_util.specs.Ends.{call_end}
use Rattle.tk_util.specs.Ran.{IsRestored, RanRestore, IsClearEnd, OnlyFile, restore_fault, restore_fault_by}
use Rattle.tk_util.specs.Restoring.{ImageRead, ReadStopped, NewWritten, IsWriteStop, WroteNew, IsWriteEnd}
use Rattle.tk_util.specs.Words.{Restore, RestoreWords}
use Rattle.tk_util.specs.World.{World}
use Rattle.tk_util.specs.declared.call.Stop.{Stop}
use Rattle.tk_util.specs.declared.call.Stop.TheVariants as stops
use Rattle.tk_util.proofs.Endings.{there, has_bytes, told_call, two_names, not_status}
use Rattle.tk_util.proofs.Names.{all_same}

-- ---- a header that was read

pub fault_headless : (o : Option (List ℕ)) (found : Option StaticHead) → found ≡ None → IfSome o (λ f. found ≡ static_at f) → IfSome o (λ f. restore_fault f ≡ Some 0)
unfolding restore_fault
fault_headless None found none is = tt
fault_headless (Some f) found none is = ap (restore_fault_by f) (sym is ∙ none)

by_kind : (f : List ℕ) (h : StaticHead) (b : Bool) → (h.kind == 2) ≡ b → restore_fault_by f (Some h) ≡ (if b then Some 8 else (if nat_lt (2 ^ 40) (restored_size h f) then Some 10 else None))
by_kind f h b is = ap (λ (t : Bool). if t then Some 8 else (if nat_lt (2 ^ 40) (restored_size h f) then Some 10 else None)) is

pub fault_kind : (o : Option (List ℕ)) (found : Option StaticHead) (h : StaticHead) → found ≡ Some h → h.kind ≡ 2 → IfSome o (λ f. found ≡ static_at f) → IfSome o (λ f. restore_fault f ≡ Some 8)
unfolding restore_fault
fault_kind None found h some two is = tt
fault_kind (Some f) found h some two is = ap (restore_fault_by f) (sym is ∙ some) ∙ by_kind f h true (eq-eqb h.kind 2 two)

kinds_left : (h : StaticHead) → is_static h ≡ true → h.kind ≢ 2 → (h.kind ≡ 1) ⊎ (h.kind ≡ 3)
kinds_left h valid other = elim (eqb_tells h.kind 1) [ inl one ↦ inl one.1 | inr less ↦ inr (last_kind h valid other less.1) ]
  where
    last_kind : (h : StaticHead) → is_static h ≡ true → h.kind ≢ 2 → h.kind ≢ 1 → h.kind ≡ 3
    last_kind h valid other one = grind (arith, nat_tests)

-- it is that of a file of groups
pub is_appending : (o p : Option (List ℕ)) (found : Option StaticHead) (h : StaticHead) → p ≡ o → found ≡ Some h → is_static h ≡ true → h.kind ≢ 2 → IfSome o (λ f. found ≡ static_at f) → IfSome p IsAppending
is_appending o p found h same some valid other is = subst (λ (x : Option (List ℕ)). IfSome x IsAppending) (sym same) (appending o is)
  where
    appending : (x : Option (List ℕ)) → IfSome x (λ f. found ≡ static_at f) → IfSome x IsAppending
    appending None is = tt
    appending (Some f) is = subst (λ (s : Option StaticHead). IfSome s (λ h. (h.kind ≡ 1) ⊎ (h.kind ≡ 3))) (sym some ∙ is) (kinds_left h valid other)

by_room : (f : List ℕ) (h : StaticHead) (b : Bool) → nat_lt (2 ^ 40) (restored_size h f) ≡ b → refused_by f (Some h) ≡ (if b then Some (errors.BrokenAt 10) else None)
by_room f h b is = ap (λ (t : Bool). if t then Some (errors.BrokenAt 10) else None) is

fits : (b : Bool) → (if b then Some (errors.BrokenAt 10) else None) ≡ None → b ≡ false
fits true is = absurd (cc is)
fits false is = refl

module _ (f : List ℕ) (h : StaticHead) (static : static_at f ≡ Some h) (other : h.kind ≢ 2) where
  refused_as : refusal f ≡ (if nat_lt (2 ^ 40) (restored_size h f) then Some (errors.BrokenAt 10) else None)
  unfolding refusal
  refused_as = ap (refused_by f) static

  fault_as : restore_fault f ≡ (if nat_lt (2 ^ 40) (restored_size h f) then Some 10 else None)
  unfolding restore_fault
  fault_as = ap (restore_fault_by f) static ∙ by_kind f h false (ne_eqb h.kind 2 other)

  no_fault_there : refusal f ≡ None → restore_fault f ≡ None
  no_fault_there none = fault_as ∙ ap (λ (t : Bool). if t then Some 10 else None) (fits (nat_lt (2 ^ 40) (restored_size h f)) (sym refused_as ∙ none))

  too_long : (b : Bool) (e : OpenError) (stop : Stop) → nat_lt (2 ^ 40) (restored_size h f) ≡ b → TellsCause e (if b then Some (errors.BrokenAt 10) else None) → StopTells e stop → ImageRead f (Err stop)
  too_long true errors.NotADatabase stop is tells told = absurd (cc tells)
  too_long false errors.NotADatabase stop is tells told = absurd (cc tells)
  too_long true (errors.BrokenAt n) stop is tells told =
      let ten : Some 10 ≡ Some n = cc tells in
      subst (λ (s : Stop). ImageRead f (Err s)) (sym told) (fault_as ∙ ap (λ (t : Bool). if t then Some 10 else None) is ∙ ten)
  too_long false (errors.BrokenAt n) stop is tells told = absurd (cc tells)
  too_long b errors.Fault stop is tells told = subst (λ (s : Stop). ImageRead f (Err s)) (sym told) tt
  too_long b errors.NoMemory stop is tells told = subst (λ (s : Stop). ImageRead f (Err s)) (sym told) tt

-- what was read of it
pub image_read : (o p : Option (List ℕ)) (found : Option StaticHead) (h : StaticHead) (r : Restoration) → p ≡ o → found ≡ Some h → h.kind ≢ 2 → IfSome o (λ f. found ≡ static_at f) → IfSome p (λ f. IsReadFrom f r) → IfSome p (λ f. refusal f ≡ None) → IfSome o (λ f. ImageRead f (Ok r))
image_read None p found h r same some other is read none = tt
image_read (Some f) p found h r same some other is read none =
    (subst (λ (x : Option (List ℕ)). IfSome x (λ f. IsReadFrom f r)) same read, no_fault_there f h (sym is ∙ some) other (subst (λ (x : Option (List ℕ)). IfSome x (λ f. refusal f ≡ None)) same none))

-- why it was not
pub image_unread : (o p : Option (List ℕ)) (found : Option StaticHead) (h : StaticHead) (e : OpenError) (stop : Stop) → p ≡ o → found ≡ Some h → h.kind ≢ 2 → IfSome o (λ f. found ≡ static_at f) → IfSome p (λ f. TellsCause e (refusal f)) → StopTells e stop → IfSome o (λ f. ImageRead f (Err stop))
image_unread None p found h e stop same some other is tells told = tt
image_unread (Some f) p found h e stop same some other is tells told =
    too_long f h (sym is ∙ some) other (nat_lt (2 ^ 40) (restored_size h f)) e stop refl
    (subst (λ (x : Option OpenError). TellsCause e x) (refused_as f h (sym is ∙ some) other) (subst (λ (x : Option (List ℕ)). IfSome x (λ f. TellsCause e (refusal f))) same tells)) told

-- ---- the new file of a file that can be restored is whole

abbrev fault_of : Bool → Bool → Option ℕ
fault_of b c = if b then Some 8 else (if c then Some 10 else None)

neither : (b c : Bool) → fault_of b c ≡ None → (b ≡ false) × (c ≡ false)
neither true c none = absurd (cc none)
neither false true none = absurd (cc none)
neither false false none = (refl, refl)

pub no_fault : (f : List ℕ) (h : StaticHead) → static_at f ≡ Some h → restore_fault f ≡ None → ((h.kind == 2) ≡ false) × (nat_lt (2 ^ 40) (restored_size h f) ≡ false)
unfolding restore_fault
no_fault f h static none = neither (h.kind == 2) (nat_lt (2 ^ 40) (restored_size h f)) (ap (restore_fault_by f) (sym static) ∙ none)

pub short_enough : (n : ℕ) → nat_lt (2 ^ 40) n ≡ false → n ≤ 2 ^ 40
short_enough n is = grind (arith, nat_tests)

is_whole : (image : List ℕ) (after : Option (List ℕ)) → restore_fault image ≡ None → IsRestored image after → IsWhole image (or_empty after)
is_whole image after sound r =
    let none = no_fault image r.head r.was sound in
    let other : r.head.kind ≢ 2 = λ two. true≢false (sym (eq-eqb r.head.kind 2 two) ∙ none.0) in
    let appending : IsAppending image = subst (λ (s : Option StaticHead). IfSome s (λ h. (h.kind ≡ 1) ⊎ (h.kind ≡ 3))) (sym r.was) (kinds_left r.head (statics.found image r.head r.was).0.0 other) in
    subst (λ (o : Option (List ℕ)). IsWhole image (or_empty o)) (sym r.is)
    (restored_open image (restored_file r.head image) (length (restored_records image)) appending (omega (arith, file_length r.head image, short_enough (restored_size r.head image) none.1))
    (record { head = r.head; was = r.was; is = refl; counted = refl }))

-- ---- a folder of which a file was read

fault_empty : restore_fault [] ≡ Some 0
unfolding restore_fault static_at
fault_empty = refl

pub read_stopped : (tells : Bool) (before : Option (List ℕ)) (stop : Stop) (finish : Finish) → NotTaken false tells before stop → finish ≡ call_end (Err stop) (Ok tt) → ReadStopped tells before finish
read_stopped tells before (stops.Refused place) finish why is =
    let at : finish.place ≡ place = ap (λ (x : Finish). x.place) is in
    inl (is ∙ ap (λ (n : ℕ). refused_at 0 n) (sym at), λ told. ap (λ (o : Option (List ℕ)). restore_fault (or_empty o)) (why.2 told) ∙ fault_empty ∙ ap (λ (n : ℕ). Some n) (sym (at ∙ why.0)))
read_stopped tells before stops.Full finish why is = absurd why
read_stopped tells before stops.Fault finish why is = inr (inl is)
read_stopped tells before stops.NoMemory finish why is = inr (inr is)

-- each file stays
pub read_files : (old mid new : List ℕ → Option (List ℕ)) (name : List ℕ) (o0 o1 : Option (List ℕ)) → IsSome (old name) → o0 ≡ Some (or_empty (old name)) → o1 ≡ o0 → new name ≡ o1 → SameBut name old mid → SameBut name mid new → (m : List ℕ) → new m ≡ old m
read_files old mid new name o0 o1 some taken same back first second = all_same old new name (two_names name old mid new first second) (back ∙ same ∙ taken ∙ sym (there (old name) some))

-- ---- the new file

-- nothing was written
pub wrote_nothing : (image : List ℕ) (before after : Option (List ℕ)) → after ≡ before → WroteNew image before after (ended 5)
wrote_nothing image before after same = record {
  done = λ e. absurd (cc e);
  exists = λ e. absurd (cc e);
  bytes_stay = λ bytes. ((λ h. cc h), same);
  no_memory = λ e. ap or_empty same;
}

pub nothing_settled : {P : Type 0} (image : List ℕ) (before after : Option (List ℕ)) → after ≡ before → ((end : Finish) × IsWriteEnd end × (end.status ≢ 4) × WroteNew image before after end) ⊎ P
nothing_settled image before after same = inl (ended 5, inr (inr (inl refl)), (λ h. cc h), wrote_nothing image before after same)

counted_new : (image f : List ℕ) (after : Option (List ℕ)) (stands : Bool) (r : Result Bool Stop) → NewWritten image f after r → NewWritten image f after (counted_answer stands r)
counted_new image f after true r new = new
counted_new image f after false (Ok b) new = new
counted_new image f after false (Err (stops.Refused place)) new = new
counted_new image f after false (Err stops.Full) new = absurd new
counted_new image f after false (Err stops.Fault) new = new
counted_new image f after false (Err stops.NoMemory) new = λ bytes. new

module _ {P : Type 0} (image : List ℕ) (before after o1 : Option (List ℕ)) (back : after ≡ o1) where
  new_settled : (r : Result Bool Stop) → NewWritten image (or_empty before) o1 r → (r ≡ Err stops.Fault → P) → ((end : Finish) × IsWriteEnd end × (end.status ≢ 4) × WroteNew image before after end) ⊎ P
  new_settled (Ok true) new fault = inl (
    ended 0,
    inl refl,
    (λ h. cc h),
    record {
      done = λ e. subst (λ (o : Option (List ℕ)). IsRestored image o) (sym back) new.1;
      exists = λ e. absurd (cc e);
      bytes_stay = λ bytes. absurd (bytes new.0);
      no_memory = λ e. absurd (cc e);
    },
  )
  new_settled (Ok false) new fault = inl (
    exists_at 1,
    inr (inr (inr refl)),
    (λ h. cc h),
    record {
      done = λ e. absurd (cc e);
      exists = λ e. new.0;
      bytes_stay = λ bytes. ((λ h. cc h), back ∙ new.1 ∙ sym (has_bytes before bytes));
      no_memory = λ e. absurd (cc e);
    },
  )
  new_settled (Err (stops.Refused place)) new fault = absurd new
  new_settled (Err stops.Full) new fault = absurd new
  new_settled (Err stops.Fault) new fault = inr (fault refl)
  new_settled (Err stops.NoMemory) new fault = inl (
    ended 5,
    inr (inr (inl refl)),
    (λ h. cc h),
    record {
      done = λ e. absurd (cc e);
      exists = λ e. absurd (cc e);
      bytes_stay = λ bytes. ((λ h. cc h), back ∙ new ∙ sym (has_bytes before bytes));
      no_memory = λ e. ap or_empty (back ∙ new);
    },
  )

  -- the new file is as an end without a fault leaves it, unless its disk failed
  pub wrote_settled : (o0 : Option (List ℕ)) (stands : Bool) (r last : Result Bool Stop) → o0 ≡ Some (or_empty before) → IfSome o0 (λ f. NewWritten image f o1 r) → last ≡ counted_answer stands r → (last ≡ Err stops.Fault → P)
      → ((end : Finish) × IsWriteEnd end × (end.status ≢ 4) × WroteNew image before after end) ⊎ P
  wrote_settled o0 stands r last taken written is fault =
      new_settled last (subst (λ (x : Result Bool Stop). NewWritten image (or_empty before) o1 x) (sym is) (counted_new image (or_empty before) o1 stands r (told_call o0 (or_empty before) (λ f. NewWritten image f o1 r) taken written))) fault

module _ (image : List ℕ) (before after o1 : Option (List ℕ)) (back : after ≡ o1) where
  bytes_kept : (last : Result Bool Stop) → NewWritten image (or_empty before) o1 last → or_empty before ≢ [] → after ≡ before
  bytes_kept (Ok true) new bytes = absurd (bytes new.0)
  bytes_kept (Ok false) new bytes = back ∙ new.1 ∙ sym (has_bytes before bytes)
  bytes_kept (Err (stops.Refused place)) new bytes = absurd new
  bytes_kept (Err stops.Full) new bytes = absurd new
  bytes_kept (Err stops.Fault) new bytes = back ∙ new bytes ∙ sym (has_bytes before bytes)
  bytes_kept (Err stops.NoMemory) new bytes = back ∙ new ∙ sym (has_bytes before bytes)

  -- how the writing ended
  pub wrote_by : (o0 : Option (List ℕ)) (stands : Bool) (r last : Result Bool Stop) (finish : Finish) → o0 ≡ Some (or_empty before) → IfSome o0 (λ f. NewWritten image f o1 r) → last ≡ counted_answer stands r
      → (finish.status ≡ 0 → last ≡ Ok true) → (finish.status ≡ 7 → last ≡ Ok false) → (finish.status ≡ 5 → last ≡ Err stops.NoMemory) → WroteNew image before after finish
  wrote_by o0 stands r last finish taken written is zero seven five =
      let new : NewWritten image (or_empty before) o1 last = subst (λ (x : Result Bool Stop). NewWritten image (or_empty before) o1 x) (sym is) (counted_new image (or_empty before) o1 stands r (told_call o0 (or_empty before) (λ f. NewWritten image f o1 r) taken written)) in
      let as_true : last ≡ Ok true → (or_empty before ≡ []) × IsRestored image o1 = λ e. subst (λ (x : Result Bool Stop). NewWritten image (or_empty before) o1 x) e new in
      let as_false : last ≡ Ok false → (or_empty before ≢ []) × (o1 ≡ Some (or_empty before)) = λ e. subst (λ (x : Result Bool Stop). NewWritten image (or_empty before) o1 x) e new in
      let as_memory : last ≡ Err stops.NoMemory → o1 ≡ Some (or_empty before) = λ e. subst (λ (x : Result Bool Stop). NewWritten image (or_empty before) o1 x) e new in
      record {
        done = λ e. subst (λ (o : Option (List ℕ)). IsRestored image o) (sym back) (as_true (zero e)).1;
        exists = λ e. (as_false (seven e)).0;
        bytes_stay = λ bytes. ((λ e. bytes (as_true (zero e)).0), bytes_kept last new bytes);
        no_memory = λ e. ap or_empty (back ∙ as_memory (five e));
      }

-- a file of no length is empty
pub empty_by : (o p : Option (List ℕ)) (n : ℕ) → p ≡ o → IfSome o (λ f. n ≡ length f) → n ≤ 0 → IfSome p (λ f. f ≡ [])
empty_by o p n same long short = subst (λ (x : Option (List ℕ)). IfSome x (λ f. f ≡ [])) (sym same) (empty_of o long)
  where
    empty_list : (f : List ℕ) → n ≡ length f → f ≡ []
    empty_list [] is = refl
    empty_list (x ∷ f) is = absurd (omega (arith, is, short))

    empty_of : (x : Option (List ℕ)) → IfSome x (λ f. n ≡ length f) → IfSome x (λ f. f ≡ [])
    empty_of None long = tt
    empty_of (Some f) long = empty_list f long

-- a new file that was written
pub new_written : (image : List ℕ) (o p new : Option (List ℕ)) (n : ℕ) → p ≡ o → IfSome p (λ f. f ≡ []) → IfSome p (λ _. IsSomeAnd new (λ file. IsRestoredFrom image file n)) → IfSome o (λ f. NewWritten image f new (Ok true))
new_written image o p new n same empty restored = subst (λ (x : Option (List ℕ)). IfSome x (λ f. NewWritten image f new (Ok true))) same (there_written p empty restored)
  where
    as_new : (x : Option (List ℕ)) → IsSomeAnd x (λ file. IsRestoredFrom image file n) → IsRestored image x
    as_new None from = absurd from
    as_new (Some file) from = record { head = from.head; was = from.was; is = ap (λ (l : List ℕ). Some l) from.is }

    there_written : (x : Option (List ℕ)) → IfSome x (λ f. f ≡ []) → IfSome x (λ _. IsSomeAnd new (λ file. IsRestoredFrom image file n)) → IfSome x (λ f. NewWritten image f new (Ok true))
    there_written None empty restored = tt
    there_written (Some f) empty restored = (empty, as_new new restored)

-- what holds where it was written
pub counted_true : {P : Type 0} (stands b : Bool) (r last : Result Bool Stop) → last ≡ counted_answer stands r → last ≡ Ok b → b ≡ true → IfOk r (λ b. b ≡ true → P) → P
counted_true true b (Ok v) last is ok holds p = p (cc (is, ok, holds))
counted_true false b (Ok v) last is ok holds p = p (cc (is, ok, holds))
counted_true true b (Err stop) last is ok holds p = absurd (cc (is, ok))
counted_true false b (Err (stops.Refused place)) last is ok holds p = absurd (cc (is, ok))
counted_true false b (Err stops.Full) last is ok holds p = absurd (cc (is, ok))
counted_true false b (Err stops.Fault) last is ok holds p = absurd (cc (is, ok))
counted_true false b (Err stops.NoMemory) last is ok holds p = absurd (cc (is, ok))

counted_stop : (stands : Bool) (r : Result Bool Stop) → IfErr r IsWriteStop → IfErr (counted_answer stands r) IsWriteStop
counted_stop true r stop = stop
counted_stop false (Ok b) stop = tt
counted_stop false (Err (stops.Refused place)) stop = stop
counted_stop false (Err stops.Full) stop = tt
counted_stop false (Err stops.Fault) stop = tt
counted_stop false (Err stops.NoMemory) stop = tt

stopped_end : (stop : Stop) (given : Result (Unit {0}) DiskError) (finish : Finish) → IsWriteStop stop → finish ≡ call_end (Err stop) given → (k : ℕ) → k ≢ 4 → k ≢ 5 → finish.status ≡ k → ⊥
stopped_end (stops.Refused place) given finish may is k four five e = absurd may
stopped_end stops.Full given finish may is k four five e = absurd may
stopped_end stops.Fault given finish may is k four five e = not_status finish (ended 4) k is (λ h. four (sym h)) e
stopped_end stops.NoMemory (Ok g) finish may is k four five e = not_status finish (ended 5) k is (λ h. five (sym h)) e
stopped_end stops.NoMemory (Err x) finish may is k four five e = not_status finish (ended 4) k is (λ h. four (sym h)) e

-- a writing that stopped ends with a fault or want of memory
pub write_stopped : (stands : Bool) (r last : Result Bool Stop) (stop : Stop) (given : Result (Unit {0}) DiskError) (finish : Finish) → IfErr r IsWriteStop → last ≡ counted_answer stands r → last ≡ Err stop → finish ≡ call_end (Err stop) given → (k : ℕ) → k ≢ 4 → k ≢ 5 → finish.status ≡ k → ⊥
write_stopped stands r last stop given finish may is err at =
    stopped_end stop given finish (subst (λ (x : Result Bool Stop). IfErr x IsWriteStop) err (subst (λ (x : Result Bool Stop). IfErr x IsWriteStop) (sym is) (counted_stop stands r may))) at

abbrev pub is_err : Stop → Result Bool Stop
is_err stop = Err stop

-- want of memory
pub memory_stop : (stop : Stop) (given : Result (Unit {0}) DiskError) (finish : Finish) → finish ≡ call_end (Err stop) given → finish.status ≡ 5 → is_err stop ≡ is_err stops.NoMemory
memory_stop stop given finish is e = ap is_err (by_memory stop given is)
  where
    by_memory : (s : Stop) (given : Result (Unit {0}) DiskError) → finish ≡ call_end (Err s) given → s ≡ stops.NoMemory
    by_memory (stops.Refused place) given at = absurd (not_status finish (refused_at 0 place) 5 at (λ h. cc h) e)
    by_memory stops.Full (Ok g) at = absurd (not_status finish (answered 21) 5 at (λ h. cc h) e)
    by_memory stops.Full (Err x) at = absurd (not_status finish (ended 4) 5 at (λ h. cc h) e)
    by_memory stops.Fault given at = absurd (not_status finish (ended 4) 5 at (λ h. cc h) e)
    by_memory stops.NoMemory given at = refl

-- ---- the command

not_by : (finish : Finish) (k : ℕ) → IsWriteEnd finish → k ≢ 0 → k ≢ 4 → k ≢ 5 → k ≢ 7 → finish.status ≡ k → ⊥
not_by finish k (inl is) zero four five seven e = not_status finish (ended 0) k is (λ h. zero (sym h)) e
not_by finish k (inr (inl is)) zero four five seven e = not_status finish (ended 4) k is (λ h. four (sym h)) e
not_by finish k (inr (inr (inl is))) zero four five seven e = not_status finish (ended 5) k is (λ h. five (sym h)) e
not_by finish k (inr (inr (inr is))) zero four five seven e = not_status finish (exists_at 1) k is (λ h. seven (sym h)) e

there_end : (finish : Finish) → IsWriteEnd finish → finish.status ≡ 7 → finish ≡ exists_at 1
there_end finish (inl is) e = absurd (not_status finish (ended 0) 7 is (λ h. cc h) e)
there_end finish (inr (inl is)) e = absurd (not_status finish (ended 4) 7 is (λ h. cc h) e)
there_end finish (inr (inr (inl is))) e = absurd (not_status finish (ended 5) 7 is (λ h. cc h) e)
there_end finish (inr (inr (inr is))) e = is

clear_write : (c : RestoreWords) (finish : Finish) → IsWriteEnd finish → finish.status ≢ 4 → IsClearEnd (Restore c) finish.status
clear_write c finish (inl is) four = inl (ap (λ (x : Finish). x.status) is)
clear_write c finish (inr (inl is)) four = absurd (four (ap (λ (x : Finish). x.status) is))
clear_write c finish (inr (inr (inl is))) four = inr (inr (inl (ap (λ (x : Finish). x.status) is)))
clear_write c finish (inr (inr (inr is))) four = inr (inr (inr (ap (λ (x : Finish). x.status) is)))

module _ (c : RestoreWords) (before after : World) (only : OnlyFile c.to before after) where
  -- the new file was written, or there was one
  pub restored_ran : (finish : Finish) → restore_fault (or_empty (before.files c.from)) ≡ None → WroteNew (or_empty (before.files c.from)) (before.files c.to) (after.files c.to) finish → IsWriteEnd finish → RanRestore c before after finish
  restored_ran finish sound wrote ends = record {
    done = wrote.done;
    valid = λ e. is_whole (or_empty (before.files c.from)) (after.files c.to) sound (wrote.done e);
    refused = λ e. absurd (not_by finish 3 ends (λ h. cc h) (λ h. cc h) (λ h. cc h) (λ h. cc h) e);
    exists = λ e. (there_end finish ends e, wrote.exists e);
    sound = λ either. sound;
    bytes_stay = wrote.bytes_stay;
    unmade = λ either. elim either [ inl e ↦ absurd (not_by finish 3 ends (λ h. cc h) (λ h. cc h) (λ h. cc h) (λ h. cc h) e) | inr e ↦ (wrote.bytes_stay (wrote.exists e)).1 ];
    no_memory = wrote.no_memory;
    only = only;
  }

  -- that is as an end without a fault
  pub restored_settled : {P Q : Type 0} → restore_fault (or_empty (before.files c.from)) ≡ None → ((end : Finish) × IsWriteEnd end × (end.status ≢ 4) × WroteNew (or_empty (before.files c.from)) (before.files c.to) (after.files c.to) end) ⊎ P → (P → Q)
      → ((end : Finish) × IsClearEnd (Restore c) end.status × RanRestore c before after end) ⊎ Q
  restored_settled sound (inl done) rose = inl (done.0, clear_write c done.0 done.1 done.2, restored_ran done.0 sound done.3 done.1)
  restored_settled sound (inr p) rose = inr (rose p)

  -- nothing was written
  pub unread_settled : {Q : Type 0} → after.files c.to ≡ before.files c.to → ((end : Finish) × IsClearEnd (Restore c) end.status × RanRestore c before after end) ⊎ Q
  unread_settled same = inl (
    ended 5,
    inr (inr (inl refl)),
    record {
      done = λ e. absurd (cc e);
      valid = λ e. absurd (cc e);
      refused = λ e. absurd (cc e);
      exists = λ e. absurd (cc e);
      sound = λ either. absurd (elim either [ inl e ↦ cc e | inr e ↦ cc e ]);
      bytes_stay = λ bytes. ((λ h. cc h), same);
      unmade = λ either. same;
      no_memory = λ e. ap or_empty same;
      only = only;
    },
  )

-- only the new file is another
pub only_to : (old mid new : List ℕ → Option (List ℕ)) (name : List ℕ) → ((m : List ℕ) → mid m ≡ old m) → SameBut name mid new → SameBut name old new
only_to old mid new name same others = λ m ne. others m ne ∙ same m

-- the same, from what stood there before
pub settled_at : {P : Type 0} (image : List ℕ) (before between after : Option (List ℕ)) → between ≡ before → ((end : Finish) × IsWriteEnd end × (end.status ≢ 4) × WroteNew image between after end) ⊎ P → ((end : Finish) × IsWriteEnd end × (end.status ≢ 4) × WroteNew image before after end) ⊎ P
settled_at {P = P} image before between after same ends_clearly = subst (λ (o : Option (List ℕ)). ((end : Finish) × IsWriteEnd end × (end.status ≢ 4) × WroteNew image o after end) ⊎ P) same ends_clearly
