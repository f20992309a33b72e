-- The call of a ready processor is its reply.
use Rattle.std.proofs.Common.{◌≡◌, ℕ, Bool, true, false, List, [], refl, sym, ◌∙◌, ap, subst, if◌then◌else◌}
use Rattle.std.specs.Prelude.{Option, Some, None, IfSome, IfOk, Result, Ok, Err}
use Rattle.tk_model.specs.Records.{replay}
use Rattle.tk_model.specs.declared.record.Order.TheVariants.{Hash}
use Rattle.tk_model.specs.declared.record.Group.{Group}
use Rattle.tk_model.specs.declared.record.Change.{Change}
use Rattle.tk_model.specs.declared.record.Action.{Action}
use Rattle.tk_model.specs.declared.record.Action.TheVariants.{Keep}
use Rattle.tk_status.specs.declared.Status.{Status}
use Rattle.tk_proc.specs.Replies.{Reply, get_reply}
use Rattle.tk_proc.specs.Runs.{is_long, unless_long, action_changes}
use Rattle.tk_store.specs.OneRecord.{call_changes}
use Rattle.tk_util.specs.declared.call.Stop.{Stop}
use Rattle.tk_util.specs.declared.call.Stop.TheVariants.{Refused, Full, Fault, NoMemory}
use Rattle.tk_util.specs.Calls.{Made, NoRoom, RefusedAt, exceeds_limit, called_file}
use Rattle.tk_util.specs.Ran.{value_in, reply_changes}
use Rattle.tk_util.specs.Done.{IsMade, CallDone, GetDone, with_status}

pick_short : (long : Bool) (a : Action) → long ≡ false → (if long then Keep else a) ≡ a
pick_short true a e = absurd (cc)
pick_short false a e = refl

module _ {P : Type 0} (acts : P → List ℕ → Option (List ℕ) → Action) (turns : P → List ℕ → Option (List ℕ) → P) (reply : Option (List ℕ) → Reply) (key : List ℕ) (old : P)
    (agree : (was : Option (List ℕ)) → acts old key was ≡ (reply was).action) (fits : (was : Option (List ℕ)) → is_long (reply was).action ≡ false) where
  pub changes_same : (groups : List Group) → call_changes acts old key (replay Hash groups []) ≡ reply_changes reply groups key
  changes_same groups =
      ap (λ (a : Action). action_changes key (value_in groups key) a) (ap unless_long (agree (value_in groups key)) ∙ pick_short (is_long (reply (value_in groups key)).action) (reply (value_in groups key)).action (fits (value_in groups key)))

  made_is : (writable : Bool) (f : List ℕ) (new : P) (after : Option (List ℕ)) (status : Status) → (m : Made acts turns writable f key old new after status) → IsMade writable reply key f after (value_in m.holds.groups key)
  made_is writable f new after status m = record {
    holds = m.holds;
    was_is = refl;
    room = ap (λ (cs : List Change). exceeds_limit f cs) (sym (changes_same m.holds.groups)) ∙ ap (λ (g : List ℕ). exceeds_limit g (call_changes acts old key (replay Hash m.holds.groups []))) m.holds.file ∙ m.made.room;
    after_is = m.made.after_is ∙ ap (λ (cs : List Change). Some (called_file writable m.holds.head m.holds.groups m.holds.next cs)) (changes_same m.holds.groups);
  }

  done_of : (writable : Bool) (f : List ℕ) (new : P) (after : Option (List ℕ)) (r : Result Status Stop) (s : Status)
      → IfOk r (Made acts turns writable f key old new after) → (r ≡ Err Full → NoRoom acts writable f key old after)
      → ((place : ℕ) → r ≡ Err (Refused place) → RefusedAt writable f place × (after ≡ Some f)) → (r ≡ Err NoMemory → after ≡ Some f)
      → ((was : Option (List ℕ)) → new ≡ turns old key was → s ≡ (reply was).status) → CallDone writable reply key f after (with_status r s)
  done_of writable f new after (Ok v) s made full refused memory status = (value_in made.holds.groups key, made_is writable f new after v made, status (value_in made.holds.groups key) made.made.turned)
  done_of writable f new after (Err (Refused place)) s made full refused memory status = refused place refl
  done_of writable f new after (Err Full) s made full refused memory status =
      let n = full refl in
      record {
        holds = n.holds;
        full = ap (λ (cs : List Change). exceeds_limit f cs) (sym (changes_same n.holds.groups)) ∙ ap (λ (g : List ℕ). exceeds_limit g (call_changes acts old key (replay Hash n.holds.groups []))) n.holds.file ∙ n.full.full;
        after_is = n.full.after_is ∙ ap (λ (g : List ℕ). Some g) (sym n.holds.file);
      }
  done_of writable f new after (Err Fault) s made full refused memory status = tt
  done_of writable f new after (Err NoMemory) s made full refused memory status = memory refl

  -- the call, where the disk tells
  pub called_done : (o : Option (List ℕ)) (writable : Bool) (new : P) (after : Option (List ℕ)) (r a : Result Status Stop) (s : Status)
      → IfSome o (λ f. IfOk r (Made acts turns writable f key old new after)) → IfSome o (λ f. r ≡ Err Full → NoRoom acts writable f key old after)
      → IfSome o (λ f. (place : ℕ) → r ≡ Err (Refused place) → RefusedAt writable f place × (after ≡ Some f)) → IfSome o (λ f. r ≡ Err NoMemory → after ≡ Some f)
      → ((was : Option (List ℕ)) → new ≡ turns old key was → s ≡ (reply was).status) → a ≡ with_status r s
      → IfSome o (λ f. CallDone writable reply key f after a)
  called_done None writable new after r a s made full refused memory status is = tt
  called_done (Some f) writable new after r a s made full refused memory status is =
      subst (λ (x : Result Status Stop). CallDone writable reply key f after x) (sym is) (done_of writable f new after r s made full refused memory status)

  value_of : (writable : Bool) (f : List ℕ) (new : P) (after : Option (List ℕ)) (r : Result Status Stop) (s : Status) (value : Option (List ℕ)) → ((was : Option (List ℕ)) → new ≡ turns old key was → value ≡ was)
      → IfOk r (Made acts turns writable f key old new after) → IfOk (with_status r s) (λ _. IsMade writable reply key f after value)
  unfolding made_is
  value_of writable f new after (Ok v) s value turned made =
      let m = made_is writable f new after v made in
      record { holds = m.holds; was_is = turned (value_in made.holds.groups key) made.made.turned; room = m.room; after_is = m.after_is }
  value_of writable f new after (Err stop) s value turned made = tt

  -- the value that a reader found
  pub value_made : (o : Option (List ℕ)) (writable : Bool) (new : P) (after : Option (List ℕ)) (r a : Result Status Stop) (s : Status) (value : Option (List ℕ)) → ((was : Option (List ℕ)) → new ≡ turns old key was → value ≡ was)
      → IfSome o (λ f. IfOk r (Made acts turns writable f key old new after)) → a ≡ with_status r s → IfSome o (λ f. IfOk a (λ _. IsMade writable reply key f after value))
  value_made None writable new after r a s value turned made is = tt
  value_made (Some f) writable new after r a s value turned made is =
      subst (λ (x : Result Status Stop). IfOk x (λ _. IsMade writable reply key f after value)) (sym is) (value_of writable f new after r s value turned made)

made_with : (made : Type 0) (a r : Result Status Stop) (s status : Status) → IfOk a (λ _. made) → a ≡ with_status r s → s ≡ status → IfOk a (λ v. made × (v ≡ status))
made_with made (Ok v) (Ok w) s status m is e = (m, cc)
made_with made (Ok v) (Err stop) s status m is e = absurd (cc is)
made_with made (Err stop) r s status m is e = tt

-- a look-up, where the disk tells
pub get_done : (o : Option (List ℕ)) (key : List ℕ) (after value : Option (List ℕ)) (a r : Result Status Stop) (s : Status) → IfSome o (λ f. CallDone false get_reply key f after a) → IfSome o (λ f. IfOk a (λ _. IsMade false get_reply key f after value))
    → a ≡ with_status r s → s ≡ (get_reply value).status → after ≡ o → IfSome o (λ f. GetDone key f after value a)
get_done None key after value a r s call made is e same = tt
get_done (Some f) key after value a r s call made is e same = record { call = call; found = made_with (IsMade false get_reply key f after value) a r s (get_reply value).status made is e; still = same }
